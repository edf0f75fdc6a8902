-- The place of the page that holds an address.
use Rattle.std.proofs.Common.{◌≡◌, ℕ, zero, suc, ◌+◌, ◌-◌, ◌*◌, ◌%◌, ◌^◌, ◌<◌, ◌≤◌, Bool, true, false, not, cond, eqb, ltb, List, [], ◌∷◌, ◌++◌, length, get_or, is_some, Some, None, Option, sym, refl, ap, ◌∙◌, ⊎_elim, arith}
use Rattle.std.specs.Option.{option_map}
use Rattle.std.specs.List.{position, position_or_len}
use Rattle.std.proofs.Math.ListN.{get_or-append}
use Rattle.std.proofs.Math.Seq.{get_or-append_seam}
use Rattle.std.proofs.lemmas.Bool.{cond-true, cond-false, both_ways, cases_eq, cases_lt, eq-eqb, ne_eqb, le-ltb, lt-ltb}
use Rattle.std.proofs.lemmas.Bool.Decides.{nat_tests}
use Rattle.memory.specs.Kinds.{inside}
use Rattle.paged.specs.declared.page.Page.{Page}
use Rattle.paged.specs.declared.page.Place.{Place}
use Rattle.paged.specs.Pages.{Separate, index_of, no_page, place_for}

-- an address lies in the page whose base it has when it is rounded down
holds : (base a : ℕ) → a < 2 ^ 64 → base ≡ a - a % 4096 → inside base 4096 a ≡ true
holds base a top e = grind (arith, nat_tests)

holds_not : (base a : ℕ) → base % 4096 ≡ 0 → (base ≡ a - a % 4096 → ⊥) → inside base 4096 a ≡ false
holds_not base a aligned ne = grind (arith, nat_tests)

-- which page holds an address, by its base
abbrev pub at_base : ℕ → Page → Bool
at_base base page = eqb page.base base

inside_at : (base a : ℕ) → base % 4096 ≡ 0 → a < 2 ^ 64 → inside base 4096 a ≡ eqb base (a - a % 4096)
inside_at base a aligned top =
    ⊎_elim (λ e. holds base a top e ∙ sym (eq-eqb _ _ e)) (λ ne. holds_not base a aligned ne ∙ sym (ne_eqb _ _ ne)) (cases_eq base (a - a % 4096))

position-step : (t : Bool) (n len : ℕ) → cond (ltb (cond (not t) (1 + n) 0) (suc len)) (Some (cond (not t) (1 + n) 0)) None ≡ cond t (Some 0) (option_map suc (cond (ltb n len) (Some n) None))
position-step true n len = cond-true _ _ _ (lt-ltb 0 (suc len) (omega arith))
position-step false n len =
    ⊎_elim (λ h. cond-true _ _ _ (lt-ltb (1 + n) (suc len) (omega arith)) ∙ ap Some (omega arith) ∙ sym (ap (option_map suc) (cond-true _ _ _ (lt-ltb n len h))))
    (λ h. cond-false _ _ _ (le-ltb (1 + n) (suc len) (omega arith)) ∙ sym (ap (option_map suc) (cond-false _ _ _ (le-ltb n len h)))) (cases_lt n len)

aligned-position : (ps : List Page) → ((i : ℕ) → i < length ps → (get_or ps i no_page).base % 4096 ≡ 0) → (a : ℕ) → a < 2 ^ 64 → index_of ps a ≡ position (at_base (a - a % 4096)) ps
unfolding index_of
aligned-position [] aligned a top = refl
aligned-position (p ∷ ps) aligned a top =
    ap (λ b. cond b (Some 0) (option_map suc (index_of ps a))) (inside_at p.base a (aligned 0 (omega arith)) top)
    ∙ ap (λ o. cond (at_base (a - a % 4096) p) (Some 0) (option_map suc o)) (aligned-position ps (λ i h. aligned (suc i) (omega arith)) a top)
    ∙ sym (position-step (at_base (a - a % 4096) p) (position_or_len (at_base (a - a % 4096)) ps) (length ps))

index-some : (ps : List Page) (a i : ℕ) → i < length ps → inside (get_or ps i no_page).base 4096 a ≡ true → is_some (index_of ps a) ≡ true
unfolding index_of
index-some [] a i h here = absurd (omega arith)
index-some (p ∷ ps) a zero h here = ap is_some (cond-true _ (Some 0) (option_map suc (index_of ps a)) here)
index-some (p ∷ ps) a (suc i) h here = later (inside p.base 4096 a) (index_of ps a) (index-some ps a i (omega arith) here)
  where
    later : (b : Bool) (o : Option ℕ) → is_some o ≡ true → is_some (cond b (Some 0) (option_map suc o)) ≡ true
    later true o e = refl
    later false (Some k) e = refl
    later false None e = e

-- the page that is found is in the list and holds the address
abbrev pub Held : List Page → ℕ → ℕ → Type 0
Held ps a i = (i < length ps) × (inside (get_or ps i no_page).base 4096 a ≡ true)

pub index-holds : (ps : List Page) (a i : ℕ) → index_of ps a ≡ Some i → Held ps a i
unfolding index_of
index-holds [] a i e = absurd (let z : ◌≡◌ {A = ℕ} 0 1 = cc in omega arith)
index-holds (p ∷ ps) a i e = here (inside p.base 4096 a) (index_of ps a) refl (index-holds ps a) e
  where
    here : (b : Bool) (o : Option ℕ) → inside p.base 4096 a ≡ b → ((k : ℕ) → o ≡ Some k → Held ps a k) → cond b (Some 0) (option_map suc o) ≡ Some i → Held (p ∷ ps) a i
    here true o t rest e' =
        let z : 0 ≡ i = cc in
        (omega arith, ap (λ k. inside (get_or (p ∷ ps) k no_page).base 4096 a) (sym z) ∙ t)
    here false None t rest e' = absurd (let z : ◌≡◌ {A = ℕ} 0 1 = cc in omega arith)
    here false (Some k) t rest e' =
        let z : suc k ≡ i = cc in
        let r = rest k refl in
        (omega arith, ap (λ j. inside (get_or (p ∷ ps) j no_page).base 4096 a) (sym z) ∙ r.1)

-- every page of the list begins at a multiple of the page's size
abbrev pub Aligned : List Page → Type 0
Aligned ps = (i : ℕ) → i < length ps → (get_or ps i no_page).base % 4096 ≡ 0

inside-same : (base a k : ℕ) → base % 4096 ≡ 0 → a < 2 ^ 64 → k < 4096 - a % 4096 → inside base 4096 (a + k) ≡ inside base 4096 a
inside-same base a k aligned top near = grind (arith, nat_tests)

-- two addresses of one page have one place in the list
pub index_same : (ps : List Page) → Aligned ps → (a k : ℕ) → a < 2 ^ 64 → k < 4096 - a % 4096 → index_of ps (a + k) ≡ index_of ps a
unfolding index_of
index_same [] aligned a k top near = refl
index_same (p ∷ ps) aligned a k top near =
    let here = inside-same p.base a k (aligned 0 (omega arith)) top near in
    let rest = index_same ps (λ i h. aligned (suc i) (omega arith)) a k top near in
    ap (λ b. cond b (Some 0) (option_map suc (index_of ps (a + k)))) here ∙ ap (λ o. cond (inside p.base 4096 a) (Some 0) (option_map suc o)) rest

abbrev pub placed : List Page → ℕ → ℕ → Place
placed ps a i = record { offset = 4096 * i + (a - (get_or ps i no_page).base); rights = (get_or ps i no_page).rights }

-- the page of a place that was found
pub found : (ps : List Page) (a : ℕ) (p : Place) → place_for ps a ≡ Some p → (i : ℕ) × (index_of ps a ≡ Some i) × (p ≡ placed ps a i)
found ps a p e = go (index_of ps a) refl e
  where
    go : (o : Option ℕ) → index_of ps a ≡ o → option_map (placed ps a) o ≡ Some p → (i : ℕ) × (index_of ps a ≡ Some i) × (p ≡ placed ps a i)
    go None q e' = absurd (let z : ◌≡◌ {A = ℕ} 0 1 = cc in omega arith)
    go (Some i) q e' = (i, q, cc)

-- where no address lies there is no page
pub unplaced : (ps : List Page) (a : ℕ) (o : Option Place) → o ≡ place_for ps a → is_some o ≡ false → is_some (index_of ps a) ≡ false
unplaced ps a o e none = go (index_of ps a) (sym (ap is_some e) ∙ none)
  where
    go : (i : Option ℕ) → is_some (option_map (placed ps a) i) ≡ false → is_some i ≡ false
    go None h = h
    go (Some k) h = h

-- of pages that lie apart
module _ (ps : List Page) (kept : Separate ps) (a : ℕ) (top : a < 2 ^ 64) where
  pub index-position : index_of ps a ≡ position (at_base (a - a % 4096)) ps
  index-position = aligned-position ps kept.aligned a top

  -- where no page holds a base, none has it
  pub unfound : is_some (index_of ps a) ≡ false → a % 4096 ≡ 0 → (i : ℕ) → i < length ps → (get_or ps i no_page).base ≡ a → ⊥
  unfound none even i h e = both_ways _ none (index-some ps a i h (holds _ a top (omega arith)))

-- a place along a page from its base
pub place_along : (ps : List Page) → Separate ps → (a b k : ℕ) (p : Place) → b % 4096 ≡ 0 → k < 4096 → b + k ≡ a → place_for ps b ≡ Some p → Some (record { offset = p.offset + k; rights = p.rights }) ≡ place_for ps a
place_along ps kept a b k p even near sum e =
    let i = (found ps b p e).0 in
    let at : index_of ps b ≡ Some i = (found ps b p e).1 in
    let is : p ≡ placed ps b i = (found ps b p e).2 in
    let h = index-holds ps b i at in
    let low : (get_or ps i no_page).base ≤ b = grind (arith, nat_tests) in
    let top : b < 2 ^ 64 = grind (arith, nat_tests) in
    let same : index_of ps (b + k) ≡ Some i = index_same ps kept.aligned b k top (omega arith) ∙ at in
    let o : 4096 * i + (b - (get_or ps i no_page).base) + k ≡ 4096 * i + (b + k - (get_or ps i no_page).base) = omega arith in
    ap (λ (t : Place). Some (record { offset = t.offset + k; rights = t.rights })) is ∙ ap (λ x. Some (record { offset = x; rights = (get_or ps i no_page).rights })) o ∙ sym (ap (option_map (placed ps (b + k))) same) ∙ ap (place_for ps) sum

none-by : (o : Option ℕ) → is_some o ≡ false → o ≡ None
none-by None e = refl
none-by (Some i) e = absurd (both_ways true e refl)

index-append : (ps qs : List Page) (a i : ℕ) → index_of ps a ≡ Some i → index_of (ps ++ qs) a ≡ Some i
unfolding index_of
index-append [] qs a i e = absurd (let z : ◌≡◌ {A = ℕ} 0 1 = cc in omega arith)
index-append (p ∷ ps) qs a i e = go (inside p.base 4096 a) (index_of ps a) (index-append ps qs a) e
  where
    go : (b : Bool) (o : Option ℕ) → ((j : ℕ) → o ≡ Some j → index_of (ps ++ qs) a ≡ Some j) → cond b (Some 0) (option_map suc o) ≡ Some i → cond b (Some 0) (option_map suc (index_of (ps ++ qs) a)) ≡ Some i
    go true o rest e' = e'
    go false None rest e' = absurd (let z : ◌≡◌ {A = ℕ} 0 1 = cc in omega arith)
    go false (Some j) rest e' = ap (option_map suc) (rest j refl) ∙ e'

index-last : (ps : List Page) (page : Page) (a : ℕ) → inside page.base 4096 a ≡ true → index_of ps a ≡ None → index_of (ps ++ page ∷ []) a ≡ Some (length ps)
unfolding index_of
index-last [] page a here e = cond-true _ _ _ here
index-last (p ∷ ps) page a here e = go (inside p.base 4096 a) (index_of ps a) (index-last ps page a here) e
  where
    go : (b : Bool) (o : Option ℕ) → (o ≡ None → index_of (ps ++ page ∷ []) a ≡ Some (length ps)) → cond b (Some 0) (option_map suc o) ≡ None → cond b (Some 0) (option_map suc (index_of (ps ++ page ∷ []) a)) ≡ Some (suc (length ps))
    go true o rest e' = absurd (let z : ◌≡◌ {A = ℕ} 0 1 = cc in omega arith)
    go false None rest e' = ap (option_map suc) (rest refl)
    go false (Some j) rest e' = absurd (let z : ◌≡◌ {A = ℕ} 0 1 = cc in omega arith)

-- one page more leaves the places of the others
pub place-append : (ps qs : List Page) (a : ℕ) (p : Place) → place_for ps a ≡ Some p → place_for (ps ++ qs) a ≡ Some p
place-append ps qs a p e =
    let i = (found ps a p e).0 in
    let at : index_of ps a ≡ Some i = (found ps a p e).1 in
    let is : p ≡ placed ps a i = (found ps a p e).2 in
    let h = index-holds ps a i at in
    ap (option_map (placed (ps ++ qs) a)) (index-append ps qs a i at) ∙ ap (λ (q : Page). Some (record { offset = 4096 * i + (a - q.base); rights = q.rights })) (get_or-append ps qs no_page i h.0) ∙ ap Some (sym is)

-- and has one of its own
pub place-last : (ps : List Page) (page : Page) → page.base < 2 ^ 64 → is_some (index_of ps page.base) ≡ false → place_for (ps ++ page ∷ []) page.base ≡ Some (record { offset = 4096 * length ps; rights = page.rights })
place-last ps page top none =
    let here : inside page.base 4096 page.base ≡ true = grind (arith, nat_tests) in
    let o : 4096 * length ps + (page.base - page.base) ≡ 4096 * length ps = omega arith in
    ap (option_map (placed (ps ++ page ∷ []) page.base)) (index-last ps page page.base here (none-by (index_of ps page.base) none))
    ∙ ap (λ (q : Page). Some (record { offset = 4096 * length ps + (page.base - q.base); rights = q.rights })) (get_or-append_seam ps page [] no_page)
    ∙ ap (λ x. Some (record { offset = x; rights = page.rights })) o
