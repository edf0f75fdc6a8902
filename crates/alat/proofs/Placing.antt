-- The 32 places of a table, and the list of their entries.
use Rattle.std.proofs.Common.{◌≡◌, ℕ, zero, suc, ◌+◌, ◌<◌, ◌≤◌, Bool, true, false, cond, not, eqb, ltb, List, [], ◌∷◌, ◌++◌, length, get_or, take, drop, set, replicate, filter, Some, None, Option, sym, refl, ap, ◌∙◌, subst, inl, inr, ⊎_elim, arith}
use Rattle.std.specs.List.{cons_option}
use Rattle.std.proofs.lemmas.List.{get_or-set_same, get_or-set_other, get_or-take, get_or-drop, get_or_past, get_or-replicate, length-replicate, length-take, set_split, take-append-drop, append-nil}
use Rattle.std.proofs.lemmas.List.Elements.{filter_map-append, filter-append}
use Rattle.std.proofs.lemmas.Bool.{cases_eq, cases_lt, cases_order, ltb-true, cond-true, cond-false, lt-ltb, le-ltb, eq-eqb, ne_eqb}
use Rattle.std.proofs.lemmas.Map.Entries.{option_filter}
use Rattle.std.proofs.lemmas.Option.{none-some, same_Some, cond_some}
use Rattle.alat.specs.declared.entry.Entry.{Entry}
use Rattle.alat.specs.Table.{In, held}
use Rattle.alat.specs.Bounds.{kept-all, kept-none, kept_in, is-other, in_left, in_right, in_kept}
use Rattle.alat.specs.Kinds.{place_for, before, beyond, direct_mapped}
use Rattle.alat.specs.Places.{listed, InPlace, listed_at, listed_unique}
use Rattle.alat.specs.Promises.{Entered, KeepsOtherPlaces}
use Rattle.alat.specs.Rule.{Enter}
use Rattle.alat.proofs.Held.{held_first, held_none, held-append, in_held}

pub in_place-none : (n : ℕ) → InPlace (replicate n None)
in_place-none n k e q =
    ⊎_elim (λ l. absurd (none-some e (sym (get_or-replicate n k None None l) ∙ q)))
    (λ l. absurd (none-some e (sym (get_or_past (replicate n None) k None (omega (arith, length-replicate {A = Option Entry} n None))) ∙ q))) (cases_lt k n)

-- qs are the places ps without the entries that fail the test
abbrev pub Filtered : (Entry → Bool) → List (Option Entry) → List (Option Entry) → Type 0
Filtered p ps qs = (k : ℕ) → get_or qs k None ≡ option_filter p (get_or ps k None)

cons-filter : (p : Entry → Bool) (o : Option Entry) (es : List Entry) → cons_option (option_filter p o) (filter p es) ≡ filter p (cons_option o es)
cons-filter p None es = refl
cons-filter p (Some e) es = elim (p e) as (λ b. cons_option (cond b (Some e) None) (filter p es) ≡ cond b (e ∷ filter p es) (filter p es)) [
  | true ↦ refl
  | false ↦ refl
]

pub filtered-listed : (p : Entry → Bool) (ps qs : List (Option Entry)) → Filtered p ps qs → listed qs ≡ filter p (listed ps)
filtered-listed p [] [] h = refl
filtered-listed p [] (r ∷ qs) h = ap (λ o. cons_option o (listed qs)) (h 0) ∙ filtered-listed p [] qs (λ k. h (suc k))
filtered-listed p (o ∷ ps) [] h =
    filtered-listed p ps [] (λ k. h (suc k)) ∙ ap (λ r. cons_option r (filter p (listed ps))) (h 0) ∙ cons-filter p o (listed ps)
filtered-listed p (o ∷ ps) (r ∷ qs) h =
    ap (cons_option r) (filtered-listed p ps qs (λ k. h (suc k))) ∙ ap (λ r. cons_option r (filter p (listed ps))) (h 0) ∙ cons-filter p o (listed ps)

-- what is left of a place was there
left : (p : Entry → Bool) (o : Option Entry) (e : Entry) → option_filter p o ≡ Some e → o ≡ Some e
left p None e q = q
left p (Some y) e q = ap Some (cond_some (p y) y e q).1

pub filtered-in_place : (p : Entry → Bool) (ps qs : List (Option Entry)) → Filtered p ps qs → InPlace ps → InPlace qs
filtered-in_place p ps qs f h k e q = h k e (left p (get_or ps k None) e (sym (f k) ∙ q))

-- removing the entry of a cell from its place removes it from all
stays : (p : Entry → Bool) (o : Option Entry) → ((x : Entry) → o ≡ Some x → p x ≡ true) → o ≡ option_filter p o
stays p None h = refl
stays p (Some x) h = sym (cond-true _ _ _ (h x refl))

pub filtered-at : (ps : List (Option Entry)) (cell n : ℕ) → InPlace ps → n ≡ place_for cell → n < length ps
    → Filtered (λ e. not (eqb e.cell cell)) ps (set ps n (option_filter (λ e. not (eqb e.cell cell)) (get_or ps n None)))
filtered-at ps cell n h is l k =
    let p : Entry → Bool = λ e. not (eqb e.cell cell) in
    let r = option_filter p (get_or ps n None) in
    ⊎_elim (λ q. subst (λ i. get_or (set ps n r) i None ≡ option_filter p (get_or ps i None)) (sym q) (get_or-set_same ps n r None l))
    (λ ne. get_or-set_other ps n k r None ne ∙ stays p (get_or ps k None) (λ x q. is-other cell x (λ s. ne (sym (h k x q) ∙ ap place_for s ∙ sym is)))) (cases_eq k n)

-- asking: what stands in a place is listed

in_listed : (ps : List (Option Entry)) (k : ℕ) (e : Entry) → get_or ps k None ≡ Some e → In e (listed ps)
in_listed [] k e q = absurd (none-some e q)
in_listed (None ∷ ps) zero e q = absurd (none-some e q)
in_listed (Some y ∷ ps) zero e q = inl (sym (same_Some y e q))
in_listed (None ∷ ps) (suc k) e q = in_listed ps k e q
in_listed (Some y ∷ ps) (suc k) e q = inr (in_listed ps k e q)

pub find-listed : (ps : List (Option Entry)) (cell n : ℕ) → InPlace ps → n ≡ place_for cell → option_filter (λ e. eqb e.cell cell) (get_or ps n None) ≡ held (listed ps) cell
find-listed ps cell n h is = sym (by_place (get_or ps n None) refl)
  where
    of_cell : (x : Entry) → In x (listed ps) → x.cell ≡ cell → get_or ps n None ≡ Some x
    of_cell x i q = let at = listed_at ps x i in ap (λ k. get_or ps k None) (is ∙ ap place_for (sym q) ∙ h at.0 x at.1) ∙ at.1

    by_place : (o : Option Entry) → get_or ps n None ≡ o → held (listed ps) cell ≡ option_filter (λ e. eqb e.cell cell) o
    by_place None q = held_none (listed ps) cell (λ x i s. none-some x (sym q ∙ of_cell x i s))
    by_place (Some e) q =
        ⊎_elim (λ s. subst (λ c. held (listed ps) c ≡ Some e) s (in_held (listed ps) e (listed_unique ps h) (in_listed ps n e q)) ∙ sym (cond-true _ _ _ (eq-eqb e.cell cell s)))
        (λ ne. held_none (listed ps) cell (λ x i s. ne (ap (λ y. y.cell) (same_Some e x (sym q ∙ of_cell x i s)) ∙ s)) ∙ sym (cond-false _ _ _ (ne_eqb e.cell cell ne)))
        (cases_eq e.cell cell)

-- entering: an entry of the first n places, and one of the others
low : (ps : List (Option Entry)) (n : ℕ) (x : Entry) → InPlace ps → In x (listed (take n ps)) → place_for x.cell < n
low ps n x h i =
    let at = listed_at (take n ps) x i in
    ⊎_elim (λ l. omega (arith, h at.0 x (sym (get_or-take n ps at.0 None l) ∙ at.1)))
    (λ l. absurd (none-some x (sym (get_or_past (take n ps) at.0 None (omega (arith, length-take n ps))) ∙ at.1))) (cases_lt at.0 n)

high : (ps : List (Option Entry)) (n : ℕ) (x : Entry) → InPlace ps → In x (listed (drop n ps)) → n ≤ place_for x.cell
high ps n x h i = let at = listed_at (drop n ps) x i in omega (arith, h (n + at.0) x (sym (get_or-drop n ps at.0 None) ∙ at.1))

listed-split : (p : Entry → Bool) (n : ℕ) (ps : List (Option Entry)) → filter p (listed ps) ≡ filter p (listed (take n ps)) ++ filter p (listed (drop n ps))
listed-split p n ps =
    ap (λ l. filter p (listed l)) (sym (take-append-drop n ps)) ∙ ap (filter p) (filter_map-append (λ o. o) (take n ps) (drop n ps))
    ∙ filter-append p (listed (take n ps)) (listed (drop n ps))

pub enter-listed : (ps : List (Option Entry)) (e : Entry) → InPlace ps → place_for e.cell < length ps → listed (set ps (place_for e.cell) (Some e)) ≡ direct_mapped (listed ps) (Enter e)
enter-listed ps e h l =
    let n = place_for e.cell in
    let below : before n (listed ps) ≡ listed (take n ps) =
    listed-split _ n ps ∙ cc (kept-all (λ x. ltb (place_for x.cell) n) (listed (take n ps)) (λ x i. lt-ltb _ _ (low ps n x h i)), kept-none (λ x. ltb (place_for x.cell) n) (listed (drop n ps)) (λ x i. le-ltb _ _ (high ps n x h i)), append-nil (listed (take n ps))) in
    let above : beyond n (listed ps) ≡ listed (drop (suc n) ps) =
    listed-split _ (suc n) ps ∙ cc (kept-none (λ x. ltb n (place_for x.cell)) (listed (take (suc n) ps)) (λ x i. le-ltb _ _ (omega (arith, low ps (suc n) x h i))), kept-all (λ x. ltb n (place_for x.cell)) (listed (drop (suc n) ps)) (λ x i. lt-ltb _ _ (omega (arith, high ps (suc n) x h i)))) in
    ap listed (set_split ps n (Some e) l) ∙ filter_map-append (λ o. o) (take n ps) (Some e ∷ drop (suc n) ps) ∙ cc (below, above)

-- what is promised

pub direct-entered : (es : List Entry) (e : Entry) → Entered e (direct_mapped es (Enter e))
direct-entered es e =
    let n = place_for e.cell in
    held-append (before n es) (e ∷ beyond n es) e.cell (λ x i. below x (in_kept _ es x i).1) ∙ held_first e (beyond n es) e.cell refl
  where
    below : (x : Entry) → ltb (place_for x.cell) (place_for e.cell) ≡ true → x.cell ≡ e.cell → ⊥
    below x t q = let l = ltb-true _ _ t in omega (arith, ap place_for q)

pub direct-keeps : (es : List Entry) (e : Entry) → KeepsOtherPlaces es e (direct_mapped es (Enter e))
direct-keeps es e x i ne =
    let n = place_for e.cell in
    ⊎_elim (λ q. absurd (ne q))
    (⊎_elim (λ l. in_left (before n es) (e ∷ beyond n es) x (kept_in _ es x i (lt-ltb _ _ l))) (λ l. in_right (before n es) (e ∷ beyond n es) x (inr (kept_in _ es x i (lt-ltb _ _ l)))))
    (cases_order (place_for x.cell) n)
