-- What the pages keep when one page more comes to their end.
use Rattle.std.proofs.Common.{◌≡◌, ℕ, ◌+◌, ◌*◌, ◌%◌, ◌^◌, ◌<◌, ◌≤◌, false, replicate, ◌&&◌, eqb, ltb, List, [], ◌∷◌, ◌++◌, length, get_or, set, is_some, Some, length-append, subst, sym, refl, ap, ◌∙◌, ⊎_elim, arith}
use Rattle.std.proofs.Math.ListN.{get_or-append}
use Rattle.std.proofs.Math.Seq.{get_or-append_seam}
use Rattle.std.proofs.lemmas.List.{length-set, get_or-replicate, get_or-set_same, get_or-set_other}
use Rattle.std.proofs.lemmas.Bool.{and_right, ne_eqb, cases_eq, cases_lt}
use Rattle.std.proofs.lemmas.Bool.Decides.{nat_tests}
use Rattle.paged.specs.declared.page.Hint.{Hint}
use Rattle.paged.specs.declared.page.Page.{Page}
use Rattle.paged.specs.Hints.{Kept, no_hint, some_hint}
use Rattle.paged.specs.Pages.{Separate, clash, index_of, no_page, place_for}
use Rattle.paged.proofs.Places.{place-append, place-last, unfound}

module _ (ps : List Page) (page : Page) (kept : Separate ps) (even : page.base % 4096 ≡ 0) (new : (i : ℕ) → i < length ps → (get_or ps i no_page).base ≡ page.base → ⊥) where
  long : length (ps ++ page ∷ []) ≡ length ps + 1
  long = length-append ps (page ∷ [])

  before : (i : ℕ) → i < length ps → (get_or (ps ++ page ∷ []) i no_page).base ≡ (get_or ps i no_page).base
  before i h = ap (λ p. p.base) (get_or-append ps (page ∷ []) no_page i h)

  at-end : (i : ℕ) → i ≡ length ps → (get_or (ps ++ page ∷ []) i no_page).base ≡ page.base
  at-end i e = ap (λ k. (get_or (ps ++ page ∷ []) k no_page).base) e ∙ ap (λ p. p.base) (get_or-append_seam ps page [] no_page)

  aligned : (i : ℕ) → i < length (ps ++ page ∷ []) → (get_or (ps ++ page ∷ []) i no_page).base % 4096 ≡ 0
  aligned i h =
      let n = long in
      ⊎_elim (λ e. ap (λ b. b % 4096) (at-end i e) ∙ even) (λ ne. ap (λ b. b % 4096) (before i (omega arith)) ∙ kept.aligned i (omega arith)) (cases_eq i (length ps))

  old : (i j : ℕ) → i < j → j < length ps → eqb (get_or (ps ++ page ∷ []) i no_page).base (get_or (ps ++ page ∷ []) j no_page).base ≡ false
  old i j l h =
      let a = kept.apart i j in
      let e = before i (omega arith) in
      let f = before j h in
      ne_eqb _ _ (λ same. grind (arith, nat_tests))

  last : (i j : ℕ) → i < j → j ≡ length ps → eqb (get_or (ps ++ page ∷ []) i no_page).base (get_or (ps ++ page ∷ []) j no_page).base ≡ false
  last i j l h =
      let e = before i (omega arith) in
      let f = at-end j h in
      ne_eqb _ _ (λ same. new i (omega arith) (sym e ∙ same ∙ f))

  apart : (i j : ℕ) → clash (ps ++ page ∷ []) i j ≡ false
  apart i j =
      let n = long in
      ⊎_elim (λ l. ⊎_elim (differ l) (λ h. grind (arith, nat_tests)) (cases_lt j (length (ps ++ page ∷ [])))) (λ h. grind (arith, nat_tests)) (cases_lt i j)
    where
      differ : i < j → j < length (ps ++ page ∷ []) → clash (ps ++ page ∷ []) i j ≡ false
      differ l h = let n = long in and_right (ltb i j && ltb j (length (ps ++ page ∷ []))) _ (⊎_elim (last i j l) (λ ne. old i j l (omega arith)) (cases_eq j (length ps)))

  pub separate-more : Separate (ps ++ page ∷ [])
  separate-more = record { aligned = aligned; apart = apart }

-- no hint says anything at first
pub kept-none : (ps : List Page) → ps ≡ [] → Kept ps (replicate 64 no_hint)
kept-none ps e = record {
  few = omega (arith, ap length e);
  separate = record { aligned = λ i h. let n = ap length e in absurd (omega arith); apart = λ i j. let n = ap length e in grind (arith, nat_tests) };
  whole = refl;
  low = λ k h. let z : (get_or (replicate 64 no_hint) k some_hint).place.offset ≡ 0 = ap (λ (t : Hint). t.place.offset) (get_or-replicate 64 k no_hint some_hint h) in omega arith;
  right = λ k h even. let z : (get_or (replicate 64 no_hint) k some_hint).base ≡ 1 = ap (λ (t : Hint). t.base) (get_or-replicate 64 k no_hint some_hint h) in absurd (omega arith);
}

-- and what its hint and the others say after one page more
pub kept-more : (ps : List Page) (page : Page) (hints : List Hint) (n count : ℕ) → count ≡ length ps → Kept ps hints → page.base % 4096 ≡ 0 → page.base < 2 ^ 64 → is_some (index_of ps page.base) ≡ false → n < 64 → count < 64 → Kept (ps ++ page ∷ []) (set hints n (record { base = page.base; place = record { offset = 4096 * count; rights = page.rights } }))
kept-more ps page hints n count long kept even top none h few = record {
  few = omega (arith, length-append ps (page ∷ []));
  separate = separate-more ps page kept.separate even (unfound ps kept.separate page.base top none even);
  whole = length-set _ _ _ ∙ kept.whole;
  low = λ k l. ⊎_elim (last-low k) (old-low k l) (cases_eq k n);
  right = λ k l. ⊎_elim (last k) (old k l) (cases_eq k n);
}
  where
    new : Hint
    new = record { base = page.base; place = record { offset = 4096 * count; rights = page.rights } }

    same : (k : ℕ) → k ≡ n → get_or (set hints n new) k some_hint ≡ new
    same k e = let w = kept.whole in ap (λ j. get_or (set hints n new) j some_hint) e ∙ get_or-set_same hints n new some_hint (omega arith)

    other : (k : ℕ) → (k ≡ n → ⊥) → get_or (set hints n new) k some_hint ≡ get_or hints k some_hint
    other k ne = get_or-set_other hints n k new some_hint ne

    last-low : (k : ℕ) → k ≡ n → (get_or (set hints n new) k some_hint).place.offset ≤ 2 ^ 18
    last-low k e = let z : (get_or (set hints n new) k some_hint).place.offset ≡ 4096 * count = ap (λ (t : Hint). t.place.offset) (same k e) in omega arith

    old-low : (k : ℕ) → k < 64 → (k ≡ n → ⊥) → (get_or (set hints n new) k some_hint).place.offset ≤ 2 ^ 18
    old-low k l ne =
        let z : (get_or (set hints n new) k some_hint).place.offset ≡ (get_or hints k some_hint).place.offset = ap (λ (t : Hint). t.place.offset) (other k ne) in
        let old = kept.low k l in
        omega arith

    Right : Hint → Type 0
    Right hint = hint.base % 4096 ≡ 0 → place_for (ps ++ page ∷ []) hint.base ≡ Some hint.place

    last : (k : ℕ) → k ≡ n → Right (get_or (set hints n new) k some_hint)
    last k e = subst Right (sym (same k e)) (λ _. place-last ps page top none ∙ ap (λ m. Some (record { offset = 4096 * m; rights = page.rights })) (sym long))

    old : (k : ℕ) → k < 64 → (k ≡ n → ⊥) → Right (get_or (set hints n new) k some_hint)
    old k l ne = subst Right (sym (other k ne)) (λ aligned. place-append ps (page ∷ []) _ _ (kept.right k l aligned))
