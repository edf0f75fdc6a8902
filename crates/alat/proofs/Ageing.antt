-- A table of 16 entries, the youngest first.
use Rattle.std.proofs.Common.{◌≡◌, ℕ, ◌<◌, ◌≤◌, Bool, not, eqb, List, [], ◌∷◌, length, take, filter, sym, refl, ap, ◌∙◌, subst, inl, inr, ⊎_elim, arith}
use Rattle.std.proofs.lemmas.List.Filters.{length-filter_both}
use Rattle.std.proofs.lemmas.List.{take_at, take_all, length-append}
use Rattle.std.proofs.lemmas.Bool.{cases_lt, eq-eqb, not_from_true, not_from_false}
use Rattle.alat.specs.declared.entry.Entry.{Entry}
use Rattle.alat.specs.Table.{In, others}
use Rattle.alat.specs.Bounds.{kept_in, kept-all, is-other}
use Rattle.alat.specs.Kinds.{fully_associative}
use Rattle.alat.specs.Promises.{Entered, KeepsIfRoom, LosesOldest}
use Rattle.alat.specs.Rule.{Enter}
use Rattle.alat.proofs.Held.{held_first}

some_in : (es : List Entry) (x : Entry) → In x es → 0 < length es
some_in [] x i = absurd i
some_in (e ∷ es) x i = omega arith

-- an entry of the cell is not among the others
pub others-fewer : (cell : ℕ) (es : List Entry) (x : Entry) → In x es → x.cell ≡ cell → length (others cell es) < length es
others-fewer cell es x i q =
    let p : Entry → Bool = λ y. not (eqb y.cell cell) in
    let both = length-filter_both p (λ y. not (p y)) (λ _. refl) es in
    let gone = some_in (filter (λ y. not (p y)) es) x (kept_in _ es x i (not_from_false (p x) (not_from_true _ (eq-eqb x.cell cell q)))) in
    omega arith

others-at-most : (cell : ℕ) (es : List Entry) → length (others cell es) ≤ length es
others-at-most cell es =
    let p : Entry → Bool = λ y. not (eqb y.cell cell) in
    let both = length-filter_both p (λ y. not (p y)) (λ _. refl) es in
    omega arith

pub associative-entered : (es : List Entry) (e : Entry) → Entered e (fully_associative es (Enter e))
associative-entered es e = held_first e (take 15 (others e.cell es)) e.cell refl

pub associative-keeps : (es : List Entry) (e : Entry) → length es ≤ 16 → KeepsIfRoom es e (fully_associative es (Enter e))
associative-keeps es e l room x i ne =
    let fits : length (others e.cell es) ≤ 15 =
    ⊎_elim (λ h. omega (arith, others-at-most e.cell es)) (λ y. omega (arith, others-fewer e.cell es y.0 y.1 y.2)) room in
    inr (subst (In x) (sym (take_all 15 (others e.cell es) fits)) (kept_in _ es x i (is-other e.cell x ne)))

pub associative-loses : (es : List Entry) (e : Entry) → length es ≤ 16 → LosesOldest es e (fully_associative es (Enter e))
associative-loses es e l full rest oldest q =
    let n : length es ≡ 16 = ⊎_elim (λ h. absurd (full (inl h))) (λ h. omega arith) (cases_lt (length es) 16) in
    let m : length rest ≡ 15 = omega (arith, ap length q, length-append rest (oldest ∷ [])) in
    let o : others e.cell es ≡ es = kept-all _ es (λ x i. is-other e.cell x (λ s. full (inr (x, i, s)))) in
    ap (λ r. e ∷ take 15 r) (o ∙ q) ∙ ap (λ r. e ∷ r) (take_at rest (oldest ∷ []) 15 m)
