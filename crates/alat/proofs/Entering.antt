-- A load takes the place of the entry of its cell, if there is one.
use Rattle.std.proofs.Common.{◌≡◌, ℕ, zero, suc, ◌+◌, ◌<◌, ◌≤◌, Bool, false, eqb, List, [], ◌∷◌, ◌++◌, length, get_or, take, drop, position, Some, None, sym, refl, ap, ◌∙◌, subst, inl, inr, arith}
use Rattle.std.specs.List.{position_or_len}
use Rattle.std.proofs.lemmas.Grind.{common_steps}
use Rattle.std.proofs.lemmas.List.{take_all}
use Rattle.std.proofs.lemmas.List.Quantifiers.{position-Some}
use Rattle.std.proofs.lemmas.List.Sums.{fails_before_first}
use Rattle.std.proofs.lemmas.Bool.{cond-true, cond-false, eq-eqb, eqb-true, not_from_true, not_from_false}
use Rattle.alat.specs.declared.entry.Entry.{Entry}
use Rattle.alat.specs.Table.{In, OneEach, others}
use Rattle.alat.specs.Bounds.{kept-all, is-other}
use Rattle.alat.specs.Kinds.{fully_associative}
use Rattle.alat.specs.Rule.{Enter}
use Rattle.alat.proofs.Ageing.{others-fewer}

at_in : (es : List Entry) (i : ℕ) (d : Entry) → i < length es → In (get_or es i d) es
at_in [] i d l = absurd (omega arith)
at_in (e ∷ es) zero d l = inl refl
at_in (e ∷ es) (suc i) d l = inr (at_in es i d (omega arith))

in_at : (es : List Entry) (x d : Entry) → In x es → (k : ℕ) × (k < length es) × (get_or es k d ≡ x)
in_at [] x d i = absurd i
in_at (e ∷ es) x d (inl q) = (0, omega arith, sym q)
in_at (e ∷ es) x d (inr i) = let at = in_at es x d i in (suc at.0, omega (arith, at.1), at.2)

-- the entries around the one of the cell are the others
around : (cell : ℕ) (es : List Entry) (i : ℕ) (d : Entry) → OneEach es → i < length es → (get_or es i d).cell ≡ cell → take i es ++ drop (suc i) es ≡ others cell es
around cell [] i d u l q = absurd (omega arith)
around cell (e ∷ es) zero d u l q =
    sym (cond-false _ _ _ (not_from_true _ (eq-eqb e.cell cell q)) ∙ kept-all _ es (λ x i. is-other cell x (λ s. u.0 x i (s ∙ sym q))))
around cell (e ∷ es) (suc i) d u l q =
    let other : e.cell ≡ cell → ⊥ = λ s. u.0 (get_or es i d) (at_in es i d (omega arith)) (q ∙ sym s) in
    ap (λ r. e ∷ r) (around cell es i d u.1 (omega arith) q) ∙ sym (cond-true _ _ _ (is-other cell e other))

abbrev pub of_cell : ℕ → Entry → Bool
of_cell cell x = eqb x.cell cell

module _ (e : Entry) (es : List Entry) where
  -- where there is an entry of the cell
  pub renewed : (i : ℕ) → length es ≤ 16 → OneEach es → position (of_cell e.cell) es ≡ Some i → e ∷ take i es ++ drop (i + 1) es ≡ fully_associative es (Enter e)
  renewed i few u p =
      let found = position-Some (of_cell e.cell) es i e p in
      let same : (get_or es i e).cell ≡ e.cell = eqb-true _ _ found.1 in
      let fewer = others-fewer e.cell es (get_or es i e) (at_in es i e found.0) same in
      let next : i + 1 ≡ suc i = omega arith in
      ap (λ n. e ∷ take i es ++ drop n es) next ∙ ap (λ r. e ∷ r) (around e.cell es i e u found.0 same ∙ sym (take_all 15 (others e.cell es) (omega arith)))

  -- its list has as many
  pub renewed-long : (i : ℕ) → i < length es → length (e ∷ take i es ++ drop (i + 1) es) ≡ length es
  renewed-long i l = grind (arith, common_steps)

  -- where there is none
  pub absent : position (of_cell e.cell) es ≡ None → others e.cell es ≡ es
  absent p = kept-all _ es (λ x i. not_from_false _ (fails x (in_at es x e i)))
    where
      fails : (x : Entry) → (k : ℕ) × (k < length es) × (get_or es k e ≡ x) → of_cell e.cell x ≡ false
      fails x at =
          let past : length es ≤ position_or_len (of_cell e.cell) es = grind (arith, common_steps) in
          subst (λ y. of_cell e.cell y ≡ false) at.2 (fails_before_first (of_cell e.cell) es at.0 e (omega (arith, at.1)))

  -- what entering leaves, by what `position` answered
  pub entered : (fs hs : List Entry) → position (of_cell e.cell) es ≡ None → fs ≡ take 15 es → hs ≡ e ∷ fs → hs ≡ fully_associative es (Enter e)
  entered fs hs p front q = q ∙ ap (λ l. e ∷ l) (front ∙ ap (take 15) (sym (absent p)))
