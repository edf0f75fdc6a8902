-- What is held for a cell.
use Rattle.std.proofs.Common.{◌≡◌, ℕ, List, [], ◌∷◌, ◌++◌, Some, None, sym, refl, ap, ◌∙◌, inl, inr}
use Rattle.std.proofs.lemmas.Bool.{cond-true, cond-false, eq-eqb, ne_eqb}
use Rattle.alat.specs.declared.entry.Entry.{Entry}
use Rattle.alat.specs.Table.{In, OneEach, held}

-- the first entry is held, if it is of the cell
pub held_first : (e : Entry) (es : List Entry) (cell : ℕ) → e.cell ≡ cell → held (e ∷ es) cell ≡ Some e
held_first e es cell q = cond-true _ _ _ (eq-eqb e.cell cell q)

held_next : (e : Entry) (es : List Entry) (cell : ℕ) → (e.cell ≡ cell → ⊥) → held (e ∷ es) cell ≡ held es cell
held_next e es cell q = cond-false _ _ _ (ne_eqb e.cell cell q)

-- entries of other cells do not count
pub held_none : (es : List Entry) (cell : ℕ) → ((x : Entry) → In x es → x.cell ≡ cell → ⊥) → held es cell ≡ None
held_none [] cell h = refl
held_none (e ∷ es) cell h = held_next e es cell (h e (inl refl)) ∙ held_none es cell (λ x i. h x (inr i))

pub held-append : (es fs : List Entry) (cell : ℕ) → ((x : Entry) → In x es → x.cell ≡ cell → ⊥) → held (es ++ fs) cell ≡ held fs cell
held-append [] fs cell h = refl
held-append (e ∷ es) fs cell h = held_next e (es ++ fs) cell (h e (inl refl)) ∙ held-append es fs cell (λ x i. h x (inr i))

-- with one entry for a cell at most, each that is in the list is held
pub in_held : (es : List Entry) (e : Entry) → OneEach es → In e es → held es e.cell ≡ Some e
in_held [] e u i = absurd i
in_held (y ∷ ys) e u (inl q) = held_first y ys e.cell (sym (ap (λ x. x.cell) q)) ∙ ap Some (sym q)
in_held (y ∷ ys) e u (inr i) = held_next y ys e.cell (λ q. u.0 e i (sym q)) ∙ in_held ys e u.1 i
