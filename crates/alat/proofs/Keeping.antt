-- What is kept of a list of entries.
use Rattle.std.proofs.Common.{◌≡◌, ℕ, Bool, true, false, List, [], ◌∷◌, length, take, sym, ◌∙◌, subst, inl, inr, ⊎_elim}
use Rattle.std.specs.List.Retain.{RetainsInTurn}
use Rattle.memory.specs.declared.access.Access.{Access}
use Rattle.alat.specs.declared.entry.Entry.{Entry}
use Rattle.alat.specs.Bounds.{kept_in, unique-take, is-other, is-untouched}
use Rattle.alat.specs.Promises.{KeepsApart, KeepsOthers}
use Rattle.alat.specs.Table.{In, OneEach, others, untouched}

pub keeps-others : (es : List Entry) (cell : ℕ) → KeepsOthers es cell (others cell es)
keeps-others es cell x i ne = kept_in _ es x i (is-other cell x ne)

pub keeps-apart : (es : List Entry) (access : Access) → KeepsApart es access (untouched access es)
keeps-apart es access x i s = kept_in _ es x i (is-untouched x access s)

-- `retain` leaves entries that it found, and one for a cell at most, whatever its closure answers, where no call changes an entry
module _ {F : Type 0} (R : F → Entry → Bool → F → Entry → Type 0) (same : (f : F) (x : Entry) (b : Bool) (g : F) (y : Entry) → R f x b g y → y ≡ x) where
  in_retained : (f : F) (es fs : List Entry) → RetainsInTurn R f es fs → (x : Entry) → In x fs → In x es
  in_retained f [] fs h x i = subst (In x) h i
  in_retained f (e ∷ es) fs (true, g, y, called, gs, rest, q) x i =
      ⊎_elim (λ p. inl (p ∙ same f e true g y called)) (λ j. inr (in_retained g es gs rest x j)) (subst (In x) q i)
  in_retained f (e ∷ es) fs (false, g, y, called, gs, rest, q) x i = inr (in_retained g es gs rest x (subst (In x) q i))

  pub unique-retained : (f : F) (es fs : List Entry) → RetainsInTurn R f es fs → OneEach es → OneEach fs
  unique-retained f [] fs h u = subst OneEach (sym h) tt
  unique-retained f (e ∷ es) fs (true, g, y, called, gs, rest, q) u =
      subst OneEach (sym q) (subst (λ z. OneEach (z ∷ gs)) (sym (same f e true g y called)) (λ x i. u.0 x (in_retained g es gs rest x i), unique-retained g es gs rest u.1))
  unique-retained f (e ∷ es) fs (false, g, y, called, gs, rest, q) u = subst OneEach (sym q) (unique-retained g es gs rest u.1)

-- a front of a list, however long
pub unique-front : (es fs : List Entry) → fs ≡ take (length fs) es → OneEach es → OneEach fs
unique-front es fs q u = subst OneEach (sym q) (unique-take (length fs) es u)
