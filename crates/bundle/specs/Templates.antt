-- The templates, from twelve rows: each even number that is not reserved. The odd number after it adds a stop at the end.
use Rattle.std.specs.Prelude.{ℕ, ◌*◌, ◌/◌, ◌%◌, Bool, true, false, cond, List, [], ◌∷◌, Some, None, Option, ◌==◌}
use Rattle.std.specs.Option.{option_map}
use Rattle.bundle.specs.declared.template.Unit.{Unit as Kind}
use Rattle.bundle.specs.declared.template.Unit.TheVariants.{Memory, Integer, Floating, Branch, Long, Extended}
use Rattle.bundle.specs.declared.template.Template.{Template}

-- a row: its number, the units of the three slots, and the stops after the first two
pub record Row : Type 0 where
  pub number : ℕ
  pub units : List Kind
  pub after0 : Bool
  pub after1 : Bool

abbrev row : ℕ → Kind → Kind → Kind → Bool → Bool → Row
row n a b c x y = record { number = n; units = a ∷ b ∷ c ∷ []; after0 = x; after1 = y }

abbrev pub rows : List Row
rows =
    row 0x00 Memory Integer Integer false false ∷
    row 0x02 Memory Integer Integer false true ∷
    row 0x04 Memory Long Extended false false ∷
    row 0x08 Memory Memory Integer false false ∷
    row 0x0a Memory Memory Integer true false ∷
    row 0x0c Memory Floating Integer false false ∷
    row 0x0e Memory Memory Floating false false ∷
    row 0x10 Memory Integer Branch false false ∷
    row 0x12 Memory Branch Branch false false ∷
    row 0x16 Branch Branch Branch false false ∷
    row 0x18 Memory Memory Branch false false ∷
    row 0x1c Memory Floating Branch false false ∷
    []

-- the units and stops of the row with this number, with a stop at the end or without; none where there is no such row
abbrev pub found : List Row → ℕ → Bool → Option (List Kind × List Bool)
found [] n end = None
found (r ∷ rs) n end = cond (r.number == n) (Some (r.units, r.after0 ∷ r.after1 ∷ end ∷ [])) (found rs n end)

abbrev pub row_of : ℕ → Option (List Kind × List Bool)
row_of n = found rows (2 * (n / 2)) (n % 2 == 1)

abbrev pub template_of : ℕ → Option Template
template_of n = option_map (λ row. record { units = row.0; stops = row.1 }) (row_of n)

-- the letter of a unit, as its ASCII code
abbrev pub letter_of : Kind → ℕ
letter_of Memory = 77
letter_of Integer = 73
letter_of Floating = 70
letter_of Branch = 66
letter_of Long = 76
letter_of Extended = 88
