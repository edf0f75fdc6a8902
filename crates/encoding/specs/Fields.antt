-- Layouts: the fields of an instruction slot, one after the other from its low bit to its high one.
use Rattle.std.specs.Prelude.{◌≡◌, ℕ, ◌+◌, ◌*◌, ◌^◌, Bool, true, false, List, [], ◌∷◌}
use Rattle.integer.specs.Words.{field, signed, word_of}

-- the field of `width` bits of a slot whose lowest bit is bit `first`
unfoldable pub bits : ℕ → ℕ → ℕ → ℕ
bits first width slot = field slot first width

-- a flag as a field of one bit
abbrev pub flag : Bool → ℕ
flag false = 0
flag true = 1

-- one field of a layout: its width, and the value that it holds or that it is ignored
pub data Field : Type 0 where
  holds : ℕ → ℕ → Field
  ignored : ℕ → Field

-- the fields stand in the slot one after the other from bit `first` on
abbrev pub Stand : ℕ → ℕ → List Field → Type 0
Stand slot first [] = Unit {0}
Stand slot first (holds width value ∷ fields) = (bits first width slot ≡ value) × Stand slot (first + width) fields
Stand slot first (ignored width ∷ fields) = Stand slot (first + width) fields

-- how many bits the fields take
abbrev pub span : List Field → ℕ
span [] = 0
span (holds width value ∷ fields) = width + span fields
span (ignored width ∷ fields) = width + span fields

-- the number that has these fields from bit 0 on, and zeros where one is ignored
abbrev pub number : List Field → ℕ
number [] = 0
number (holds width value ∷ fields) = value + 2 ^ width * number fields
number (ignored width ∷ fields) = 0 + 2 ^ width * number fields

-- the same with the highest bit of the fields as its sign, in all bits of the word above them
abbrev pub extended : List Field → ℕ
extended fields = word_of (signed (span fields) (number fields))
