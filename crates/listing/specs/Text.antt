-- The text of a listing, as ASCII codes.
use Rattle.std.specs.Prelude.{ℕ, ◌+◌, ◌-◌, ◌*◌, cond, List, [], ◌∷◌, ◌++◌, map, Some, None, Option, nat_lt, slice_index_or}
use Rattle.std.specs.List.{range_with_len}
use Rattle.bundle.specs.declared.split.Bundle.{Bundle}
use Rattle.bundle.specs.declared.template.Template.{Template}
use Rattle.bundle.specs.declared.template.Unit.TheVariants.{Memory}
use Rattle.bundle.specs.Fields.{bits, slot}
use Rattle.integer.specs.Words.{field}
use Rattle.bundle.specs.Templates.{template_of, letter_of}

-- the digit of a number below 16: 0 to 9, A to F
abbrev pub hex_digit : ℕ → ℕ
hex_digit d = cond (nat_lt d 10) (48 + d) (65 + (d - 10))

-- the n low hexadecimal digits of a number, the most significant first: four bits each
unfoldable pub hex_text : ℕ → ℕ → List ℕ
hex_text n x = map (λ k. hex_digit (field x (4 * (n - 1 - k)) 4)) (range_with_len 0 n)

-- the letter of the unit of slot k; a question mark where the template is reserved
abbrev pub letter_in : Option Template → ℕ → ℕ
letter_in None k = 63
letter_in (Some template) k = letter_of (slice_index_or template.units k Memory)

-- the line of a slot: the bundle's address, the slot's number, the letter of its unit and its 41 bits, with a space between
-- and a line feed at the end
unfoldable pub line : ℕ → ℕ → ℕ → ℕ → List ℕ
line address k letter x = hex_text 16 address ++ (32 ∷ (48 + k) ∷ 32 ∷ letter ∷ 32 ∷ []) ++ hex_text 11 x ++ 10 ∷ []

-- the line of slot k of a bundle
abbrev pub slot_line : ℕ → Bundle → ℕ → List ℕ
slot_line address bundle k = line address k (letter_in (template_of (field (bits bundle) 0 5)) k) (slot (bits bundle) k)

-- the lines of a bundle's three slots
abbrev pub bundle_lines : ℕ → Bundle → List ℕ
bundle_lines address bundle = slot_line address bundle 0 ++ slot_line address bundle 1 ++ slot_line address bundle 2
