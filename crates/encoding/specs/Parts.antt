-- What the parts of an immediate are, of which some stand in the slot that is given.
use Rattle.std.specs.Prelude.{ℕ, List, map}
use Rattle.encoding.specs.declared.immediate.Part.{Part}
use Rattle.encoding.specs.declared.immediate.Part.TheVariants.{Bits, Low, Zeros}
use Rattle.encoding.specs.Fields.{bits, Field}
use Rattle.encoding.specs.Fields.Field.{holds, ignored}

abbrev pub width_of : Part → ℕ
width_of (Bits first width) = width
width_of (Low other width) = width
width_of (Zeros width) = width

abbrev pub value_of : ℕ → Part → ℕ
value_of slot (Bits first width) = bits first width slot
value_of slot (Low other width) = bits 0 width other
value_of slot (Zeros width) = 0

-- the field of the immediate that it becomes; a layout ignores zeros
abbrev pub field_of : ℕ → Part → Field
field_of slot (Bits first width) = holds width (bits first width slot)
field_of slot (Low other width) = holds width (bits 0 width other)
field_of slot (Zeros width) = ignored width

abbrev pub fields : ℕ → List Part → List Field
fields slot parts = map (field_of slot) parts
