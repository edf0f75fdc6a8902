-- The formats of the L slot and the X slot together: the fields of the X slot above its qualifying predicate, from bit 6 on, and those of the L
-- slot from bit 0 on.
use Rattle.std.specs.Prelude.{List, [], ◌∷◌, ◌≡◌, ℕ, ◌+◌}
use Rattle.encoding.specs.Fields.{bits, Field, Stand, span}
use Rattle.encoding.specs.Fields.Field.{holds, ignored}
use Rattle.encoding.specs.Immediates.{number62, number64}
use Rattle.instruction.specs.declared.record.Extended.{Extended}

abbrev pub layout : Extended → List Field
layout (Extended.Movl r1 imm) =
    holds 7 r1 ∷ holds 7 (bits 0 7 imm) ∷ holds 1 0 ∷ holds 1 (bits 21 1 imm) ∷ holds 5 (bits 16 5 imm) ∷ holds 9 (bits 7 9 imm) ∷ holds 1 (bits 63 1 imm) ∷ holds 4 6 ∷ []
layout (Extended.Nop imm) =
    holds 20 (bits 0 20 imm) ∷ ignored 1 ∷ holds 6 1 ∷ holds 3 0 ∷ holds 1 (bits 20 1 imm) ∷ holds 4 0 ∷ []
layout (Extended.Break imm) =
    holds 20 (bits 0 20 imm) ∷ ignored 1 ∷ holds 6 0 ∷ holds 3 0 ∷ holds 1 (bits 20 1 imm) ∷ holds 4 0 ∷ []

abbrev pub long_layout : Extended → List Field
long_layout (Extended.Movl r1 imm) = holds 41 (bits 22 41 imm) ∷ []
long_layout (Extended.Nop imm) = holds 41 (bits 21 41 imm) ∷ []
long_layout (Extended.Break imm) = holds 41 (bits 21 41 imm) ∷ []

-- an immediate is made up of its fields
abbrev pub Proper : Extended → Type 0
Proper (Extended.Movl r1 imm) = imm ≡ number64 (bits 0 7 imm) (bits 7 9 imm) (bits 16 5 imm) (bits 21 1 imm) (bits 22 41 imm) (bits 63 1 imm)
Proper (Extended.Nop imm) = imm ≡ number62 (bits 0 20 imm) (bits 20 1 imm) (bits 21 41 imm)
Proper (Extended.Break imm) = imm ≡ number62 (bits 0 20 imm) (bits 20 1 imm) (bits 21 41 imm)

-- the two slots hold the instruction
abbrev pub Holds : ℕ → ℕ → Extended → Type 0
Holds long slot i = Proper i × Stand long 0 (long_layout i) × Stand slot 6 (layout i)

-- the layouts fill two slots of 41 bits, but for the six of the qualifying predicate
abbrev pub Whole : Type 0
Whole = (i : Extended) → (6 + span (layout i) ≡ 41) × (span (long_layout i) ≡ 41)
