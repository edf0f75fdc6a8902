-- The formats of the F unit: the fields of each instruction above its qualifying predicate, from bit 6 on.
use Rattle.std.specs.Prelude.{List, [], ◌∷◌, ◌≡◌, ℕ, ◌+◌}
use Rattle.encoding.specs.Fields.{bits, Field, Stand, span}
use Rattle.encoding.specs.Fields.Field.{holds, ignored}
use Rattle.encoding.specs.Immediates.{number21}
use Rattle.instruction.specs.declared.record.Floating.{Floating}

abbrev pub layout : Floating → List Field
layout (Floating.Nop imm) =
    holds 20 (bits 0 20 imm) ∷ ignored 1 ∷ holds 6 1 ∷ holds 1 0 ∷ ignored 2 ∷ holds 1 (bits 20 1 imm) ∷ holds 4 0 ∷ []
layout (Floating.Break imm) =
    holds 20 (bits 0 20 imm) ∷ ignored 1 ∷ holds 6 0 ∷ holds 1 0 ∷ ignored 2 ∷ holds 1 (bits 20 1 imm) ∷ holds 4 0 ∷ []

-- an immediate is made up of its fields
abbrev pub Proper : Floating → Type 0
Proper (Floating.Nop imm) = imm ≡ number21 (bits 0 20 imm) (bits 20 1 imm)
Proper (Floating.Break imm) = imm ≡ number21 (bits 0 20 imm) (bits 20 1 imm)

-- the slot holds the instruction
abbrev pub Holds : ℕ → Floating → Type 0
Holds slot i = Proper i × Stand slot 6 (layout i)

-- each layout fills a slot of 41 bits above the six of the qualifying predicate
abbrev pub Whole : Type 0
Whole = (i : Floating) → 6 + span (layout i) ≡ 41
