-- The formats of the M unit's own instructions: the fields of each above its qualifying predicate, from bit 6 on.
use Rattle.std.specs.Prelude.{◌≡◌, ℕ, ◌+◌, if◌then◌else◌, List, [], ◌∷◌, Option, Some, None, ◌==◌}
use Rattle.encoding.specs.Fields.{bits, flag, Field, Stand, span}
use Rattle.encoding.specs.Fields.Field.{holds, ignored}
use Rattle.encoding.specs.Immediates.{signed8, signed9, offset25, parted25, number21}
use Rattle.memory.specs.declared.access.Size.{Size}
use Rattle.instruction_m.specs.declared.record.LoadType.{LoadType}
use Rattle.instruction_m.specs.declared.record.Hint.{Hint}
use Rattle.instruction_m.specs.declared.record.BaseUpdate.{BaseUpdate}
use Rattle.instruction_m.specs.declared.record.Clear.{Clear}
use Rattle.instruction_m.specs.declared.record.Application.{Application}
use Rattle.instruction_m.specs.declared.record.Memory.{Memory}

-- x6 of a load or store in two parts: the size in its low two bits, and the type in the four above
abbrev pub size_x : Size → ℕ
size_x Size.One = 0
size_x Size.Two = 1
size_x Size.Four = 2
size_x Size.Eight = 3

abbrev pub type_x : LoadType → ℕ
type_x LoadType.Normal = 0
type_x LoadType.S = 1
type_x LoadType.A = 2
type_x LoadType.Sa = 3
type_x LoadType.Bias = 4
type_x LoadType.Acq = 5
type_x LoadType.CClr = 8
type_x LoadType.CNc = 9
type_x LoadType.CClrAcq = 10

abbrev pub hint_code : Hint → ℕ
hint_code Hint.None = 0
hint_code Hint.Nt1 = 1
hint_code Hint.Two = 2
hint_code Hint.Nta = 3

unfoldable pub hint_of : ℕ → Hint
hint_of code = if code == 0 then Hint.None else (if code == 1 then Hint.Nt1 else (if code == 2 then Hint.Two else Hint.Nta))

-- x3 of chk.a
abbrev pub clear_x3 : Clear → ℕ
clear_x3 Clear.Nc = 4
clear_x3 Clear.Clr = 5

-- the number of an application register
abbrev pub application_number : Application → ℕ
application_number Application.Ccv = 32
application_number Application.Unat = 36

abbrev pub layout : Memory → List Field
layout (Memory.Load type size hint r1 r3 None) =
    holds 7 r1 ∷ ignored 7 ∷ holds 7 r3 ∷ holds 1 0 ∷ holds 2 (hint_code hint) ∷ holds 2 (size_x size) ∷ holds 4 (type_x type) ∷ holds 1 0 ∷ holds 4 4 ∷ []
layout (Memory.Load type size hint r1 r3 (Some (BaseUpdate.Register r2))) =
    holds 7 r1 ∷ holds 7 r2 ∷ holds 7 r3 ∷ holds 1 0 ∷ holds 2 (hint_code hint) ∷ holds 2 (size_x size) ∷ holds 4 (type_x type) ∷ holds 1 1 ∷ holds 4 4 ∷ []
layout (Memory.Load type size hint r1 r3 (Some (BaseUpdate.Immediate imm))) =
    holds 7 r1 ∷ holds 7 (bits 0 7 imm) ∷ holds 7 r3 ∷ holds 1 (bits 7 1 imm) ∷ holds 2 (hint_code hint) ∷ holds 2 (size_x size) ∷ holds 4 (type_x type) ∷ holds 1 (bits 8 1 imm) ∷ holds 4 5 ∷ []
layout (Memory.Fill hint r1 r3 None) =
    holds 7 r1 ∷ ignored 7 ∷ holds 7 r3 ∷ holds 1 0 ∷ holds 2 (hint_code hint) ∷ holds 2 3 ∷ holds 4 6 ∷ holds 1 0 ∷ holds 4 4 ∷ []
layout (Memory.Fill hint r1 r3 (Some (BaseUpdate.Register r2))) =
    holds 7 r1 ∷ holds 7 r2 ∷ holds 7 r3 ∷ holds 1 0 ∷ holds 2 (hint_code hint) ∷ holds 2 3 ∷ holds 4 6 ∷ holds 1 1 ∷ holds 4 4 ∷ []
layout (Memory.Fill hint r1 r3 (Some (BaseUpdate.Immediate imm))) =
    holds 7 r1 ∷ holds 7 (bits 0 7 imm) ∷ holds 7 r3 ∷ holds 1 (bits 7 1 imm) ∷ holds 2 (hint_code hint) ∷ holds 2 3 ∷ holds 4 6 ∷ holds 1 (bits 8 1 imm) ∷ holds 4 5 ∷ []
layout (Memory.Store release size hint r3 r2 None) =
    ignored 7 ∷ holds 7 r2 ∷ holds 7 r3 ∷ holds 1 0 ∷ holds 2 (hint_code hint) ∷ holds 2 (size_x size) ∷ holds 4 (12 + flag release) ∷ holds 1 0 ∷ holds 4 4 ∷ []
layout (Memory.Store release size hint r3 r2 (Some imm)) =
    holds 7 (bits 0 7 imm) ∷ holds 7 r2 ∷ holds 7 r3 ∷ holds 1 (bits 7 1 imm) ∷ holds 2 (hint_code hint) ∷ holds 2 (size_x size) ∷ holds 4 (12 + flag release) ∷ holds 1 (bits 8 1 imm) ∷ holds 4 5 ∷ []
layout (Memory.Spill hint r3 r2 None) =
    ignored 7 ∷ holds 7 r2 ∷ holds 7 r3 ∷ holds 1 0 ∷ holds 2 (hint_code hint) ∷ holds 2 3 ∷ holds 4 14 ∷ holds 1 0 ∷ holds 4 4 ∷ []
layout (Memory.Spill hint r3 r2 (Some imm)) =
    holds 7 (bits 0 7 imm) ∷ holds 7 r2 ∷ holds 7 r3 ∷ holds 1 (bits 7 1 imm) ∷ holds 2 (hint_code hint) ∷ holds 2 3 ∷ holds 4 14 ∷ holds 1 (bits 8 1 imm) ∷ holds 4 5 ∷ []
layout (Memory.ChkS r2 offset) =
    holds 7 (bits 4 7 offset) ∷ holds 7 r2 ∷ holds 13 (bits 11 13 offset) ∷ holds 3 1 ∷ holds 1 (bits 24 1 offset) ∷ holds 4 1 ∷ []
layout (Memory.ChkA clear r1 offset) =
    holds 7 r1 ∷ holds 20 (bits 4 20 offset) ∷ holds 3 (clear_x3 clear) ∷ holds 1 (bits 24 1 offset) ∷ holds 4 0 ∷ []
layout Memory.Invala =
    ignored 21 ∷ holds 4 0 ∷ holds 2 1 ∷ holds 3 0 ∷ ignored 1 ∷ holds 4 0 ∷ []
layout (Memory.InvalaE r1) =
    holds 7 r1 ∷ ignored 14 ∷ holds 4 2 ∷ holds 2 1 ∷ holds 3 0 ∷ ignored 1 ∷ holds 4 0 ∷ []
layout Memory.Mf =
    ignored 21 ∷ holds 4 2 ∷ holds 2 2 ∷ holds 3 0 ∷ ignored 1 ∷ holds 4 0 ∷ []
layout (Memory.Alloc r1 sof sol sor) =
    holds 7 r1 ∷ holds 7 sof ∷ holds 7 sol ∷ holds 4 sor ∷ ignored 2 ∷ holds 3 6 ∷ ignored 1 ∷ holds 4 1 ∷ []
layout (Memory.ToApplication register r2) =
    ignored 7 ∷ holds 7 r2 ∷ holds 7 (application_number register) ∷ holds 6 0x2a ∷ holds 3 0 ∷ ignored 1 ∷ holds 4 1 ∷ []
layout (Memory.ToApplicationImmediate register imm) =
    ignored 7 ∷ holds 7 (bits 0 7 imm) ∷ holds 7 (application_number register) ∷ holds 4 8 ∷ holds 2 2 ∷ holds 3 0 ∷ holds 1 (bits 7 1 imm) ∷ holds 4 0 ∷ []
layout (Memory.FromApplication r1 register) =
    holds 7 r1 ∷ ignored 7 ∷ holds 7 (application_number register) ∷ holds 6 0x22 ∷ holds 3 0 ∷ ignored 1 ∷ holds 4 1 ∷ []
layout (Memory.Nop imm) =
    holds 20 (bits 0 20 imm) ∷ ignored 1 ∷ holds 4 1 ∷ holds 2 0 ∷ holds 3 0 ∷ holds 1 (bits 20 1 imm) ∷ holds 4 0 ∷ []
layout (Memory.Break imm) =
    holds 20 (bits 0 20 imm) ∷ ignored 1 ∷ holds 4 0 ∷ holds 2 0 ∷ holds 3 0 ∷ holds 1 (bits 20 1 imm) ∷ holds 4 0 ∷ []

-- an immediate is made up of its fields, and a signed one has its sign in all bits above them; a hint is the one of its code (every hint is: it
-- is said for the proofs)
abbrev pub Proper : Memory → Type 0
Proper (Memory.Load type size hint r1 r3 None) = hint ≡ hint_of (hint_code hint)
Proper (Memory.Load type size hint r1 r3 (Some (BaseUpdate.Register r2))) = hint ≡ hint_of (hint_code hint)
Proper (Memory.Load type size hint r1 r3 (Some (BaseUpdate.Immediate imm))) = (hint ≡ hint_of (hint_code hint)) × (imm ≡ signed9 (bits 0 7 imm) (bits 7 1 imm) (bits 8 1 imm))
Proper (Memory.Fill hint r1 r3 None) = hint ≡ hint_of (hint_code hint)
Proper (Memory.Fill hint r1 r3 (Some (BaseUpdate.Register r2))) = hint ≡ hint_of (hint_code hint)
Proper (Memory.Fill hint r1 r3 (Some (BaseUpdate.Immediate imm))) = (hint ≡ hint_of (hint_code hint)) × (imm ≡ signed9 (bits 0 7 imm) (bits 7 1 imm) (bits 8 1 imm))
Proper (Memory.Store release size hint r3 r2 None) = hint ≡ hint_of (hint_code hint)
Proper (Memory.Store release size hint r3 r2 (Some imm)) = (hint ≡ hint_of (hint_code hint)) × (imm ≡ signed9 (bits 0 7 imm) (bits 7 1 imm) (bits 8 1 imm))
Proper (Memory.Spill hint r3 r2 None) = hint ≡ hint_of (hint_code hint)
Proper (Memory.Spill hint r3 r2 (Some imm)) = (hint ≡ hint_of (hint_code hint)) × (imm ≡ signed9 (bits 0 7 imm) (bits 7 1 imm) (bits 8 1 imm))
Proper (Memory.ChkS r2 offset) = offset ≡ parted25 (bits 4 7 offset) (bits 11 13 offset) (bits 24 1 offset)
Proper (Memory.ChkA clear r1 offset) = offset ≡ offset25 (bits 4 20 offset) (bits 24 1 offset)
Proper Memory.Invala = Unit {0}
Proper (Memory.InvalaE r1) = Unit {0}
Proper Memory.Mf = Unit {0}
Proper (Memory.Alloc r1 sof sol sor) = Unit {0}
Proper (Memory.ToApplication register r2) = Unit {0}
Proper (Memory.ToApplicationImmediate register imm) = imm ≡ signed8 (bits 0 7 imm) (bits 7 1 imm)
Proper (Memory.FromApplication r1 register) = Unit {0}
Proper (Memory.Nop imm) = imm ≡ number21 (bits 0 20 imm) (bits 20 1 imm)
Proper (Memory.Break imm) = imm ≡ number21 (bits 0 20 imm) (bits 20 1 imm)

-- the fields of a load that say how its base is updated
abbrev pub UpdateStands : ℕ → Option BaseUpdate → Type 0
UpdateStands slot None =
    Stand slot 27 (holds 1 0 ∷ ignored 8 ∷ holds 1 0 ∷ holds 4 4 ∷ [])
UpdateStands slot (Some (BaseUpdate.Register r2)) =
    Stand slot 13 (holds 7 r2 ∷ ignored 7 ∷ holds 1 0 ∷ ignored 8 ∷ holds 1 1 ∷ holds 4 4 ∷ [])
UpdateStands slot (Some (BaseUpdate.Immediate imm)) =
    (imm ≡ signed9 (bits 0 7 imm) (bits 7 1 imm) (bits 8 1 imm)) × Stand slot 13 (holds 7 (bits 0 7 imm) ∷ ignored 7 ∷ holds 1 (bits 7 1 imm) ∷ ignored 8 ∷ holds 1 (bits 8 1 imm) ∷ holds 4 5 ∷ [])

-- the same of a store
abbrev pub IncrementStands : ℕ → Option ℕ → Type 0
IncrementStands slot None =
    Stand slot 27 (holds 1 0 ∷ ignored 8 ∷ holds 1 0 ∷ holds 4 4 ∷ [])
IncrementStands slot (Some imm) =
    (imm ≡ signed9 (bits 0 7 imm) (bits 7 1 imm) (bits 8 1 imm)) × Stand slot 6 (holds 7 (bits 0 7 imm) ∷ ignored 14 ∷ holds 1 (bits 7 1 imm) ∷ ignored 8 ∷ holds 1 (bits 8 1 imm) ∷ holds 4 5 ∷ [])

-- the slot holds the instruction
abbrev pub Holds : ℕ → Memory → Type 0
Holds slot i = Proper i × Stand slot 6 (layout i)

-- each layout fills a slot of 41 bits above the six of the qualifying predicate
abbrev pub Whole : Type 0
Whole = (i : Memory) → 6 + span (layout i) ≡ 41
