-- The formats of the I unit's own instructions: the fields of each above its qualifying predicate, from bit 6 on.
use Rattle.std.specs.Prelude.{List, [], ◌∷◌, ◌≡◌, ℕ, ◌+◌, ◌-◌}
use Rattle.encoding.specs.Fields.{bits, flag, Field, Stand, span}
use Rattle.encoding.specs.Fields.Field.{holds, ignored}
use Rattle.encoding.specs.Immediates.{signed8, signed17, signed44, parted25, number21}
use Rattle.encoding.specs.Places.{place, place_from_top, extent}
use Rattle.encoding.specs.declared.record.Parallel.{Parallel}
use Rattle.integer.specs.declared.extend.Part.{Part}
use Rattle.integer.specs.declared.place.BitField.{BitField}
use Rattle.instruction_i.specs.declared.record.Test.{Test}
use Rattle.instruction_i.specs.declared.record.Application.{Application}
use Rattle.instruction_i.specs.declared.record.Integer.{Integer}

-- ta, tb and c of a test
abbrev pub parallel_ta : Parallel → ℕ
parallel_ta Parallel.And = 0
parallel_ta Parallel.Or = 1
parallel_ta Parallel.OrAndcm = 1

abbrev pub parallel_tb : Parallel → ℕ
parallel_tb Parallel.And = 1
parallel_tb Parallel.Or = 0
parallel_tb Parallel.OrAndcm = 1

abbrev pub test_ta : Test → ℕ
test_ta Test.Normal = 0
test_ta Test.Unc = 0
test_ta (Test.Zero parallel) = parallel_ta parallel
test_ta (Test.Nonzero parallel) = parallel_ta parallel

abbrev pub test_tb : Test → ℕ
test_tb Test.Normal = 0
test_tb Test.Unc = 0
test_tb (Test.Zero parallel) = parallel_tb parallel
test_tb (Test.Nonzero parallel) = parallel_tb parallel

abbrev pub test_c : Test → ℕ
test_c Test.Normal = 0
test_c Test.Unc = 1
test_c (Test.Zero parallel) = 0
test_c (Test.Nonzero parallel) = 1

-- the low two bits of x6 of an extension
abbrev pub part_x : Part → ℕ
part_x Part.One = 0
part_x Part.Two = 1
part_x Part.Four = 2

-- the number of an application register
abbrev pub application_number : Application → ℕ
application_number Application.Pfs = 64
application_number Application.Lc = 65
application_number Application.Ec = 66

abbrev pub layout : Integer → List Field
layout (Integer.Shl r1 r2 r3) =
    holds 7 r1 ∷ holds 7 r2 ∷ holds 7 r3 ∷ ignored 1 ∷ holds 2 0 ∷ holds 2 1 ∷ holds 1 0 ∷ holds 1 1 ∷ holds 2 0 ∷ holds 1 1 ∷ holds 4 7 ∷ []
layout (Integer.Shr r1 r3 r2) =
    holds 7 r1 ∷ holds 7 r2 ∷ holds 7 r3 ∷ ignored 1 ∷ holds 2 2 ∷ holds 2 0 ∷ holds 1 0 ∷ holds 1 1 ∷ holds 2 0 ∷ holds 1 1 ∷ holds 4 7 ∷ []
layout (Integer.ShrU r1 r3 r2) =
    holds 7 r1 ∷ holds 7 r2 ∷ holds 7 r3 ∷ ignored 1 ∷ holds 2 0 ∷ holds 2 0 ∷ holds 1 0 ∷ holds 1 1 ∷ holds 2 0 ∷ holds 1 1 ∷ holds 4 7 ∷ []
layout (Integer.Shrp r1 r2 r3 count) =
    holds 7 r1 ∷ holds 7 r2 ∷ holds 7 r3 ∷ holds 6 count.bit ∷ holds 1 0 ∷ holds 2 3 ∷ ignored 1 ∷ holds 4 5 ∷ []
layout (Integer.Extr r1 r3 field) =
    holds 7 r1 ∷ holds 1 1 ∷ holds 6 field.position.bit ∷ holds 7 r3 ∷ holds 6 (field.length.bits - 1) ∷ holds 1 0 ∷ holds 2 1 ∷ ignored 1 ∷ holds 4 5 ∷ []
layout (Integer.ExtrU r1 r3 field) =
    holds 7 r1 ∷ holds 1 0 ∷ holds 6 field.position.bit ∷ holds 7 r3 ∷ holds 6 (field.length.bits - 1) ∷ holds 1 0 ∷ holds 2 1 ∷ ignored 1 ∷ holds 4 5 ∷ []
layout (Integer.Dep r1 r2 r3 field) =
    holds 7 r1 ∷ holds 7 r2 ∷ holds 7 r3 ∷ holds 4 (field.length.bits - 1) ∷ holds 6 (63 - field.position.bit) ∷ holds 4 4 ∷ []
layout (Integer.DepBits r1 ones r3 field) =
    holds 7 r1 ∷ ignored 1 ∷ holds 6 (63 - field.position.bit) ∷ holds 7 r3 ∷ holds 6 (field.length.bits - 1) ∷ holds 1 1 ∷ holds 2 3 ∷ holds 1 (flag ones) ∷ holds 4 5 ∷ []
layout (Integer.DepZ r1 r2 field) =
    holds 7 r1 ∷ holds 7 r2 ∷ holds 6 (63 - field.position.bit) ∷ holds 1 0 ∷ holds 6 (field.length.bits - 1) ∷ holds 1 1 ∷ holds 2 1 ∷ ignored 1 ∷ holds 4 5 ∷ []
layout (Integer.DepZImmediate r1 imm field) =
    holds 7 r1 ∷ holds 7 (bits 0 7 imm) ∷ holds 6 (63 - field.position.bit) ∷ holds 1 1 ∷ holds 6 (field.length.bits - 1) ∷ holds 1 1 ∷ holds 2 1 ∷ holds 1 (bits 7 1 imm) ∷ holds 4 5 ∷ []
layout (Integer.Tbit test p1 p2 r3 position) =
    holds 6 p1 ∷ holds 1 (test_c test) ∷ holds 1 0 ∷ holds 6 position.bit ∷ holds 7 r3 ∷ holds 6 p2 ∷ holds 1 (test_ta test) ∷ holds 2 0 ∷ holds 1 (test_tb test) ∷ holds 4 5 ∷ []
layout (Integer.Tnat test p1 p2 r3) =
    holds 6 p1 ∷ holds 1 (test_c test) ∷ holds 1 1 ∷ ignored 6 ∷ holds 7 r3 ∷ holds 6 p2 ∷ holds 1 (test_ta test) ∷ holds 2 0 ∷ holds 1 (test_tb test) ∷ holds 4 5 ∷ []
layout (Integer.Popcnt r1 r3) =
    holds 7 r1 ∷ holds 7 0 ∷ holds 7 r3 ∷ ignored 1 ∷ holds 2 1 ∷ holds 2 2 ∷ holds 1 0 ∷ holds 1 1 ∷ holds 2 1 ∷ holds 1 0 ∷ holds 4 7 ∷ []
layout (Integer.Sxt part r1 r3) =
    holds 7 r1 ∷ ignored 7 ∷ holds 7 r3 ∷ holds 6 (0x14 + part_x part) ∷ holds 3 0 ∷ ignored 1 ∷ holds 4 0 ∷ []
layout (Integer.Zxt part r1 r3) =
    holds 7 r1 ∷ ignored 7 ∷ holds 7 r3 ∷ holds 6 (0x10 + part_x part) ∷ holds 3 0 ∷ ignored 1 ∷ holds 4 0 ∷ []
layout (Integer.ChkS r2 offset) =
    holds 7 (bits 4 7 offset) ∷ holds 7 r2 ∷ holds 13 (bits 11 13 offset) ∷ holds 3 1 ∷ holds 1 (bits 24 1 offset) ∷ holds 4 0 ∷ []
layout (Integer.ToBranch ret b1 r2) =
    holds 3 b1 ∷ ignored 4 ∷ holds 7 r2 ∷ ignored 2 ∷ holds 1 (flag ret) ∷ ignored 10 ∷ holds 3 7 ∷ ignored 1 ∷ holds 4 0 ∷ []
layout (Integer.FromBranch r1 b2) =
    holds 7 r1 ∷ holds 3 b2 ∷ ignored 11 ∷ holds 6 0x31 ∷ holds 3 0 ∷ ignored 1 ∷ holds 4 0 ∷ []
layout (Integer.ToPredicates r2 mask) =
    holds 7 (bits 1 7 mask) ∷ holds 7 r2 ∷ ignored 4 ∷ holds 8 (bits 8 8 mask) ∷ ignored 1 ∷ holds 3 3 ∷ holds 1 (bits 16 1 mask) ∷ holds 4 0 ∷ []
layout (Integer.ToRotating imm) =
    holds 27 (bits 16 27 imm) ∷ holds 3 2 ∷ holds 1 (bits 43 1 imm) ∷ holds 4 0 ∷ []
layout (Integer.FromPredicates r1) =
    holds 7 r1 ∷ ignored 14 ∷ holds 6 0x33 ∷ holds 3 0 ∷ ignored 1 ∷ holds 4 0 ∷ []
layout (Integer.FromIp r1) =
    holds 7 r1 ∷ ignored 14 ∷ holds 6 0x30 ∷ holds 3 0 ∷ ignored 1 ∷ holds 4 0 ∷ []
layout (Integer.ToApplication register r2) =
    ignored 7 ∷ holds 7 r2 ∷ holds 7 (application_number register) ∷ holds 6 0x2a ∷ holds 3 0 ∷ ignored 1 ∷ holds 4 0 ∷ []
layout (Integer.ToApplicationImmediate register imm) =
    ignored 7 ∷ holds 7 (bits 0 7 imm) ∷ holds 7 (application_number register) ∷ holds 6 0x0a ∷ holds 3 0 ∷ holds 1 (bits 7 1 imm) ∷ holds 4 0 ∷ []
layout (Integer.FromApplication r1 register) =
    holds 7 r1 ∷ ignored 7 ∷ holds 7 (application_number register) ∷ holds 6 0x32 ∷ holds 3 0 ∷ ignored 1 ∷ holds 4 0 ∷ []
layout (Integer.Nop imm) =
    holds 20 (bits 0 20 imm) ∷ ignored 1 ∷ holds 6 1 ∷ holds 3 0 ∷ holds 1 (bits 20 1 imm) ∷ holds 4 0 ∷ []
layout (Integer.Break imm) =
    holds 20 (bits 0 20 imm) ∷ ignored 1 ∷ holds 6 0 ∷ holds 3 0 ∷ holds 1 (bits 20 1 imm) ∷ holds 4 0 ∷ []

-- a bit field is the one that its parts give (every one is: it is said for the proofs), its position counted up or down from bit 63
abbrev pub FieldProper : BitField → Type 0
FieldProper f = (f.position ≡ place f.position.bit) × (f.length ≡ extent (f.length.bits - 1))

abbrev pub FieldProperFromTop : BitField → Type 0
FieldProperFromTop f = (f.position ≡ place_from_top (63 - f.position.bit)) × (f.length ≡ extent (f.length.bits - 1))

-- an immediate is made up of its fields, and a signed one has its sign in all bits above them; a position is the one that its field gives
abbrev pub Proper : Integer → Type 0
Proper (Integer.Shl r1 r2 r3) = Unit {0}
Proper (Integer.Shr r1 r3 r2) = Unit {0}
Proper (Integer.ShrU r1 r3 r2) = Unit {0}
Proper (Integer.Shrp r1 r2 r3 count) = count ≡ place count.bit
Proper (Integer.Extr r1 r3 field) = FieldProper field
Proper (Integer.ExtrU r1 r3 field) = FieldProper field
Proper (Integer.Dep r1 r2 r3 field) = FieldProperFromTop field
Proper (Integer.DepBits r1 ones r3 field) = FieldProperFromTop field
Proper (Integer.DepZ r1 r2 field) = FieldProperFromTop field
Proper (Integer.DepZImmediate r1 imm field) = (imm ≡ signed8 (bits 0 7 imm) (bits 7 1 imm)) × FieldProperFromTop field
Proper (Integer.Tbit test p1 p2 r3 position) = position ≡ place position.bit
Proper (Integer.Tnat test p1 p2 r3) = Unit {0}
Proper (Integer.Popcnt r1 r3) = Unit {0}
Proper (Integer.Sxt part r1 r3) = Unit {0}
Proper (Integer.Zxt part r1 r3) = Unit {0}
Proper (Integer.ChkS r2 offset) = offset ≡ parted25 (bits 4 7 offset) (bits 11 13 offset) (bits 24 1 offset)
Proper (Integer.ToBranch ret b1 r2) = Unit {0}
Proper (Integer.FromBranch r1 b2) = Unit {0}
Proper (Integer.ToPredicates r2 mask) = mask ≡ signed17 (bits 1 7 mask) (bits 8 8 mask) (bits 16 1 mask)
Proper (Integer.ToRotating imm) = imm ≡ signed44 (bits 16 27 imm) (bits 43 1 imm)
Proper (Integer.FromPredicates r1) = Unit {0}
Proper (Integer.FromIp r1) = Unit {0}
Proper (Integer.ToApplication register r2) = Unit {0}
Proper (Integer.ToApplicationImmediate register imm) = imm ≡ signed8 (bits 0 7 imm) (bits 7 1 imm)
Proper (Integer.FromApplication r1 register) = Unit {0}
Proper (Integer.Nop imm) = imm ≡ number21 (bits 0 20 imm) (bits 20 1 imm)
Proper (Integer.Break imm) = imm ≡ number21 (bits 0 20 imm) (bits 20 1 imm)

-- the slot holds the instruction
abbrev pub Holds : ℕ → Integer → Type 0
Holds slot i = Proper i × Stand slot 6 (layout i)

-- each layout fills a slot of 41 bits above the six of the qualifying predicate
abbrev pub Whole : Type 0
Whole = (i : Integer) → 6 + span (layout i) ≡ 41
