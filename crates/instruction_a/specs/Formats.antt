-- The formats of the A-type instructions: the fields of each above its qualifying predicate, from bit 6 on.
use Rattle.std.specs.Prelude.{List, [], ◌∷◌, ◌≡◌, ℕ, ◌+◌, ◌-◌}
use Rattle.encoding.specs.Fields.{bits, Field, Stand, span}
use Rattle.encoding.specs.Fields.Field.{holds, ignored}
use Rattle.encoding.specs.Immediates.{signed8, signed14, signed22}
use Rattle.encoding.specs.declared.record.Parallel.{Parallel}
use Rattle.integer.specs.Places.{scale_of}
use Rattle.instruction_a.specs.declared.record.RegisterOperation.{RegisterOperation}
use Rattle.instruction_a.specs.declared.record.ImmediateOperation.{ImmediateOperation}
use Rattle.instruction_a.specs.declared.record.CompareSize.{CompareSize}
use Rattle.instruction_a.specs.declared.record.Relation.{Relation}
use Rattle.instruction_a.specs.declared.record.Compare.{Compare}
use Rattle.instruction_a.specs.declared.record.ZeroRelation.{ZeroRelation}
use Rattle.instruction_a.specs.declared.record.Alu.{Alu}

-- x4 and x2b of an operation on two registers
abbrev pub register_x4 : RegisterOperation → ℕ
register_x4 RegisterOperation.Add = 0
register_x4 RegisterOperation.AddOne = 0
register_x4 RegisterOperation.Sub = 1
register_x4 RegisterOperation.SubOne = 1
register_x4 RegisterOperation.Addp4 = 2
register_x4 RegisterOperation.And = 3
register_x4 RegisterOperation.Andcm = 3
register_x4 RegisterOperation.Or = 3
register_x4 RegisterOperation.Xor = 3

abbrev pub register_x2b : RegisterOperation → ℕ
register_x2b RegisterOperation.Add = 0
register_x2b RegisterOperation.AddOne = 1
register_x2b RegisterOperation.Sub = 1
register_x2b RegisterOperation.SubOne = 0
register_x2b RegisterOperation.Addp4 = 0
register_x2b RegisterOperation.And = 0
register_x2b RegisterOperation.Andcm = 1
register_x2b RegisterOperation.Or = 2
register_x2b RegisterOperation.Xor = 3

-- x4 and x2b of an operation on an immediate and a register
abbrev pub immediate_x4 : ImmediateOperation → ℕ
immediate_x4 ImmediateOperation.Sub = 9
immediate_x4 ImmediateOperation.And = 11
immediate_x4 ImmediateOperation.Andcm = 11
immediate_x4 ImmediateOperation.Or = 11
immediate_x4 ImmediateOperation.Xor = 11

abbrev pub immediate_x2b : ImmediateOperation → ℕ
immediate_x2b ImmediateOperation.Sub = 1
immediate_x2b ImmediateOperation.And = 0
immediate_x2b ImmediateOperation.Andcm = 1
immediate_x2b ImmediateOperation.Or = 2
immediate_x2b ImmediateOperation.Xor = 3

-- the low bit of x2 of a compare
abbrev pub size_x : CompareSize → ℕ
size_x CompareSize.Eight = 0
size_x CompareSize.Four = 1

-- the major opcode, ta and c of a compare
abbrev pub relation_major : Relation → ℕ
relation_major Relation.Lt = 12
relation_major Relation.Ltu = 13
relation_major Relation.Eq = 14

abbrev pub parallel_major : Parallel → ℕ
parallel_major Parallel.And = 12
parallel_major Parallel.Or = 13
parallel_major Parallel.OrAndcm = 14

abbrev pub compare_major : Compare → ℕ
compare_major (Compare.Normal relation) = relation_major relation
compare_major (Compare.Unc relation) = relation_major relation
compare_major (Compare.Eq parallel) = parallel_major parallel
compare_major (Compare.Ne parallel) = parallel_major parallel

abbrev pub compare_ta : Compare → ℕ
compare_ta (Compare.Normal relation) = 0
compare_ta (Compare.Unc relation) = 0
compare_ta (Compare.Eq parallel) = 1
compare_ta (Compare.Ne parallel) = 1

abbrev pub compare_c : Compare → ℕ
compare_c (Compare.Normal relation) = 0
compare_c (Compare.Unc relation) = 1
compare_c (Compare.Eq parallel) = 0
compare_c (Compare.Ne parallel) = 1

-- ta and c of a compare with register 0
abbrev pub zero_ta : ZeroRelation → ℕ
zero_ta ZeroRelation.Gt = 0
zero_ta ZeroRelation.Le = 0
zero_ta ZeroRelation.Ge = 1
zero_ta ZeroRelation.Lt = 1

abbrev pub zero_c : ZeroRelation → ℕ
zero_c ZeroRelation.Gt = 0
zero_c ZeroRelation.Le = 1
zero_c ZeroRelation.Ge = 0
zero_c ZeroRelation.Lt = 1

abbrev pub layout : Alu → List Field
layout (Alu.Register operation r1 r2 r3) =
    holds 7 r1 ∷ holds 7 r2 ∷ holds 7 r3 ∷ holds 2 (register_x2b operation) ∷ holds 4 (register_x4 operation) ∷ holds 1 0 ∷ holds 2 0 ∷ ignored 1 ∷ holds 4 8 ∷ []
layout (Alu.Shladd scale r1 r2 r3) =
    holds 7 r1 ∷ holds 7 r2 ∷ holds 7 r3 ∷ holds 2 (scale_of scale - 1) ∷ holds 4 4 ∷ holds 1 0 ∷ holds 2 0 ∷ ignored 1 ∷ holds 4 8 ∷ []
layout (Alu.Shladdp4 scale r1 r2 r3) =
    holds 7 r1 ∷ holds 7 r2 ∷ holds 7 r3 ∷ holds 2 (scale_of scale - 1) ∷ holds 4 6 ∷ holds 1 0 ∷ holds 2 0 ∷ ignored 1 ∷ holds 4 8 ∷ []
layout (Alu.Immediate operation r1 imm r3) =
    holds 7 r1 ∷ holds 7 (bits 0 7 imm) ∷ holds 7 r3 ∷ holds 2 (immediate_x2b operation) ∷ holds 4 (immediate_x4 operation) ∷ holds 1 0 ∷ holds 2 0 ∷ holds 1 (bits 7 1 imm) ∷ holds 4 8 ∷ []
layout (Alu.Adds r1 imm r3) =
    holds 7 r1 ∷ holds 7 (bits 0 7 imm) ∷ holds 7 r3 ∷ holds 6 (bits 7 6 imm) ∷ holds 1 0 ∷ holds 2 2 ∷ holds 1 (bits 13 1 imm) ∷ holds 4 8 ∷ []
layout (Alu.Addp4 r1 imm r3) =
    holds 7 r1 ∷ holds 7 (bits 0 7 imm) ∷ holds 7 r3 ∷ holds 6 (bits 7 6 imm) ∷ holds 1 0 ∷ holds 2 3 ∷ holds 1 (bits 13 1 imm) ∷ holds 4 8 ∷ []
layout (Alu.Addl r1 imm r3) =
    holds 7 r1 ∷ holds 7 (bits 0 7 imm) ∷ holds 2 r3 ∷ holds 5 (bits 16 5 imm) ∷ holds 9 (bits 7 9 imm) ∷ holds 1 (bits 21 1 imm) ∷ holds 4 9 ∷ []
layout (Alu.Compare size compare p1 p2 r2 r3) =
    holds 6 p1 ∷ holds 1 (compare_c compare) ∷ holds 7 r2 ∷ holds 7 r3 ∷ holds 6 p2 ∷ holds 1 (compare_ta compare) ∷ holds 2 (size_x size) ∷ holds 1 0 ∷ holds 4 (compare_major compare) ∷ []
layout (Alu.CompareZero size relation parallel p1 p2 r3) =
    holds 6 p1 ∷ holds 1 (zero_c relation) ∷ holds 7 0 ∷ holds 7 r3 ∷ holds 6 p2 ∷ holds 1 (zero_ta relation) ∷ holds 2 (size_x size) ∷ holds 1 1 ∷ holds 4 (parallel_major parallel) ∷ []
layout (Alu.CompareImmediate size compare p1 p2 imm r3) =
    holds 6 p1 ∷ holds 1 (compare_c compare) ∷ holds 7 (bits 0 7 imm) ∷ holds 7 r3 ∷ holds 6 p2 ∷ holds 1 (compare_ta compare) ∷ holds 2 (2 + size_x size) ∷ holds 1 (bits 7 1 imm) ∷ holds 4 (compare_major compare) ∷ []

-- an immediate is made up of its fields, and has its sign in all bits above them
abbrev pub Proper : Alu → Type 0
Proper (Alu.Register operation r1 r2 r3) = Unit {0}
Proper (Alu.Shladd scale r1 r2 r3) = Unit {0}
Proper (Alu.Shladdp4 scale r1 r2 r3) = Unit {0}
Proper (Alu.Immediate operation r1 imm r3) = imm ≡ signed8 (bits 0 7 imm) (bits 7 1 imm)
Proper (Alu.Adds r1 imm r3) = imm ≡ signed14 (bits 0 7 imm) (bits 7 6 imm) (bits 13 1 imm)
Proper (Alu.Addp4 r1 imm r3) = imm ≡ signed14 (bits 0 7 imm) (bits 7 6 imm) (bits 13 1 imm)
Proper (Alu.Addl r1 imm r3) = imm ≡ signed22 (bits 0 7 imm) (bits 7 9 imm) (bits 16 5 imm) (bits 21 1 imm)
Proper (Alu.Compare size compare p1 p2 r2 r3) = Unit {0}
Proper (Alu.CompareZero size relation parallel p1 p2 r3) = Unit {0}
Proper (Alu.CompareImmediate size compare p1 p2 imm r3) = imm ≡ signed8 (bits 0 7 imm) (bits 7 1 imm)

-- the slot holds the instruction
abbrev pub Holds : ℕ → Alu → Type 0
Holds slot i = Proper i × Stand slot 6 (layout i)

-- each layout fills a slot of 41 bits above the six of the qualifying predicate
abbrev pub Whole : Type 0
Whole = (i : Alu) → 6 + span (layout i) ≡ 41
