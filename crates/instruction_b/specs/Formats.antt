-- The formats of the B unit's instructions: the fields of each above its low six bits, from bit 6 on, and those of the low six bits where
-- they are no qualifying predicate.
use Rattle.std.specs.Prelude.{Bool, true, false, if◌then◌else◌, List, [], ◌∷◌, ◌≡◌, ℕ, ◌+◌, ◌==◌}
use Rattle.encoding.specs.Fields.{bits, flag, Field, Stand, span}
use Rattle.encoding.specs.Fields.Field.{holds, ignored}
use Rattle.encoding.specs.Immediates.{offset25, offset13, number21}
use Rattle.instruction_b.specs.declared.record.Whether.{Whether}
use Rattle.instruction_b.specs.declared.record.Prefetch.{Prefetch}
use Rattle.instruction_b.specs.declared.record.Hints.{Hints}
use Rattle.instruction_b.specs.declared.record.Relative.{Relative}
use Rattle.instruction_b.specs.declared.record.Counted.{Counted}
use Rattle.instruction_b.specs.declared.record.Indirect.{Indirect}
use Rattle.instruction_b.specs.declared.record.Predicted.{Predicted}
use Rattle.instruction_b.specs.declared.record.Prediction.{Prediction}
use Rattle.instruction_b.specs.declared.record.Branch.{Branch}

-- the codes of hints, and the hints of codes
abbrev pub whether_code : Whether → ℕ
whether_code Whether.Sptk = 0
whether_code Whether.Spnt = 1
whether_code Whether.Dptk = 2
whether_code Whether.Dpnt = 3

abbrev pub prefetch_code : Prefetch → ℕ
prefetch_code Prefetch.Few = 0
prefetch_code Prefetch.Many = 1

abbrev pub predicted_code : Predicted → ℕ
predicted_code Predicted.Sptk = 0
predicted_code Predicted.Loop = 1
predicted_code Predicted.Dptk = 2
predicted_code Predicted.Exit = 3

unfoldable pub whether_of : ℕ → Whether
whether_of code = if code == 0 then Whether.Sptk else (if code == 1 then Whether.Spnt else (if code == 2 then Whether.Dptk else Whether.Dpnt))

unfoldable pub prefetch_of : ℕ → Prefetch
prefetch_of code = if code == 0 then Prefetch.Few else Prefetch.Many

unfoldable pub predicted_of : ℕ → Predicted
predicted_of code = if code == 0 then Predicted.Sptk else (if code == 1 then Predicted.Loop else (if code == 2 then Predicted.Dptk else Predicted.Exit))

unfoldable pub flag_of : ℕ → Bool
flag_of code = code == 1

unfoldable pub hints_of : ℕ → ℕ → ℕ → Hints
hints_of whether prefetch clr = record { whether = whether_of whether; prefetch = prefetch_of prefetch; clr = flag_of clr }

unfoldable pub prediction_of : ℕ → ℕ → ℕ → ℕ → Prediction
prediction_of predicted imp a b = record { predicted = predicted_of predicted; imp = flag_of imp; tag = offset13 a b }

-- btype
abbrev pub relative_type : Relative → ℕ
relative_type Relative.Cond = 0
relative_type Relative.Wexit = 2
relative_type Relative.Wtop = 3

abbrev pub counted_type : Counted → ℕ
counted_type Counted.Cloop = 5
counted_type Counted.Cexit = 6
counted_type Counted.Ctop = 7

abbrev pub indirect_type : Indirect → ℕ
indirect_type Indirect.Cond = 0
indirect_type Indirect.Ret = 4

-- the low bit of x6 of a branch to a branch register, and of its prediction
abbrev pub indirect_x : Indirect → ℕ
indirect_x Indirect.Cond = 0
indirect_x Indirect.Ret = 1

abbrev pub layout : Branch → List Field
layout (Branch.Relative branch hints offset) =
    holds 3 (relative_type branch) ∷ ignored 3 ∷ holds 1 (prefetch_code hints.prefetch) ∷ holds 20 (bits 4 20 offset) ∷ holds 2 (whether_code hints.whether) ∷ holds 1 (flag hints.clr) ∷ holds 1 (bits 24 1 offset) ∷ holds 4 4 ∷ []
layout (Branch.Counted branch hints offset) =
    holds 3 (counted_type branch) ∷ ignored 3 ∷ holds 1 (prefetch_code hints.prefetch) ∷ holds 20 (bits 4 20 offset) ∷ holds 2 (whether_code hints.whether) ∷ holds 1 (flag hints.clr) ∷ holds 1 (bits 24 1 offset) ∷ holds 4 4 ∷ []
layout (Branch.Call hints b1 offset) =
    holds 3 b1 ∷ ignored 3 ∷ holds 1 (prefetch_code hints.prefetch) ∷ holds 20 (bits 4 20 offset) ∷ holds 2 (whether_code hints.whether) ∷ holds 1 (flag hints.clr) ∷ holds 1 (bits 24 1 offset) ∷ holds 4 5 ∷ []
layout (Branch.Indirect branch hints b2) =
    holds 3 (indirect_type branch) ∷ ignored 3 ∷ holds 1 (prefetch_code hints.prefetch) ∷ holds 3 b2 ∷ ignored 11 ∷ holds 6 (0x20 + indirect_x branch) ∷ holds 2 (whether_code hints.whether) ∷ holds 1 (flag hints.clr) ∷ ignored 1 ∷ holds 4 0 ∷ []
layout (Branch.CallIndirect hints known b1 b2) =
    holds 3 b1 ∷ ignored 3 ∷ holds 1 (prefetch_code hints.prefetch) ∷ holds 3 b2 ∷ ignored 16 ∷ holds 1 (flag known) ∷ holds 2 (whether_code hints.whether) ∷ holds 1 (flag hints.clr) ∷ ignored 1 ∷ holds 4 1 ∷ []
layout (Branch.Predict prediction offset) =
    holds 7 (bits 4 7 prediction.tag) ∷ holds 20 (bits 4 20 offset) ∷ holds 2 (bits 11 2 prediction.tag) ∷ holds 1 (flag prediction.imp) ∷ holds 1 (bits 24 1 offset) ∷ holds 4 7 ∷ []
layout (Branch.PredictIndirect branch prediction b2) =
    holds 7 (bits 4 7 prediction.tag) ∷ holds 3 b2 ∷ ignored 11 ∷ holds 6 (0x10 + indirect_x branch) ∷ holds 2 (bits 11 2 prediction.tag) ∷ holds 1 (flag prediction.imp) ∷ ignored 1 ∷ holds 4 2 ∷ []
layout Branch.Clrrrb =
    ignored 21 ∷ holds 6 4 ∷ ignored 4 ∷ holds 4 0 ∷ []
layout Branch.ClrrrbPr =
    ignored 21 ∷ holds 6 5 ∷ ignored 4 ∷ holds 4 0 ∷ []
layout (Branch.Nop imm) =
    holds 20 (bits 0 20 imm) ∷ ignored 1 ∷ holds 6 0 ∷ ignored 3 ∷ holds 1 (bits 20 1 imm) ∷ holds 4 2 ∷ []
layout (Branch.Break imm) =
    holds 20 (bits 0 20 imm) ∷ ignored 1 ∷ holds 6 0 ∷ ignored 3 ∷ holds 1 (bits 20 1 imm) ∷ holds 4 0 ∷ []

-- whether the low six bits are a qualifying predicate
abbrev pub predicated : Branch → Bool
predicated (Branch.Relative branch hints offset) = true
predicated (Branch.Counted branch hints offset) = false
predicated (Branch.Call hints b1 offset) = true
predicated (Branch.Indirect branch hints b2) = true
predicated (Branch.CallIndirect hints known b1 b2) = true
predicated (Branch.Predict prediction offset) = false
predicated (Branch.PredictIndirect branch prediction b2) = false
predicated Branch.Clrrrb = false
predicated Branch.ClrrrbPr = false
predicated (Branch.Nop imm) = true
predicated (Branch.Break imm) = true

-- what the low six bits are where they are none
abbrev pub lowest : Branch → List Field
lowest (Branch.Relative branch hints offset) = []
lowest (Branch.Counted branch hints offset) = holds 6 0 ∷ []
lowest (Branch.Call hints b1 offset) = []
lowest (Branch.Indirect branch hints b2) = []
lowest (Branch.CallIndirect hints known b1 b2) = []
lowest (Branch.Predict prediction offset) = ignored 3 ∷ holds 2 (predicted_code prediction.predicted) ∷ ignored 1 ∷ []
lowest (Branch.PredictIndirect branch prediction b2) = ignored 3 ∷ holds 2 (predicted_code prediction.predicted) ∷ ignored 1 ∷ []
lowest Branch.Clrrrb = holds 6 0 ∷ []
lowest Branch.ClrrrbPr = holds 6 0 ∷ []
lowest (Branch.Nop imm) = []
lowest (Branch.Break imm) = []

-- hints are those of their codes (all are: it is said for the proofs), and a tag is made up of its fields
abbrev pub HintsProper : Hints → Type 0
HintsProper h = h ≡ hints_of (whether_code h.whether) (prefetch_code h.prefetch) (flag h.clr)

abbrev pub PredictionProper : Prediction → Type 0
PredictionProper p = p ≡ prediction_of (predicted_code p.predicted) (flag p.imp) (bits 4 7 p.tag) (bits 11 2 p.tag)

-- an immediate or an offset is made up of its fields, and an offset has its sign in all bits above them
abbrev pub Proper : Branch → Type 0
Proper (Branch.Relative branch hints offset) = HintsProper hints × (offset ≡ offset25 (bits 4 20 offset) (bits 24 1 offset))
Proper (Branch.Counted branch hints offset) = HintsProper hints × (offset ≡ offset25 (bits 4 20 offset) (bits 24 1 offset))
Proper (Branch.Call hints b1 offset) = HintsProper hints × (offset ≡ offset25 (bits 4 20 offset) (bits 24 1 offset))
Proper (Branch.Indirect branch hints b2) = HintsProper hints
Proper (Branch.CallIndirect hints known b1 b2) = HintsProper hints
Proper (Branch.Predict prediction offset) = PredictionProper prediction × (offset ≡ offset25 (bits 4 20 offset) (bits 24 1 offset))
Proper (Branch.PredictIndirect branch prediction b2) = PredictionProper prediction
Proper Branch.Clrrrb = Unit {0}
Proper Branch.ClrrrbPr = Unit {0}
Proper (Branch.Nop imm) = imm ≡ number21 (bits 0 20 imm) (bits 20 1 imm)
Proper (Branch.Break imm) = imm ≡ number21 (bits 0 20 imm) (bits 20 1 imm)

-- the slot holds the instruction
abbrev pub Holds : ℕ → Branch → Type 0
Holds slot i = Proper i × Stand slot 0 (lowest i) × Stand slot 6 (layout i)

-- the fields fill a slot of 41 bits, six of them below bit 6
abbrev pub Whole : Type 0
Whole = (i : Branch) → (span (lowest i) ≡ (if predicated i then 0 else 6)) × (6 + span (layout i) ≡ 41)
