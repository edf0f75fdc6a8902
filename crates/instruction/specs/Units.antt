-- What the slot of a unit holds, and what the L slot and the X slot hold together.
use Rattle.std.specs.Prelude.{if◌then◌else◌, ◌≡◌, ℕ}
use Rattle.encoding.specs.Fields.{bits}
use Rattle.bundle.specs.declared.template.Unit.{Unit as Kind}
use Rattle.bundle.specs.declared.template.Unit.TheVariants as kind
use Rattle.instruction_a.specs.Formats as alu
use Rattle.instruction_b.specs.Formats as branch
use Rattle.instruction_i.specs.Formats as integer
use Rattle.instruction_m.specs.Formats as memory
use Rattle.instruction.specs.Floating as floating
use Rattle.instruction.specs.Long as long
use Rattle.instruction.specs.declared.record.Operation.{Operation}
use Rattle.instruction.specs.declared.record.Instruction.{Instruction}

-- A-type instructions go to the M unit and to the I unit; L and X alone hold none
abbrev pub OnMemory : ℕ → Operation → Type 0
OnMemory slot (Operation.Alu i) = alu.Holds slot i
OnMemory slot (Operation.Memory i) = memory.Holds slot i
OnMemory slot _ = ⊥

abbrev pub OnInteger : ℕ → Operation → Type 0
OnInteger slot (Operation.Alu i) = alu.Holds slot i
OnInteger slot (Operation.Integer i) = integer.Holds slot i
OnInteger slot _ = ⊥

abbrev pub OnBranch : ℕ → Operation → Type 0
OnBranch slot (Operation.Branch i) = branch.Holds slot i
OnBranch slot _ = ⊥

abbrev pub OnFloating : ℕ → Operation → Type 0
OnFloating slot (Operation.Floating i) = floating.Holds slot i
OnFloating slot _ = ⊥

abbrev pub On : Kind → ℕ → Operation → Type 0
On kind.Memory slot i = OnMemory slot i
On kind.Integer slot i = OnInteger slot i
On kind.Floating slot i = OnFloating slot i
On kind.Branch slot i = OnBranch slot i
On kind.Long slot i = ⊥
On kind.Extended slot i = ⊥

abbrev pub OnLong : ℕ → ℕ → Operation → Type 0
OnLong l x (Operation.Extended i) = long.Holds l x i
OnLong l x _ = ⊥

-- the qualifying predicate: the low six bits of the slot, or 0 where the format has none
abbrev pub predicate_of : ℕ → Operation → ℕ
predicate_of slot (Operation.Branch i) = if branch.predicated i then bits 0 6 slot else 0
predicate_of slot _ = bits 0 6 slot

-- the slot of a unit holds the instruction
abbrev pub Held : Kind → ℕ → Instruction → Type 0
Held unit slot i = (i.qp ≡ predicate_of slot i.operation) × On unit slot i.operation

-- the L slot and the X slot hold it
abbrev pub HeldLong : ℕ → ℕ → Instruction → Type 0
HeldLong l x i = (i.qp ≡ predicate_of x i.operation) × OnLong l x i.operation
