use Rattle.std.proofs.Common.{rules, Option, Some, None}
use Rattle.encoding.specs.Reading.{Reads}
use Rattle.instruction_m.specs.Formats.{Holds, UpdateStands}
use Rattle.instruction_m.specs.declared.record.BaseUpdate.{BaseUpdate}
use Rattle.instruction_m.specs.declared.record.BaseUpdate.TheVariants.{Register, Immediate}
use Rattle.instruction_m.specs.declared.record.Memory.TheVariants.{Load}
use Rattle.instruction_m.proofs.decoding.loads.Goals as goal

-- by the form of the update
pub returns-in_ok-load_type-in_default : goal.returns-in_ok-load_type-in_default
returns-in_ok-load_type-in_default c =
    let slot = c.args.slot in
    let load : Option BaseUpdate → _ = Load c.in_ok-load_type-in_default.load_type c.size.result c.hint-hint.result c.small-r1.result c.small-r3.result in
    (elim c.args.update as (λ u. UpdateStands slot u → Reads (Holds slot) (Some (load u))) [
      | None ↦ λ h. search rules
      | Some (Register r2) ↦ λ h. search rules
      | Some (Immediate imm) ↦ λ h. search rules
    ]) c.requires.update
