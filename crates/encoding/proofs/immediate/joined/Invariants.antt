use Rattle.std.proofs.Common.{◌≡◌, ◌+◌, ◌*◌, ◌^◌, drop}
use Rattle.encoding.specs.Fields.{number, span}
use Rattle.encoding.specs.Parts.{fields}
use Rattle.encoding.proofs.immediate.joined.Given as goal

-- what the parts so far make, and what those to come add to it
abbrev pub invariant-loop-part : goal.invariant-loop-part
invariant-loop-part l =
    let rest = fields l.slot (drop l.part-index l.parts) in
    record {
      whole : l.value + 2 ^ l.width * number rest ≡ number (fields l.slot l.parts);
      width : l.width + span rest ≡ span (fields l.slot l.parts);
    }
