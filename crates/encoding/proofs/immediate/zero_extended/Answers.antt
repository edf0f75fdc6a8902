use Rattle.encoding.proofs.Parts.{number-stands}
use Rattle.encoding.proofs.immediate.zero_extended.Goals as goal

pub returns-clause-parts : goal.returns-clause-parts
returns-clause-parts c = number-stands c.args.slot _ c.args.parts.now c.joined.ensures.number
