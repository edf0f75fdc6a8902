use Rattle.std.proofs.Common.{◌-◌, arith}
use Rattle.integer.proofs.Laws.{shl-shr-low}
use Rattle.integer.proofs.extend.low.Goals as goal

pub returns : goal.returns
returns c = shl-shr-low c.args.x c.args.length.bits (64 - c.bits-above.result) 64 (omega arith)
