use Rattle.std.proofs.Common.{◌-◌, arith}
use Rattle.std.proofs.lemmas.Int.{ints}
use Rattle.integer.proofs.Laws.{shl-shr-signed}
use Rattle.integer.proofs.extend.sign_extend.Goals as goal

pub returns : goal.returns
returns c = let e = shl-shr-signed c.args.x c.args.length.bits (64 - c.bits-above.result) c.args.length.some (omega arith) in grind (arith, ints)
