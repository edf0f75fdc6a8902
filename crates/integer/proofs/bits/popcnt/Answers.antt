use Rattle.std.proofs.Common.{sym, ap, ◌∙◌, mod-eq_of_lt}
use lib.Count.{ones}
use Rattle.integer.proofs.Ones.{ones_low}
use Rattle.integer.proofs.bits.popcnt.Goals as goal

pub returns : goal.returns
returns c = c.from.ensures ∙ ap ones (sym (mod-eq_of_lt c.ranges.x.fits)) ∙ ones_low 64 c.args.x
