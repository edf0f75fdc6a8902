use Rattle.std.proofs.Common.{◌-◌, ◌^◌, min, w64, ap, ◌∙◌}
use Rattle.std.proofs.lemmas.Nat.Bits.{bit_at_and, bit_at_not}
use Rattle.integer.specs.Words.{bit}
use Rattle.integer.proofs.logic.andcm.Goals as goal

pub returns-clause-bits : goal.returns-clause-bits
returns-clause-bits c n h = bit_at_and c.args.a (2 ^ 64 - 1 - c.args.b) n ∙ ap (min (bit n c.args.a)) (bit_at_not w64 c.args.b n c.ranges.b.fits h)
