use Rattle.std.proofs.Common.{arith}
use Rattle.encoding.proofs.Parts.{extended-value, extended-stands}
use Rattle.encoding.proofs.immediate.sign_extended.Goals as goal

pub returns : goal.returns
returns c =
    let value = extended-value c.args.slot c.sign_extend.result c.args.parts.now c.joined-value.result.0 c.from_low_bits.result.bits c.joined-value.ensures.number (omega arith) c.sign_extend.ensures in
    record { value = value; parts = extended-stands c.args.slot c.sign_extend.result c.args.parts.now c.requires.few value }
