use Rattle.std.proofs.Common.{ap, ◌∙◌, arith}
use Rattle.integer.specs.Words.{deposit}
use Rattle.integer.proofs.Laws.{deposit-below, deposit-sum}
use Rattle.integer.proofs.field.dep.Goals as goal

pub overflow_add-result : goal.overflow_add-result
overflow_add-result c =
    let at = c.bit-at.result in
    let bits = c.clipped_length-length.result.bits in
    let s = deposit-sum c.args.x c.args.y at bits 64 c.low.result c.low-2.result (omega arith) c.low.ensures c.low-2.ensures in
    let b = deposit-below c.args.x c.args.y at bits 64 (omega arith) c.ranges.y.fits in
    omega arith

pub returns : goal.returns
returns c =
    let at = c.bit-at.result in
    let bits = c.clipped_length-length.result.bits in
    deposit-sum c.args.x c.args.y at bits 64 c.low.result c.low-2.result (omega arith) c.low.ensures c.low-2.ensures
    ∙ ap (λ n. deposit c.args.x c.args.y n bits) c.bit-at.ensures.value
    ∙ ap (deposit c.args.x c.args.y c.args.field.position.bit) c.clipped_length-length.ensures
