use Rattle.std.proofs.Common.{◌≡◌, get_or, arith}
use Rattle.integer.specs.Words.{left}
use Rattle.encoding.specs.declared.immediate.Part.TheVariants.{Bits}
use Rattle.encoding.specs.Parts.{value_of}
use Rattle.encoding.proofs.Joining.{value-fits, value-next, width-next}
use Rattle.encoding.proofs.immediate.joined.Goals as goal

pub overflow_add-value : goal.overflow_add-value
overflow_add-value c =
    let s : c.shl-value.result ≡ left (value_of c.args.slot (get_or c.args.parts.now c.loop-part.part-index (Bits 0 0))) c.loop-part.width = cc in
    let f = rw (← s) at (value-fits _ _ _ _ c.loop-part-test.true _ c.requires c.loop-part.invariant.whole) in
    omega arith

pub loop-part-preserved : goal.loop-part-preserved
loop-part-preserved c =
    let s : c.shl-value.result ≡ left (value_of c.args.slot (get_or c.args.parts.now c.loop-part.part-index (Bits 0 0))) c.loop-part.width = cc in
    rw (s, c.width-width.ensures)
    (record {
      whole = value-next _ _ _ _ c.loop-part-test.true _ c.requires c.loop-part.invariant.whole;
      width = width-next _ _ _ _ c.loop-part-test.true c.loop-part.invariant.width;
    })
