use Rattle.std.proofs.Common.{◌≡◌, ap, ◌∙◌, arith}
use Rattle.std.specs.Result.{result_ok}
use Rattle.integer.specs.Words.{field}
use Rattle.bundle.specs.Fields.{bits}
use Rattle.bundle.specs.Templates.{template_of}
use Rattle.listing.specs.Text.{slot_line}
use Rattle.listing.proofs.Slots.{one-more, all-slots, ok-ok_or, slot-at}
use Rattle.listing.proofs.lines.write_bundle.Goals as goal

pub loop-k-preserved : goal.loop-k-preserved
loop-k-preserved c =
    let k = c.loop-k.k in
    let parts = c.split-number.ensures in
    let template : c.ok-template.result ≡ template_of (field (bits c.args.bundle) 0 5) = c.ok-template.ensures.value ∙ ap result_ok c.try_from.ensures ∙ ok-ok_or _ _ ∙ ap template_of parts.template in
    let slot = slot-at (bits c.args.bundle) k _ _ _ (omega arith) parts.slot0 parts.slot1 parts.slot2 in
    let line : c.write_line.new.out ≡ slot_line c.args.address c.args.bundle k = cc (c.write_line.ensures, c.letter.ensures, template, slot) in
    one-more c.args.address c.args.bundle k _ c.args.out.now c.loop-k.out c.write_line.new.out (omega arith) (omega arith) c.loop-k.invariant line

pub returns : goal.returns
returns c = all-slots c.args.address c.args.bundle c.loop-k.k c.args.out.now c.loop-k.out (omega arith) c.loop-k.invariant
