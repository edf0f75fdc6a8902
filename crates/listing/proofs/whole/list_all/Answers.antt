use Rattle.std.proofs.Common.{◌≡◌, ◌*◌, ◌++◌, is_ok, vec_items, ap, ◌∙◌, arith}
use Rattle.memory.specs.Kinds.{image}
use Rattle.bundle.specs.Fetching.{bundle_at}
use Rattle.listing.specs.Text.{bundle_lines}
use Rattle.listing.proofs.Images.{image-answers, image-lines, first_more}
use Rattle.listing.proofs.whole.list_all.Goals as goal

pub unwrap-requires : goal.unwrap-requires
unwrap-requires c =
    ap is_ok (c.list_bundle.ensures.answer ∙ image-answers c.args.bytes.now c.loop-k.k _ c.new-image.ensures (omega arith) c.requires _ c.loop-k.invariant.1)

pub loop-k-preserved : goal.loop-k-preserved
loop-k-preserved c =
    let k = c.loop-k.k in
    let l : c.list_bundle.new.buffer ≡ bundle_lines (16 * k) (bundle_at (image 0 c.args.bytes.now) (16 * k)) = c.list_bundle.ensures.buffer ∙ image-lines c.args.bytes.now c.loop-k.k _ c.new-image.ensures (omega arith) c.requires _ c.loop-k.invariant.1 in
    let t : vec_items c.extend_from_slice.new.self ≡ vec_items c.loop-k.text ++ c.list_bundle.new.buffer = c.in_ok-extend_from_slice.ensures.items in
    (t ∙ first_more c.args.bytes.now k _ _ c.loop-k.invariant.0 l, omega arith)
