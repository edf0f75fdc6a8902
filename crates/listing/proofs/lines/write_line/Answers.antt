use Rattle.std.proofs.Common.{◌≡◌, ◌+◌, [], ◌∷◌, length, ap, ◌∙◌, rules}
use Rattle.listing.specs.Text.{hex_text, line}
use Rattle.listing.proofs.Pieces.{four-pieces, length-hex}
use Rattle.listing.proofs.lines.write_line.Goals as goal

pub returns : goal.returns
unfolding line
returns c =
    let a : c.write_hex.new.out ≡ hex_text 16 c.args.address = search rules in
    let b : c.copy_from_slice.new.self ≡ 32 ∷ (48 + c.args.slot) ∷ 32 ∷ c.args.letter ∷ 32 ∷ [] = search rules in
    let d : c.write_hex-2.new.out ≡ hex_text 11 c.args.bits = search rules in
    four-pieces c.args.out.now _ _ _ 10 c.requires.room (ap length a ∙ length-hex 16 _) (ap length b) (ap length d ∙ length-hex 11 _) ∙ cc (a, b, d)
