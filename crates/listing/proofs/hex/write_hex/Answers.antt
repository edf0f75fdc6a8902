use Rattle.std.proofs.Common.{◌≡◌, ℕ, ◌-◌, ◌*◌, length, arith}
use Rattle.std.proofs.lemmas.List.FromFn.{fill_by_all}
use Rattle.std.proofs.lemmas.List.Edits.{fill_by_more}
use Rattle.integer.specs.Words.{field}
use Rattle.listing.specs.Text.{hex_digit, hex_text}
use Rattle.listing.proofs.hex.write_hex.Goals as goal

-- digit k from the left of n
abbrev place : ℕ → ℕ → ℕ → ℕ
place n x k = hex_digit (field x (4 * (n - 1 - k)) 4)

pub loop-i-preserved : goal.loop-i-preserved
loop-i-preserved c =
    let f : ℕ → ℕ = place (length c.args.out.now) c.args.value in
    let e : c.digit.result ≡ f c.loop-i.i = c.digit.ensures in
    rw e (fill_by_more f c.loop-i.out c.loop-i.i 0 (omega arith) c.loop-i.invariant)

pub returns : goal.returns
unfolding hex_text
returns c =
    fill_by_all (place (length c.args.out.now) c.args.value) c.loop-i.out _ 0 (omega arith) (λ k h. c.loop-i.invariant k (omega arith))
