use Rattle.std.proofs.Common.{◌≡◌, ◌/◌, ◌%◌, ◌^◌, ◌<◌, ◌≤◌, sym, ap, ◌∙◌, mod-eq_of_lt, arith, pow_mono}
use Rattle.std.proofs.lemmas.Nat.{one_shl, mod_below, pow_pos}
use Rattle.encoding.specs.Fields.{bits}
use Rattle.encoding.proofs.Shifts.{right-div}
use Rattle.encoding.proofs.fields.field.Goals as goal

pub returns-then-width-lt64 : goal.returns-then-width-lt64
unfolding bits
returns-then-width-lt64 c =
    let e : c.shr_u-high.result ≡ c.args.slot / 2 ^ c.args.first = (rw c.from.ensures at c.shr_u-high.ensures) ∙ right-div c.args.slot c.args.first (omega arith) in
    rw (one_shl c.args.width 64 (omega arith))
    (record { value = ap (λ h. h % 2 ^ c.args.width) e; below = mod_below _ (2 ^ c.args.width) (pow_pos c.args.width) })

pub returns-else-width-lt64 : goal.returns-else-width-lt64
unfolding bits
returns-else-width-lt64 c =
    let e : c.shr_u-high.result ≡ c.args.slot / 2 ^ c.args.first = (rw c.from.ensures at c.shr_u-high.ensures) ∙ right-div c.args.slot c.args.first (omega arith) in
    let l : 64 ≤ c.args.width = omega arith in
    let p : 2 ^ 64 ≤ 2 ^ c.args.width = pow_mono l in
    let h : c.shr_u-high.result < 2 ^ c.args.width = omega arith in
    record { value = sym (mod-eq_of_lt h) ∙ ap (λ n. n % 2 ^ c.args.width) e; below = h }
