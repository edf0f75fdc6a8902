use Rattle.std.proofs.Common.{◌^◌, ◌≤◌, arith, pow_mono}
use Rattle.encoding.proofs.fields.small.Goals as goal

pub overflow_cast-result : goal.overflow_cast-result
overflow_cast-result c =
    let l : c.min.result ≤ 8 = omega arith in
    let p : 2 ^ c.min.result ≤ 2 ^ 8 = pow_mono l in
    omega arith
