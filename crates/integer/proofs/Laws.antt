-- Laws of fields, over any width.
use Rattle.std.proofs.Common.{◌≡◌, ℕ, suc, ◌+◌, ◌-◌, ◌*◌, ◌/◌, ◌%◌, ◌^◌, ◌<◌, ◌≤◌, cond, nat_lt, pos, negsuc, sym, ap, ⊎_elim, ◌∙◌, mod-eq_of_lt, mod-lt, arith, pow_mono}
use Rattle.std.proofs.Math.Nat.{mul-mod_left, pow-succ'}
use lib.Arith.{digits_lt}
use Rattle.std.specs.Int.Signed.{shr_z}
use Rattle.std.proofs.lemmas.Bool.{cases_lt}
use Rattle.std.proofs.lemmas.Bool.Decides.{nat_tests}
use Rattle.std.proofs.lemmas.Nat.{div-mul-add, mod-pow-add, mul-le, pow_pos, pow-add, shl-shr, shr_split, shr_below, shl_below}
use Rattle.integer.specs.Words.{deposit, field, signed, word_of}

-- a power is twice the one before it
pub twice : (n : ℕ) → 1 ≤ n → 2 ^ n ≡ 2 * 2 ^ (n - 1)
twice n h = ap (λ k. 2 ^ k) (omega arith) ∙ pow-succ' 2 (n - 1)

-- a number is what stands above a field, the field, and what stands below it
pub parts : (y at bits : ℕ) → y ≡ y / 2 ^ (at + bits) * 2 ^ (at + bits) + field y at bits * 2 ^ at + y % 2 ^ at
parts y at bits =
    let turned : y % 2 ^ (at + bits) ≡ y % 2 ^ (bits + at) = ap (λ n. y % 2 ^ n) (omega arith) in
    omega (arith, shr_split y (at + bits), mod-pow-add y bits at)

-- a field in its place stays below the bit above it
pub field_below : (x at bits w : ℕ) → at + bits ≤ w → x % 2 ^ bits * 2 ^ at < 2 ^ w
field_below x at bits w within =
    let below : x % 2 ^ bits * 2 ^ at < 2 ^ (bits + at) = shl_below (x % 2 ^ bits) bits at (mod-lt x (pow_pos bits)) in
    let turned : bits + at ≤ w = omega arith in
    omega (arith, pow_mono turned)

-- the field of y taken out and the low bits of x put in its place
pub deposit-sum : (x y at bits w u v : ℕ) → at + bits ≤ w → u ≡ field y at bits → v ≡ x % 2 ^ bits → y - u * 2 ^ at % 2 ^ w + v * 2 ^ at % 2 ^ w ≡ deposit x y at bits
deposit-sum x y at bits w u v within old new =
    let old_part = ap (λ n. n * 2 ^ at % 2 ^ w) old in
    let old_fits = mod-eq_of_lt (field_below (y / 2 ^ at) at bits w within) in
    let new_part = ap (λ n. n * 2 ^ at % 2 ^ w) new in
    let new_fits = mod-eq_of_lt (field_below x at bits w within) in
    omega (arith, parts y at bits)

-- a deposit stays within the word
pub deposit-below : (x y at bits w : ℕ) → at + bits ≤ w → y < 2 ^ w → deposit x y at bits < 2 ^ w
deposit-below x y at bits w within fits =
    let above : ℕ = w - (at + bits) in
    let whole : above + (at + bits) ≡ w = omega arith in
    let high : y / 2 ^ (at + bits) < 2 ^ above = shr_below y above (at + bits) (rw whole fits) in
    let low : x % 2 ^ bits * 2 ^ at + y % 2 ^ at < 2 ^ bits * 2 ^ at = digits_lt (mod-lt x (pow_pos bits)) (mod-lt y (pow_pos at)) in
    let low' : x % 2 ^ bits * 2 ^ at + y % 2 ^ at < 2 ^ (at + bits) = omega (arith, pow-add 2 at bits) in
    let power : 2 ^ above * 2 ^ (at + bits) ≡ 2 ^ w = sym (pow-add 2 above (at + bits)) ∙ ap (λ n. 2 ^ n) whole in
    omega (arith, digits_lt high low')

-- a word shifted to the left keeps its low bits
pub shl-low : (x bits above w : ℕ) → bits + above ≡ w → x * 2 ^ above % 2 ^ w ≡ x % 2 ^ bits * 2 ^ above
shl-low x bits above w e =
    let p = mod-pow-add (x * 2 ^ above) bits above in
    let q = ap (λ n. n % 2 ^ bits * 2 ^ above) (shl-shr x above) in
    let z = mul-mod_left x (2 ^ above) in
    ap (λ n. x * 2 ^ above % 2 ^ n) (sym e) ∙ omega arith

-- shifted back, it has zeros above them
pub shl-shr-low : (x bits above w : ℕ) → bits + above ≡ w → x * 2 ^ above % 2 ^ w / 2 ^ above ≡ x % 2 ^ bits
shl-shr-low x bits above w e = ap (λ n. n / 2 ^ above) (shl-low x bits above w e) ∙ shl-shr (x % 2 ^ bits) above

-- a signed word whose low bits are zeros, shifted back over them
shr-signed : (m d h p : ℕ) → 0 < p → d ≡ 2 * h → d * p ≡ 2 ^ 64 → m < d → shr_z (signed 64 (m * p)) p ≡ cond (nat_lt m h) (pos m) (negsuc (d - suc m))
shr-signed m d h p some twice whole below =
    let half : d * p ≡ 2 * h * p = ap (λ k. k * p) twice in
    let n : ℕ = d - suc m in
    let split : (n + suc m) * p ≡ d * p = ap (λ k. k * p) (omega arith) in
    let rest : 2 ^ 64 - suc (m * p) ≡ n * p + (p - 1) = omega arith in
    let down : m * p / p ≡ m = ap (λ k. k / p) (omega arith) ∙ div-mul-add m p 0 some in
    let up : (2 ^ 64 - suc (m * p)) / p ≡ n = ap (λ k. k / p) rest ∙ div-mul-add n p (p - 1) (omega arith) in
    ⊎_elim
    (λ l. let low : m * p < 2 ^ 63 = omega (arith, digits_lt l some) in grind (arith, nat_tests))
    (λ g. let high : 2 ^ 63 ≤ m * p = omega (arith, mul-le h p m p g (omega arith)) in grind (arith, nat_tests))
    (cases_lt m h)

-- shifted back with its sign, it has their sign bit above them
pub shl-shr-signed : (x bits above : ℕ) → 1 ≤ bits → bits + above ≡ 64 → word_of (shr_z (signed 64 (x * 2 ^ above % 2 ^ 64)) (2 ^ above)) ≡ word_of (signed bits (x % 2 ^ bits))
shl-shr-signed x bits above some e =
    let whole : 2 ^ bits * 2 ^ above ≡ 2 ^ 64 = sym (pow-add 2 bits above) ∙ ap (λ n. 2 ^ n) e in
    ap (λ n. word_of (shr_z (signed 64 n) (2 ^ above))) (shl-low x bits above 64 e)
    ∙ ap word_of (shr-signed (x % 2 ^ bits) (2 ^ bits) (2 ^ (bits - 1)) (2 ^ above) (pow_pos above) (twice bits some) whole (mod-lt x (pow_pos bits)))
