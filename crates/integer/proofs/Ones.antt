-- The library's count of ones is the count of the bits that are set.
use Rattle.std.proofs.Common.{◌≡◌, ℕ, zero, suc, ◌+◌, ◌%◌, ◌^◌, ◌<◌, sym, refl, ap, ◌∙◌, mod-lt, one-add, arith}
use native.Mathlib.Nat.{mod-one}
use lib.Count.{ones, ones_cat}
use Rattle.std.proofs.lemmas.Nat.{pow_pos, mod-pow-add}
use Rattle.std.proofs.lemmas.Nat.Bits.{bit_at-lt}
use Rattle.integer.specs.Words.{bit, set_bits}

ones-digit : (d : ℕ) → d < 2 → ones d ≡ d
unfolding ones
ones-digit zero h = refl
ones-digit (suc zero) h = refl
ones-digit (suc (suc d)) h = absurd (omega arith)

pub ones_low : (k x : ℕ) → ones (x % 2 ^ k) ≡ set_bits k x
unfolding ones set_bits
ones_low zero x = ap ones (mod-one x)
ones_low (suc k) x =
    let l : x % 2 ^ k < 2 ^ k = mod-lt x (pow_pos k) in
    ap (λ n. ones (x % 2 ^ n)) (sym (one-add k)) ∙ ap ones (mod-pow-add x 1 k) ∙ ones_cat k (bit k x) (x % 2 ^ k) l
    ∙ ap (λ n. n + ones (x % 2 ^ k)) (ones-digit (bit k x) (bit_at-lt x k)) ∙ ap (λ n. bit k x + n) (ones_low k x)
