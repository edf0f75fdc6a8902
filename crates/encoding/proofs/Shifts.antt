-- Shifts by any count.
use Rattle.std.proofs.Common.{◌≡◌, ℕ, zero, suc, ◌*◌, ◌/◌, ◌^◌, ◌<◌, ◌≤◌, sym, ◌∙◌, inl, inr, mod-eq_of_lt, suc-mul, zero-mul, arith, pow_mono}
use Rattle.std.proofs.lemmas.Bool.{cond-true, cond-false, lt-ltb, le-ltb, cases_lt}
use native.Mathlib.Nat.{div-eq_of_lt}
use Rattle.integer.specs.Words.{left, right}

zero-whole : (x n : ℕ) → 64 ≤ n → x * 2 ^ n < 2 ^ 64 → 0 ≡ x * 2 ^ n
zero-whole zero n l h = sym (zero-mul (2 ^ n))
zero-whole (suc x) n l h = let p : 2 ^ 64 ≤ 2 ^ n = pow_mono l in let s = suc-mul x (2 ^ n) in absurd (omega arith)

-- to the left, where nothing is lost
pub left-whole : (x n : ℕ) → x * 2 ^ n < 2 ^ 64 → left x n ≡ x * 2 ^ n
left-whole x n h =
    elim (cases_lt n 64) [
      | inl l ↦ cond-true _ _ _ (lt-ltb _ _ l) ∙ mod-eq_of_lt h
      | inr l ↦ cond-false _ _ _ (le-ltb _ _ l) ∙ zero-whole x n l h
    ]

zero-right : (x n : ℕ) → 64 ≤ n → x < 2 ^ 64 → 0 ≡ x / 2 ^ n
zero-right x n l h = let p : 2 ^ 64 ≤ 2 ^ n = pow_mono l in let s : x < 2 ^ n = omega arith in sym (div-eq_of_lt s)

-- to the right
pub right-div : (x n : ℕ) → x < 2 ^ 64 → right x n ≡ x / 2 ^ n
right-div x n h =
    elim (cases_lt n 64) [
      | inl l ↦ cond-true _ _ _ (lt-ltb _ _ l)
      | inr l ↦ cond-false _ _ _ (le-ltb _ _ l) ∙ zero-right x n l h
    ]
