-- The low bits of a number whose sign was extended.
use Rattle.std.proofs.Common.{◌≡◌, ℕ, suc, ◌+◌, ◌-◌, ◌*◌, ◌%◌, ◌^◌, ◌<◌, ◌≤◌, sym, ap, ◌∙◌, inl, inr, mod-eq_of_lt, suc-mul, arith}
use Rattle.std.proofs.lemmas.Nat.{pow_pos, pow-add, mod_low}
use Rattle.std.proofs.lemmas.Bool.{cond-true, cond-false, lt-ltb, le-ltb, cases_lt}
use Rattle.integer.specs.Words.{signed, word_of}

-- the word that a negative number leaves, as a multiple of 2 ^ n above it
spread : (n x : ℕ) → n ≤ 64 → x < 2 ^ n → 2 ^ 64 - suc (2 ^ n - suc x) ≡ (2 ^ (64 - n) - 1) * 2 ^ n + x
spread n x few small =
    let e : (64 - n) + n ≡ 64 = omega arith in
    let p : 2 ^ (64 - n) * 2 ^ n ≡ 2 ^ 64 = sym (pow-add 2 (64 - n) n) ∙ ap (λ k. 2 ^ k) e in
    let q = pow_pos (64 - n) in
    let s : 2 ^ (64 - n) ≡ suc (2 ^ (64 - n) - 1) = omega arith in
    let d : 2 ^ (64 - n) * 2 ^ n ≡ (2 ^ (64 - n) - 1) * 2 ^ n + 2 ^ n = ap (λ k. k * 2 ^ n) s ∙ suc-mul (2 ^ (64 - n) - 1) (2 ^ n) in
    omega arith

-- the low n bits of the word are the number
pub low_bits : (n x : ℕ) → n ≤ 64 → x < 2 ^ n → word_of (signed n x) % 2 ^ n ≡ x
low_bits n x few small =
    elim (cases_lt x (2 ^ (n - 1))) [
      | inl h ↦ ap (λ w. word_of w % 2 ^ n) (cond-true _ _ _ (lt-ltb _ _ h)) ∙ mod-eq_of_lt small
      | inr h ↦ ap (λ w. word_of w % 2 ^ n) (cond-false _ _ _ (le-ltb _ _ h)) ∙ ap (λ w. w % 2 ^ n) (spread n x few small) ∙ mod_low (2 ^ (64 - n) - 1) n x small
    ]
