-- An access that would pass the top address has no right.
use Rattle.std.proofs.Common.{◌≡◌, ℕ, ◌+◌, ◌-◌, ◌^◌, ◌<◌, ◌≤◌, true, false, refl, ap, ◌∙◌, ⊎_elim, arith}
use Rattle.std.proofs.lemmas.Bool.{cases_Bool, both_ways}
use Rattle.memory.specs.declared.access.Right.{Right}
use Rattle.memory.specs.declared.access.Right.TheVariants.{Read, Write, Speculative}
use Rattle.memory.specs.Access.{has}
use Rattle.memory.specs.Meaning.{Meaning, nowhere, granted}
use Rattle.memory.proofs.Ranges.{each-decides}

pub has-nowhere : (right : Right) → has nowhere.rights right ≡ false
has-nowhere Read = refl
has-nowhere Write = refl
has-nowhere Speculative = refl

pub granted-past : (m : Meaning) → ((a : ℕ) → 2 ^ 64 ≤ a → m a ≡ nowhere) → (right : Right) (a n : ℕ) → 0 < n → 2 ^ 64 < a + n → granted m right a n ≡ false
granted-past m bounded right a n some past = ⊎_elim (λ e. absurd (refuted e)) (λ e. e) (cases_Bool (granted m right a n))
  where
    refuted : granted m right a n ≡ true → ⊥
    refuted e =
        both_ways (has (m (a + (n - 1))).rights right) (ap (λ l. has l.rights right) (bounded (a + (n - 1)) (omega arith)) ∙ has-nowhere right)
        ((each-decides (λ x. has (m x).rights right) (λ x. has (m x).rights right ≡ true) (λ x. (λ h. h, λ h. h)) a n).0 e (n - 1) (omega arith))
