-- Bytes that lie from a base up.
use Rattle.std.proofs.Common.{◌≡◌, ℕ, ◌+◌, ◌-◌, ◌^◌, ◌<◌, ◌≤◌, Bool, true, false, ◌&&◌, List, length, get_or, Ok, Err, sym, refl, ap, ◌∙◌, ⊎_elim, arith}
use mathlib.Core.Path.{fun_ext}
use Rattle.std.proofs.lemmas.Bool.{cases_Bool, cond-true, cond-false, and_right}
use Rattle.std.proofs.lemmas.Bool.Decides.{nat_tests}
use Rattle.memory.specs.declared.access.Right.{Right}
use Rattle.memory.specs.declared.access.Right.TheVariants.{Read, Write, Speculative}
use Rattle.memory.specs.declared.access.Rights.{Rights}
use Rattle.memory.specs.declared.access.Size.{Size}
use Rattle.memory.specs.Access.{has, bytes_of}
use Rattle.memory.specs.Meaning.{nowhere, each, word, granted, word_at, loaded}
use Rattle.memory.specs.Kinds.{inside, laid, all_rights}
use Rattle.memory.proofs.Top.{has-nowhere}
use Rattle.memory.proofs.Ranges.{some_bytes, each_and, word_same}

and-true : (x y : Bool) → y ≡ true → (x && y) ≡ x
and-true true y e = e
and-true false y e = refl

module _ (rights : Rights) (base : ℕ) (bytes : List ℕ) where
  pub laid_in : (a : ℕ) → inside base (length bytes) a ≡ true → laid rights base bytes a ≡ record { byte = get_or bytes (a - base) 0; rights = rights }
  unfolding laid
  laid_in a e = cond-true _ _ _ e

  pub laid_out : (a : ℕ) → inside base (length bytes) a ≡ false → laid rights base bytes a ≡ nowhere
  unfolding laid
  laid_out a e = cond-false _ _ _ e

  has-laid : (right : Right) (a : ℕ) → has (laid rights base bytes a).rights right ≡ (has rights right && inside base (length bytes) a)
  has-laid right a =
      ⊎_elim (λ e. ap (λ l. has l.rights right) (laid_in a e) ∙ sym (and-true (has rights right) _ e))
      (λ e. ap (λ l. has l.rights right) (laid_out a e) ∙ has-nowhere right ∙ sym (and_right (has rights right) _ e))
      (cases_Bool (inside base (length bytes) a))

  -- an access has a right if the bytes have it and cover the access
  laid-granted : (right : Right) (a n : ℕ) → 0 < n → granted (laid rights base bytes) right a n ≡ (has rights right && each (inside base (length bytes)) a n)
  laid-granted right a n some = ap (λ test. each test a n) (fun_ext (has-laid right)) ∙ each_and (has rights right) (inside base (length bytes)) a n some

  pub granted-covered : (right : Right) (a n : ℕ) (r : Bool) → 0 < n → has rights right ≡ true → r ≡ each (inside base (length bytes)) a n → r ≡ granted (laid rights base bytes) right a n
  granted-covered right a n r some h e = e ∙ sym (laid-granted right a n some ∙ ap (λ b. b && each (inside base (length bytes)) a n) h)

  pub granted-not : (right : Right) (a n : ℕ) → 0 < n → has rights right ≡ false → false ≡ granted (laid rights base bytes) right a n
  granted-not right a n some h = sym (laid-granted right a n some ∙ ap (λ b. b && each (inside base (length bytes)) a n) h)

  -- a word of the memory is one of the bytes
  pub laid_word : (a n : ℕ) → base ≤ a → a + n ≤ base + length bytes → a + n ≤ 2 ^ 64 → word_at (laid rights base bytes) a n ≡ word (λ i. get_or bytes i 0) (a - base) n
  laid_word a n low high top = word_same (λ x. (laid rights base bytes x).byte) (λ i. get_or bytes i 0) a (a - base) n at
    where
      at : (k : ℕ) → k < n → (laid rights base bytes (a + k)).byte ≡ get_or bytes (a - base + k) 0
      at k h =
          let i : inside base (length bytes) (a + k) ≡ true = grind (arith, nat_tests) in
          let s : a + k - base ≡ a - base + k = omega arith in
          ap (λ l. l.byte) (laid_in (a + k) i) ∙ ap (λ j. get_or bytes j 0) s

  -- where the bytes can be read, a load answers the word of them that it names, or that they do not cover it
  pub loaded-covered : (a : ℕ) (size : Size) (w : ℕ) → has rights Read ≡ true → true ≡ each (inside base (length bytes)) a (bytes_of size) → w ≡ word_at (laid rights base bytes) a (bytes_of size) → Ok w ≡ loaded (laid rights base bytes) a size
  loaded-covered a size w h e p =
      ap Ok p ∙ sym (cond-true _ _ _ (sym (granted-covered Read a (bytes_of size) true (some_bytes size) h e)))

  pub loaded-not : (a : ℕ) (size : Size) → has rights Read ≡ true → false ≡ each (inside base (length bytes)) a (bytes_of size) → Err (record { address = a }) ≡ loaded (laid rights base bytes) a size
  loaded-not a size h e = sym (cond-false _ _ _ (sym (granted-covered Read a (bytes_of size) false (some_bytes size) h e)))

pub all-rights : (right : Right) → has all_rights right ≡ true
all-rights Read = refl
all-rights Write = refl
all-rights Speculative = refl
