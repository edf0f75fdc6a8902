-- Accesses byte by byte.
use Rattle.std.proofs.Common.{◌≡◌, ℕ, zero, suc, ◌+◌, ◌/◌, ◌%◌, ◌^◌, ◌<◌, Bool, true, false, ◌&&◌, sym, refl, ap, ◌∙◌, add-zero, arith}
use Rattle.std.specs.List.{list_all, range_with_len}
use Rattle.std.proofs.lemmas.Bool.{cond-true}
use Rattle.memory.specs.declared.access.Right.{Right}
use Rattle.memory.specs.declared.access.Right.TheVariants.{Write}
use Rattle.memory.specs.declared.access.Size.TheVariants.{One}
use Rattle.memory.specs.Access.{has}
use Rattle.memory.specs.Meaning.{Meaning, each, granted, put, stored}
use Rattle.memory.proofs.Ranges.{each_at, each-split}
use Rattle.memory.proofs.Stores.{put_next}

and-true : (b : Bool) → (b && true) ≡ b
and-true true = refl
and-true false = refl

each-one : (test : ℕ → Bool) (a : ℕ) → each test a 1 ≡ test a
unfolding each
each-one test a = and-true (test (a + 0)) ∙ ap test (add-zero a)

-- a test of each offset from an address is a test of the addresses
pub each-all : (test : ℕ → Bool) (a from n : ℕ) → list_all (λ k. test (a + k)) (range_with_len from n) ≡ each test (a + from) n
unfolding each
each-all test a from zero = refl
each-all test a from (suc n) =
    let next : a + (from + 1) ≡ a + from + 1 = omega arith in
    let count : suc n ≡ 1 + n = omega arith in
    let front : each test (a + from) (suc n) ≡ (test (a + from) && each test (a + from + 1) n) = ap (each test (a + from)) count ∙ each-split test (a + from) 1 n ∙ ap (λ b. b && each test (a + from + 1) n) (each-one test (a + from)) in
    ap (λ b. test (a + from) && b) (each-all test a (from + 1) n) ∙ ap (λ x. test (a + from) && each test x n) next ∙ sym front

pub granted-one : (m : Meaning) (right : Right) (a : ℕ) → granted m right a 1 ≡ has (m a).rights right
granted-one m right a = each-one (λ x. has (m x).rights right) a

-- one byte more of a value that may be stored
pub stored_next : (m mid next : Meaning) (a i n v b : ℕ) → mid ≡ put m a i v → i < n → granted m Write a n ≡ true → b ≡ v / 256 ^ i % 256 → next ≡ stored mid (a + i) One b → next ≡ put m a (i + 1) v
stored_next m mid next a i n v b was h can e is =
    let here : granted mid Write (a + i) 1 ≡ true = granted-one mid Write (a + i) ∙ ap (λ f. has (f (a + i)).rights Write) was ∙ each_at (λ x. has (m x).rights Write) a n i h can in
    put_next m mid next a i v b was e (is ∙ cond-true _ _ _ here)
