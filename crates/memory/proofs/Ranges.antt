-- Tests and words over a range of addresses.
use Rattle.std.proofs.Common.{◌≡◌, ℕ, zero, suc, ◌+◌, ◌-◌, ◌^◌, ◌<◌, ◌≤◌, min, Bool, true, false, ◌&&◌, leb, Decides, sym, refl, ap, ◌∙◌, ⊎_elim, add-zero, add-one, arith}
use Rattle.std.proofs.lemmas.Bool.{and_from, cases_lt, cases_Bool, both_ways}
use Rattle.std.proofs.lemmas.Bool.Decides.{Decides-below_and, Decides-and, Decides-like, same_from_decides, nat_tests}
use Rattle.memory.specs.declared.access.Size.{Size}
use Rattle.memory.specs.declared.access.Size.TheVariants.{One, Two, Four, Eight}
use Rattle.memory.specs.Access.{bytes_of}
use Rattle.memory.specs.Meaning.{each, word}
use Rattle.memory.specs.Kinds.{inside}

pub some_bytes : (s : Size) → 0 < bytes_of s
some_bytes One = omega arith
some_bytes Two = omega arith
some_bytes Four = omega arith
some_bytes Eight = omega arith

pub few_bytes : (s : Size) → bytes_of s ≤ 8
few_bytes One = omega arith
few_bytes Two = omega arith
few_bytes Four = omega arith
few_bytes Eight = omega arith

-- a test of each address says what the test says of each
pub each-decides : (test : ℕ → Bool) (P : ℕ → Type 0) → ((a : ℕ) → Decides (test a) (P a)) → (address n : ℕ) → Decides (each test address n) ((k : ℕ) → k < n → P (address + k))
unfolding each
each-decides test P d address n =
    Decides-below_and (λ k. test (address + k)) (λ k. P (address + k)) (each test address) (λ k. d (address + k)) refl (λ _. refl) n

inside-decides : (base n a : ℕ) → Decides (inside base n a) ((base ≤ a) × (a < base + n) × (a < 2 ^ 64))
inside-decides base n a = (λ e. (grind (arith, nat_tests), grind (arith, nat_tests), grind (arith, nat_tests)), λ h. grind (arith, nat_tests))

-- a range lies inside another if its two ends do
pub each-inside : (base len a n : ℕ) → 0 < n → each (inside base len) a n ≡ (leb base a && leb (a + n) (min (base + len) (2 ^ 64)))
each-inside base len a n some = same_from_decides _ _ d (λ e. ends (grind (arith, nat_tests)) (grind (arith, nat_tests)), λ h. let f = h 0 some in let l = h (n - 1) (omega arith) in grind (arith, nat_tests))
  where
    d : Decides (each (inside base len) a n) ((k : ℕ) → k < n → (base ≤ a + k) × (a + k < base + len) × (a + k < 2 ^ 64))
    d = each-decides (inside base len) (λ x. (base ≤ x) × (x < base + len) × (x < 2 ^ 64)) (inside-decides base len) a n

    ends : base ≤ a → a + n ≤ min (base + len) (2 ^ 64) → (k : ℕ) → k < n → (base ≤ a + k) × (a + k < base + len) × (a + k < 2 ^ 64)
    ends p q k h = (omega arith, omega arith, omega arith)

-- a test that holds everywhere or nowhere, joined to another
pub each_and : (b : Bool) (test : ℕ → Bool) (a n : ℕ) → 0 < n → each (λ x. b && test x) a n ≡ (b && each test a n)
unfolding each
each_and true test a n some = refl
each_and false test a zero some = absurd (omega arith)
each_and false test a (suc n) some = refl

-- words of the same bytes are equal, wherever they stand
pub word_same : (f g : ℕ → ℕ) (a b n : ℕ) → ((k : ℕ) → k < n → f (a + k) ≡ g (b + k)) → word f a n ≡ word g b n
unfolding word
word_same f g a b zero same = refl
word_same f g a b (suc n) same =
    let front = word_same f g a b n (λ k h. same k (omega arith)) in
    let last = same n (omega arith) in
    cc

-- a test of a range is a test of its two parts
pub each-split : (test : ℕ → Bool) (a n k : ℕ) → each test a (n + k) ≡ (each test a n && each test (a + n) k)
each-split test a n k = same_from_decides _ _ whole (Decides-like _ join split (Decides-and _ _ front back))
  where
    P : ℕ → Type 0
    P x = test x ≡ true

    whole : Decides (each test a (n + k)) ((i : ℕ) → i < n + k → P (a + i))
    whole = each-decides test P (λ x. (λ e. e, λ e. e)) a (n + k)

    front : Decides (each test a n) ((i : ℕ) → i < n → P (a + i))
    front = each-decides test P (λ x. (λ e. e, λ e. e)) a n

    back : Decides (each test (a + n) k) ((i : ℕ) → i < k → P (a + n + i))
    back = each-decides test P (λ x. (λ e. e, λ e. e)) (a + n) k

    join : ((i : ℕ) → i < n → P (a + i)) × ((i : ℕ) → i < k → P (a + n + i)) → (i : ℕ) → i < n + k → P (a + i)
    join h i l = ⊎_elim (h.0 i) (λ p. let e : a + n + (i - n) ≡ a + i = omega arith in rw e at (h.1 (i - n) (omega arith))) (cases_lt i n)

    split : ((i : ℕ) → i < n + k → P (a + i)) → ((i : ℕ) → i < n → P (a + i)) × ((i : ℕ) → i < k → P (a + n + i))
    split h = (λ i l. h i (omega arith), λ i l. let e : a + (n + i) ≡ a + n + i = omega arith in rw e at (h (n + i) (omega arith)))

-- tests of ranges that agree byte by byte are equal, wherever they stand
pub each_same : (f g : ℕ → Bool) (a b n : ℕ) → ((k : ℕ) → k < n → f (a + k) ≡ g (b + k)) → each f a n ≡ each g b n
unfolding each
each_same f g a b zero same = refl
each_same f g a b (suc n) same =
    let front = each_same f g a b n (λ k h. same k (omega arith)) in
    let last = same n (omega arith) in
    cc

-- a test that holds of a range holds at each address
pub each_at : (test : ℕ → Bool) (a n k : ℕ) → k < n → each test a n ≡ true → test (a + k) ≡ true
each_at test a n k h t = (each-decides test (λ x. test x ≡ true) (λ x. (λ p. p, λ p. p)) a n).0 t k h

-- a test that fails at one address fails
pub each-fail : (test : ℕ → Bool) (a n k : ℕ) → k < n → test (a + k) ≡ false → false ≡ each test a n
each-fail test a n k h e = ⊎_elim (λ t. absurd (refuted t)) sym (cases_Bool (each test a n))
  where
    refuted : each test a n ≡ true → ⊥
    refuted t = both_ways (test (a + k)) e (each_at test a n k h t)

pub each_first : (test : ℕ → Bool) (a n : ℕ) → 0 < n → test a ≡ false → false ≡ each test a n
each_first test a n some e = each-fail test a n 0 some (ap test (add-zero a) ∙ e)

-- a test of one address more
pub each_none : (test : ℕ → Bool) (a : ℕ) → true ≡ each test a 0
unfolding each
each_none test a = refl

pub each_more : (test : ℕ → Bool) (a n : ℕ) → true ≡ each test a n → test (a + n) ≡ true → true ≡ each test a (n + 1)
unfolding each
each_more test a n e t = rw add-one (sym (and_from (test (a + n)) _ t (sym e)))

-- whether a range of addresses covers an access
pub ruleset covering = (each-inside, some_bytes, nat_tests)
