-- What ranges allow, and what a memory under them grants.
use Rattle.std.proofs.Common.{◌≡◌, ℕ, ◌+◌, ◌-◌, ◌<◌, ◌≤◌, Bool, true, false, not, ◌&&◌, ◌||◌, ltb, leb, List, [], ◌∷◌, Decides, sym, refl, ap, ◌∙◌, arith}
use mathlib.Core.Path.{fun_ext}
use Rattle.std.specs.List.{list_all}
use Rattle.std.proofs.lemmas.Bool.Decides.{Decides-and, Decides-like, Decides-not, same_from_decides, nat_tests}
use Rattle.memory.specs.declared.access.Right.{Right}
use Rattle.memory.specs.declared.access.Right.TheVariants.{Read, Write, Speculative}
use Rattle.memory.specs.declared.access.Rights.{Rights}
use Rattle.memory.specs.Access.{has}
use Rattle.memory.specs.Meaning.{Meaning, each, granted}
use Rattle.memory.proofs.Ranges.{each-decides}
use Rattle.protection.specs.declared.range.Range.{Range}
use Rattle.protection.specs.Taking.{holds, taken, left, protected, allowed}

-- two tests of each address are a test of each by both
each_both : (f g : ℕ → Bool) (a n : ℕ) → each (λ x. f x && g x) a n ≡ (each f a n && each g a n)
each_both f g a n = same_from_decides _ _ both (Decides-like _ join split (Decides-and _ _ (one f) (one g)))
  where
    one : (test : ℕ → Bool) → Decides (each test a n) ((k : ℕ) → k < n → test (a + k) ≡ true)
    one test = each-decides test (λ x. test x ≡ true) (λ x. (λ e. e, λ e. e)) a n

    both : Decides (each (λ x. f x && g x) a n) ((k : ℕ) → k < n → (f (a + k) ≡ true) × (g (a + k) ≡ true))
    both = each-decides (λ x. f x && g x) (λ x. (f x ≡ true) × (g x ≡ true)) (λ x. Decides-and (f x) (g x) (λ e. e, λ e. e) (λ e. e, λ e. e)) a n

    join : ((k : ℕ) → k < n → f (a + k) ≡ true) × ((k : ℕ) → k < n → g (a + k) ≡ true) → (k : ℕ) → k < n → (f (a + k) ≡ true) × (g (a + k) ≡ true)
    join h k l = (h.0 k l, h.1 k l)

    split : ((k : ℕ) → k < n → (f (a + k) ≡ true) × (g (a + k) ≡ true)) → ((k : ℕ) → k < n → f (a + k) ≡ true) × ((k : ℕ) → k < n → g (a + k) ≡ true)
    split h = (λ k l. (h k l).0, λ k l. (h k l).1)

each-true : (a n : ℕ) → each (λ _. true) a n ≡ true
each-true a n = (each-decides (λ _. true) (λ _. true ≡ true) (λ _. (λ e. e, λ e. e)) a n).1 (λ k l. refl)

has_left : (ranges : List Range) (a : ℕ) (rights : Rights) (right : Right) → has (left ranges a rights) right ≡ (has rights right && not (taken ranges right a))
has_left ranges a rights Read = refl
has_left ranges a rights Write = refl
has_left ranges a rights Speculative = refl

-- an access has a right if the memory grants it and the ranges allow it
pub granted_protected : (ranges : List Range) (m : Meaning) (right : Right) (a n : ℕ) → granted (protected ranges m) right a n ≡ (granted m right a n && allowed ranges right a n)
granted_protected ranges m right a n =
    ap (λ test. each test a n) (fun_ext (λ x. has_left ranges x (m x).rights right)) ∙ each_both (λ x. has (m x).rights right) (λ x. not (taken ranges right x)) a n

-- no ranges allow everything
pub allowed-none : (right : Right) (a n : ℕ) → allowed [] right a n ≡ true
unfolding taken
allowed-none right a n = each-true a n

not-or : (p q : Bool) → not (p || q) ≡ (not p && not q)
not-or true q = refl
not-or false q = refl

-- a range holds no address of the access if it has none, ends below or begins above it
missed : (range : Range) (a n : ℕ) → each (λ x. not (holds range x)) a n ≡ (ltb range.last range.first || ltb range.last a || leb n (range.first - a))
missed range a n = same_from_decides _ _ each_way (Decides-like _ apart meet whole)
  where
    first : ℕ
    first = range.first

    last : ℕ
    last = range.last

    In : ℕ → Type 0
    In x = (first ≤ x) × (x ≤ last)

    Meet : Type 0
    Meet = (first ≤ last) × (a ≤ last) × (first - a < n)

    holds-decides : (x : ℕ) → Decides (holds range x) (In x)
    holds-decides x = (λ h. (grind (arith, nat_tests), grind (arith, nat_tests)), λ h. grind (arith, nat_tests))

    each_way : Decides (each (λ x. not (holds range x)) a n) ((k : ℕ) → k < n → In (a + k) → ⊥)
    each_way = each-decides (λ x. not (holds range x)) (λ x. In x → ⊥) (λ x. Decides-not (holds range x) (holds-decides x)) a n

    whole : Decides (ltb last first || ltb last a || leb n (first - a)) (Meet → ⊥)
    whole = (λ e h. grind (arith, nat_tests), λ none. grind (arith, nat_tests))

    apart : (Meet → ⊥) → (k : ℕ) → k < n → In (a + k) → ⊥
    apart none k l h = none (omega arith, omega arith, omega arith)

    meet : ((k : ℕ) → k < n → In (a + k) → ⊥) → Meet → ⊥
    meet none h = none (first - a) h.2 (omega arith, omega arith)

spared : (b : Bool) (range : Range) (a n : ℕ) → each (λ x. not (b && holds range x)) a n ≡ (not b || ltb range.last range.first || ltb range.last a || leb n (range.first - a))
spared true range a n = missed range a n
spared false range a n = each-true a n

or-false : (b : Bool) → (b || false) ≡ b
or-false true = refl
or-false false = refl

-- a range allows an access if it does not take the right, or holds no address of it
pub allowed_one : (range : Range) (right : Right) (a n : ℕ) → allowed (range ∷ []) right a n ≡ (not (has range.taken right) || ltb range.last range.first || ltb range.last a || leb n (range.first - a))
unfolding taken
allowed_one range right a n =
    ap (λ test. each test a n) (fun_ext (λ x. ap not (or-false (has range.taken right && holds range x)))) ∙ spared (has range.taken right) range a n

-- one more range
allowed-more : (range : Range) (ranges : List Range) (right : Right) (a n : ℕ) → allowed (range ∷ ranges) right a n ≡ (allowed (range ∷ []) right a n && allowed ranges right a n)
unfolding taken
allowed-more range ranges right a n =
    let one : ℕ → Bool = λ x. has range.taken right && holds range x in
    let alone : each (λ x. not (one x)) a n ≡ allowed (range ∷ []) right a n = ap (λ test. each test a n) (fun_ext (λ x. sym (ap not (or-false (one x))))) in
    ap (λ test. each test a n) (fun_ext (λ x. not-or (one x) (taken ranges right x))) ∙ each_both (λ x. not (one x)) (λ x. not (taken ranges right x)) a n ∙ ap (λ b. b && allowed ranges right a n) alone

-- ranges allow an access if each of them does
pub allowed-each : (ranges : List Range) (right : Right) (a n : ℕ) → allowed ranges right a n ≡ list_all (λ range. allowed (range ∷ []) right a n) ranges
allowed-each [] right a n = allowed-none right a n
allowed-each (range ∷ ranges) right a n =
    allowed-more range ranges right a n ∙ ap (λ b. allowed (range ∷ []) right a n && b) (allowed-each ranges right a n)
