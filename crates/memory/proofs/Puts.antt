-- Words that are put into a list of bytes.
use Rattle.std.proofs.Common.{◌≡◌, ℕ, ◌+◌, ◌-◌, ◌/◌, ◌%◌, ◌^◌, ◌<◌, ◌≤◌, leb, ◌⊎◌, List, [], ◌∷◌, map, length, get_or, take, drop, sym, ap, ◌∙◌, inl, inr, ⊎_elim, zero-add, div-one, arith}
use borrow.Rule.Slice.PartMut.{put_mid}
use Rattle.std.specs.List.{range_with_len}
use Rattle.std.proofs.lemmas.List.FromFn.{get_or-map-range_with_len}
use Rattle.std.proofs.lemmas.List.{get_or-take, get_or-drop, get_or_append_left, get_or-append_right, length-take}
use Rattle.std.proofs.lemmas.Bool.{cases_lt, cond-true, cond-false, and_from, and_left, and_right, le-leb, lt-leb, lt-ltb, le-ltb}
use Rattle.memory.specs.Meaning.{replaced}

-- the eight bytes of a word
abbrev pub eight : ℕ → List ℕ
eight v =
    (v % 256) ∷ (v / 256 % 256) ∷ (v / 65536 % 256) ∷ (v / 16777216 % 256) ∷ (v / 4294967296 % 256) ∷ (v / 1099511627776 % 256) ∷ (v / 281474976710656 % 256) ∷ (v / 72057594037927936 % 256) ∷ []

pub eight-at : (v i : ℕ) → i < 8 → get_or (eight v) i 0 ≡ v / 256 ^ i % 256
eight-at v i h =
    let f : ℕ → ℕ = λ k. v / 256 ^ k % 256 in
    let e : eight v ≡ map f (range_with_len 0 8) = ap (λ x. (x % 256) ∷ drop 1 (eight v)) (sym (div-one v)) in
    ap (λ xs. get_or xs i 0) e ∙ get_or-map-range_with_len f 0 8 i i 0 h (zero-add i)

pub replaced-in : (f : ℕ → ℕ) (at n v a : ℕ) → at ≤ a → a < at + n → replaced f at n v a ≡ v / 256 ^ (a - at) % 256
unfolding replaced
replaced-in f at n v a h k = cond-true _ _ _ (and_from (leb at a) _ (le-leb at a h) (lt-ltb a (at + n) k))

pub replaced-out : (f : ℕ → ℕ) (at n v a : ℕ) → (a < at) ⊎ (at + n ≤ a) → replaced f at n v a ≡ f a
unfolding replaced
replaced-out f at n v a (inl h) = cond-false _ _ _ (and_left (leb at a) _ (lt-leb at a h))
replaced-out f at n v a (inr h) = cond-false _ _ _ (and_right (leb at a) _ (le-ltb a (at + n) h))

-- a list in which n bytes are written over
pub put-list : (xs ys : List ℕ) (at n v : ℕ) → at + n ≤ length xs → length ys ≡ n → ((i : ℕ) → i < n → get_or ys i 0 ≡ v / 256 ^ i % 256) → (k : ℕ) → get_or (put_mid at n xs ys) k 0 ≡ replaced (λ i. get_or xs i 0) at n v k
put-list xs ys at n v fits len is k = ⊎_elim below (λ l. ⊎_elim (within l) above (cases_lt k (at + n))) (cases_lt k at)
  where
    len_take : length (take at xs) ≡ at
    len_take = length-take at xs ∙ omega arith

    f : ℕ → ℕ
    f i = get_or xs i 0

    below : k < at → get_or (put_mid at n xs ys) k 0 ≡ replaced f at n v k
    below h = get_or_append_left (take at xs) _ 0 k (omega (arith, len_take)) ∙ get_or-take at xs k 0 h ∙ sym (replaced-out f at n v k (inl h))

    within : at ≤ k → k < at + n → get_or (put_mid at n xs ys) k 0 ≡ replaced f at n v k
    within l h =
        get_or-append_right (take at xs) _ at k 0 len_take l ∙ get_or_append_left ys _ 0 (k - at) (omega arith) ∙ is (k - at) (omega arith) ∙ sym (replaced-in f at n v k l h)

    above : at + n ≤ k → get_or (put_mid at n xs ys) k 0 ≡ replaced f at n v k
    above h =
        let e : at + (n + (k - at - n)) ≡ k = omega arith in
        get_or-append_right (take at xs) _ at k 0 len_take (omega arith) ∙ get_or-append_right ys _ n (k - at) 0 len (omega arith) ∙ get_or-drop n (drop at xs) (k - at - n) 0 ∙ get_or-drop at xs _ 0 ∙ ap f e ∙ sym (replaced-out f at n v k (inr h))

-- the n low bytes of a word, as the code writes them: the part is `span` bytes long, and m says how many it should be
pub put_low : (xs ys w : List ℕ) (at n span m v : ℕ) → at + m ≤ length xs → n ≤ 8 → span ≡ n → m ≡ n → w ≡ eight v → ys ≡ take n w → (k : ℕ) → get_or (put_mid at span xs ys) k 0 ≡ replaced (λ i. get_or xs i 0) at m v k
put_low xs ys w at n span m v fits few s e we ye k =
    let y : ys ≡ take n (eight v) = ye ∙ ap (take n) we in
    let len : length ys ≡ n = ap length y ∙ length-take n (eight v) ∙ omega arith in
    let is : (i : ℕ) → i < n → get_or ys i 0 ≡ v / 256 ^ i % 256 = λ i h. ap (λ l. get_or l i 0) y ∙ get_or-take n (eight v) i 0 h ∙ eight-at v i (omega arith) in
    rw (s, e) (put-list xs ys at n v (omega arith) len is k)
