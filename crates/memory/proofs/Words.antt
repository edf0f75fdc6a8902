-- Words of bytes that are taken out of a list.
use Rattle.std.proofs.Common.{◌≡◌, ℕ, List, get_or, take, drop, ap, ◌∙◌, zero-add, rules, w16, w32, w64}
use Rattle.std.specs.Int.{from_le_bytes}
use Rattle.std.proofs.lemmas.List.{get_or-take, get_or-drop}
use Rattle.memory.specs.Meaning.{word}
use Rattle.memory.proofs.Ranges.{word_same}

two : (ys : List ℕ) → from_le_bytes w16 ys ≡ word (λ i. get_or ys i 0) 0 2
unfolding word
two ys = search rules

four : (ys : List ℕ) → from_le_bytes w32 ys ≡ word (λ i. get_or ys i 0) 0 4
unfolding word
four ys = search rules

eight : (ys : List ℕ) → from_le_bytes w64 ys ≡ word (λ i. get_or ys i 0) 0 8
unfolding word
eight ys = search rules

-- the word of the part is that of the list at its place
part : (xs ys : List ℕ) (at n : ℕ) → ys ≡ take n (drop at xs) → word (λ i. get_or ys i 0) 0 n ≡ word (λ i. get_or xs i 0) at n
part xs ys at n e =
    word_same _ _ 0 at n (λ k h. ap (λ j. get_or ys j 0) (zero-add k) ∙ ap (λ l. get_or l k 0) e ∙ get_or-take n (drop at xs) k 0 h ∙ get_or-drop at xs k 0)

module _ (xs ys : List ℕ) (at : ℕ) where
  pub word-two : ys ≡ take 2 (drop at xs) → from_le_bytes w16 ys ≡ word (λ i. get_or xs i 0) at 2
  word-two e = two ys ∙ part xs ys at 2 e

  pub word-four : ys ≡ take 4 (drop at xs) → from_le_bytes w32 ys ≡ word (λ i. get_or xs i 0) at 4
  word-four e = four ys ∙ part xs ys at 4 e

  pub word-eight : ys ≡ take 8 (drop at xs) → from_le_bytes w64 ys ≡ word (λ i. get_or xs i 0) at 8
  word-eight e = eight ys ∙ part xs ys at 8 e
