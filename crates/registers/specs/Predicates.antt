-- The predicates as one word, by cells.
use Rattle.std.specs.Prelude.{ℕ, zero, suc, ◌+◌, ◌^◌, Bool, true, false, cond, List, ◌==◌, slice_index_or, slice_set}
use Rattle.integer.specs.Words.{bit}

-- predicate cell k; that of predicate 0 is always true
abbrev pub predicate_in : List Bool → ℕ → Bool
predicate_in cells k = cond (k == 0) true (slice_index_or cells k false)

-- the word of which bit k, for k below n, says whether f is true of k
unfoldable pub word_below : (ℕ → Bool) → ℕ → ℕ
word_below f zero = 0
word_below f (suc n) = word_below f n + cond (f n) (2 ^ n) 0

-- the cells after cell k is set from bit k of a word, if bit k of the mask is set
abbrev pub masked : ℕ → ℕ → ℕ → List Bool → List Bool
masked word mask k cells = cond (bit k mask == 1) (slice_set cells k (bit k word == 1)) cells

-- the cells after this is done for cells 1 to n
unfoldable pub masked_from : ℕ → ℕ → ℕ → List Bool → List Bool
masked_from word mask zero cells = cells
masked_from word mask (suc n) cells = masked word mask (suc n) (masked_from word mask n cells)
