-- What a load answers, for any memory, and for one that agrees with another on the bytes of an access.
use Rattle.std.proofs.Common.{◌≡◌, ℕ, ◌+◌, ◌^◌, ◌<◌, ◌≤◌, Bool, true, false, cond, List, length, get_or, Ok, Err, Result, sym, refl, ap, ◌∙◌, ⊎_elim, zero-add, arith}
use Rattle.std.proofs.lemmas.Bool.{both_ways, cases_lt, cond-true, cond-false, le-leb}
use Rattle.memory.specs.declared.access.MissingRight.{MissingRight}
use Rattle.memory.specs.declared.access.Right.{Right}
use Rattle.memory.specs.declared.access.Right.TheVariants.{Read}
use Rattle.memory.specs.declared.access.Size.{Size}
use Rattle.memory.specs.Access.{bytes_of}
use Rattle.memory.specs.Meaning.{Meaning, nowhere, granted, loaded, word_at}
use Rattle.memory.specs.Kinds.{all_rights, laid}
use Rattle.memory.proofs.Laid.{granted-covered, laid_word}
use Rattle.memory.proofs.Ranges.{each-inside, few_bytes, some_bytes, word_same}
use Rattle.memory.proofs.Top.{granted-past}

pub load-refused : (m : Meaning) (a : ℕ) (size : Size) → false ≡ granted m Read a (bytes_of size) → Err (record { address = a }) ≡ loaded m a size
load-refused m a size e = sym (cond-false _ _ _ (sym e))

pub load-done : (m : Meaning) (a : ℕ) (size : Size) (w : ℕ) → true ≡ granted m Read a (bytes_of size) → w ≡ word_at m a (bytes_of size) → Ok w ≡ loaded m a size
load-done m a size w e p = ap Ok p ∙ sym (cond-true _ _ _ (sym e))

abbrev answer_by : Bool → ℕ → ℕ → Result ℕ MissingRight
answer_by t w a = cond t (Ok w) (Err (record { address = a }))

-- the bytes of an access are those of another memory
module _ (m other : Meaning) (a b : ℕ) (size : Size) (g : granted m Read a (bytes_of size) ≡ granted other Read b (bytes_of size)) (w : word_at m a (bytes_of size) ≡ word_at other b (bytes_of size)) where
  pub load_same : (word : ℕ) → Ok word ≡ loaded other b size → Ok word ≡ loaded m a size
  load_same word e = go (granted other Read b (bytes_of size)) refl e
    where
      go : (t : Bool) → granted other Read b (bytes_of size) ≡ t → Ok word ≡ answer_by t (word_at other b (bytes_of size)) b → Ok word ≡ loaded m a size
      go true q e' = load-done m a size word (sym (g ∙ q)) (let z : word ≡ word_at other b (bytes_of size) = cc in z ∙ sym w)
      go false q e' = absurd (let z : ◌≡◌ {A = ℕ} 0 1 = cc in omega arith)

  pub load-same-not : (x : MissingRight) → Err x ≡ loaded other b size → Err (record { address = a }) ≡ loaded m a size
  load-same-not x e = go (granted other Read b (bytes_of size)) refl e
    where
      go : (t : Bool) → granted other Read b (bytes_of size) ≡ t → Err x ≡ answer_by t (word_at other b (bytes_of size)) b → Err (record { address = a }) ≡ loaded m a size
      go true q e' = absurd (let z : ◌≡◌ {A = ℕ} 0 1 = cc in omega arith)
      go false q e' = load-refused m a size (sym (g ∙ q))

-- an access that has a right does not pass the top address
pub granted-fits : (m : Meaning) → ((a : ℕ) → 2 ^ 64 ≤ a → m a ≡ nowhere) → (right : Right) (a n : ℕ) → 0 < n → granted m right a n ≡ true → a + n ≤ 2 ^ 64
granted-fits m bounded right a n some e = ⊎_elim (λ h. absurd (both_ways _ (granted-past m bounded right a n some h) e)) (λ h. h) (cases_lt (2 ^ 64) (a + n))

-- bytes that were gathered one by one are the word
pub load-gathered : (m : Meaning) (a : ℕ) (size : Size) (word : List ℕ) → length word ≡ 8 → ((k : ℕ) → k < bytes_of size → get_or word k 0 ≡ (m (a + k)).byte) → true ≡ granted m Read a (bytes_of size) → loaded (laid all_rights 0 word) 0 size ≡ loaded m a size
load-gathered m a size word len same g =
    sym (load-done (laid all_rights 0 word) 0 size (word_at m a (bytes_of size)) covered words) ∙ load-done m a size (word_at m a (bytes_of size)) g refl
  where
    few : bytes_of size ≤ 8
    few = few_bytes size

    covered : true ≡ granted (laid all_rights 0 word) Read 0 (bytes_of size)
    covered =
        granted-covered all_rights 0 word Read 0 (bytes_of size) true (some_bytes size) refl
        (let p = some_bytes size in let e = each-inside 0 (length word) 0 (bytes_of size) p in sym (e ∙ le-leb (0 + bytes_of size) _ (omega (arith, few))))

    words : word_at m a (bytes_of size) ≡ word_at (laid all_rights 0 word) 0 (bytes_of size)
    words =
        word_same (λ x. (m x).byte) (λ i. get_or word i 0) a 0 (bytes_of size) (λ k h. sym (same k h) ∙ ap (λ i. get_or word i 0) (sym (zero-add k))) ∙ sym (laid_word all_rights 0 word 0 (bytes_of size) (omega arith) (omega (arith, few)) (omega (arith, few)))
