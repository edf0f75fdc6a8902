-- What a bank holds when a range of its cells is filled.
use Rattle.std.proofs.Common.{◌≡◌, ℕ, zero, suc, ◌+◌, ◌-◌, ◌<◌, min, cond, ◌&&◌, ltb, leb, List, length, get_or, sym, refl, ◌∙◌, ⊎_elim, arith, length-set}
use Rattle.std.proofs.lemmas.List.{get_or-set_other, get_or_past, ext_get_or, places}
use Rattle.std.proofs.lemmas.Grind.{get_or-set_at}
use Rattle.std.proofs.lemmas.Bool.{cases_eq}
use Rattle.std.proofs.lemmas.Bool.Decides.{nat_tests}
use borrow.Rule.Slice.PartMut.{put_mid}
use Rattle.registers.specs.Banks.{filled}

module _ {X : Type 0} (from : ℕ) (v : X) (cells : List X) where
  length-filled : (n : ℕ) → length (filled from n v cells) ≡ length cells
  unfolding filled
  length-filled zero = refl
  length-filled (suc n) = length-set _ _ _ ∙ length-filled n

  -- each cell of the range is v, and the others are as they were; past the end there is v
  get_or-filled : (n k : ℕ) → get_or (filled from n v cells) k v ≡ cond (leb from k && ltb k (from + n)) v (get_or cells k v)
  unfolding filled
  get_or-filled zero k = grind (arith, nat_tests)
  get_or-filled (suc n) k =
      let l = length-filled n in
      let i = get_or-filled n k in
      ⊎_elim (λ q. grind (arith, nat_tests, get_or-set_at, get_or_past, length-set)) (λ q. grind (arith, nat_tests, get_or-set_other)) (cases_eq k (from + n))

  -- a bank whose cells are these is the filled one
  pub whole-filled : (n : ℕ) (now : List X) → length now ≡ length cells → ((k : ℕ) → get_or now k v ≡ cond (leb from k && ltb k (from + n)) v (get_or cells k v)) → now ≡ filled from n v cells
  whole-filled n now l e = ext_get_or v now (filled from n v cells) (l ∙ sym (length-filled n)) (λ k h. e k ∙ sym (get_or-filled n k))

  -- a part of the slice, as far as it has the range, has become v
  pub get_or-part : (n start end : ℕ) (part : List X) → end ≡ min (from + n) (length cells) → start ≡ min from end → length part ≡ end - start → ((k : ℕ) → k < length part → get_or part k v ≡ v) → (k : ℕ) → get_or (put_mid start (end - start) cells part) k v ≡ cond (leb from k && ltb k (from + n)) v (get_or cells k v)
  get_or-part n start end part e s l each k = grind (arith, nat_tests, places, each)
