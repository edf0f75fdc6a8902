-- The predicates that a word and a mask set, cell by cell.
use Rattle.std.proofs.Common.{◌≡◌, ℕ, zero, suc, ◌<◌, min, Bool, false, cond, ◌&&◌, eqb, ltb, List, ◌++◌, length, get_or, take, drop, sym, refl, ◌∙◌, ⊎_elim, arith, length-set}
use Rattle.std.proofs.lemmas.List.{get_or-set_same, get_or-set_other, ext_get_or, places}
use Rattle.std.proofs.lemmas.Bool.{cases_eq}
use Rattle.std.proofs.lemmas.Bool.Decides.{nat_tests}
use Rattle.integer.specs.Words.{bit}
use Rattle.registers.specs.Predicates.{masked_from}

length-masked : (word mask n : ℕ) (cells : List Bool) → length (masked_from word mask n cells) ≡ length cells
unfolding masked_from
length-masked word mask zero cells = refl
length-masked word mask (suc n) cells = grind (arith, nat_tests, length-masked word mask n cells, length-set)

-- each cell
masked-at : (word mask n : ℕ) (cells : List Bool) (k : ℕ) → k < length cells → get_or (masked_from word mask n cells) k false ≡ cond (ltb 0 k && ltb k (suc n) && eqb (bit k mask) 1) (eqb (bit k word) 1) (get_or cells k false)
unfolding masked_from
masked-at word mask zero cells k h = grind (arith, nat_tests)
masked-at word mask (suc n) cells k h =
    let len = length-masked word mask n cells in
    let e = masked-at word mask n cells k h in
    ⊎_elim (λ q. rw (← q) (grind (arith, nat_tests, get_or-set_same)))
    (λ q. let o = get_or-set_other (masked_from word mask n cells) (suc n) k (eqb (bit (suc n) word) 1) false q in grind (arith, nat_tests))
    (cases_eq k (suc n))

-- cells that are these are the ones set from the word
pub whole-masked : (word mask : ℕ) (cells now : List Bool) → length now ≡ length cells → ((k : ℕ) → k < length cells → get_or now k false ≡ cond (ltb 0 k && ltb k 64 && eqb (bit k mask) 1) (eqb (bit k word) 1) (get_or cells k false)) → now ≡ masked_from word mask 63 cells
whole-masked word mask cells now l e =
    ext_get_or false now (masked_from word mask 63 cells) (l ∙ sym (length-masked word mask 63 cells)) (λ k h. let w : k < length cells = omega arith in e k w ∙ sym (masked-at word mask 63 cells k w))

-- the first 64 cells are set, as many as there are, and the others are as they were
pub part-masked : (word mask end : ℕ) (cells part : List Bool) → end ≡ min (length cells) 64 → length part ≡ length (take end cells) → ((k : ℕ) → k < length part → get_or part k false ≡ cond (ltb 0 k && ltb k 64 && eqb (bit k mask) 1) (eqb (bit k word) 1) (get_or (take end cells) k false)) → (k : ℕ) → k < length cells → get_or (part ++ drop end cells) k false ≡ cond (ltb 0 k && ltb k 64 && eqb (bit k mask) 1) (eqb (bit k word) 1) (get_or cells k false)
part-masked word mask end cells part e l each k h = grind (arith, nat_tests, places, each)
