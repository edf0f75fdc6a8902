-- What the table of templates has for a number.
use Rattle.std.proofs.Common.{◌≡◌, ℕ, ◌≤◌, List, map, get_or, length, None, Some, Option, sym, ap, ◌∙◌, zero-add, arith}
use denote.Ref.{Bor}
use Rattle.std.specs.List.{range_with_len}
use Rattle.std.specs.Option.{option_copied, option_flatten}
use Rattle.std.specs.Slice.{IsItemAt}
use Rattle.std.proofs.lemmas.Bool.Decides.{nat_tests}
use Rattle.std.proofs.lemmas.List.FromFn.{get_or-map-range_with_len, length-map-range_with_len}
use Rattle.bundle.specs.Templates.{template_of}

-- a table is a function of the place if the list of its entries is that function over the places, which antt computes, and the
-- function has nothing past them
pub entry : {X : Type 0} (f : ℕ → Option X) (n : ℕ) (xs : List (Option X)) → xs ≡ map f (range_with_len 0 n) → ((k : ℕ) → n ≤ k → f k ≡ None) → (k : ℕ) (r : Option (Bor (Option X))) → IsItemAt xs k r → option_flatten (option_copied r) ≡ f k
entry f n xs e past k None is =
    let l : length xs ≡ n = ap length e ∙ length-map-range_with_len f 0 n in
    let h = is.3 in
    sym (past k (omega arith))
entry f n xs e past k (Some x) is =
    let l : length xs ≡ n = ap length e ∙ length-map-range_with_len f 0 n in
    let h = is.3.0 in
    is.1 ∙ ap (λ ys. get_or ys k x.now) e ∙ get_or-map-range_with_len f 0 n k k x.now (omega arith) (zero-add k)

pub none-past : (k : ℕ) → 32 ≤ k → template_of k ≡ None
none-past k h = grind (arith, nat_tests)
