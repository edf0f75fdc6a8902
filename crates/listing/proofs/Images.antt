-- Each full bundle of an image at 0 is listed.
use Rattle.std.proofs.Common.{◌≡◌, ℕ, ◌+◌, ◌*◌, ◌%◌, ◌^◌, ◌≤◌, min, true, eqb, leb, List, [], ◌∷◌, ◌++◌, length, Ok, sym, refl, ap, ◌∙◌, map-id, arith}
use Rattle.std.specs.List.{range_with_len, flat_map}
use Rattle.std.proofs.lemmas.List.FromFn.{map-range_with_len_more}
use Rattle.std.proofs.lemmas.List.{append-nil, drop_all, flat_map_more}
use Rattle.std.proofs.lemmas.Bool.{cond-true, and_from, eq-eqb, le-leb}
use Rattle.memory.specs.declared.access.Right.TheVariants.{Read}
use Rattle.memory.specs.Kinds.{image, read_only}
use Rattle.memory.specs.Meaning.{Meaning, granted}
use Rattle.memory.proofs.Laid.{granted-covered}
use Rattle.memory.proofs.Ranges.{each-inside}
use Rattle.bundle.specs.Fetching.{bundle_at}
use Rattle.listing.specs.Text.{bundle_lines}
use Rattle.listing.specs.Lister.{answered, written, after, first_lines}

module _ (bytes : List ℕ) (k : ℕ) (m : Meaning) (is : m ≡ image 0 bytes) (whole : 16 * k + 16 ≤ length bytes) (few : length bytes ≤ 65536) where
  readable : granted (image 0 bytes) Read (16 * k) 16 ≡ true
  readable =
      let e = each-inside 0 (length bytes) (16 * k) 16 (omega arith) in
      let ends = and_from (leb 0 (16 * k)) _ (le-leb 0 (16 * k) (omega arith)) (le-leb (16 * k + 16) (min (0 + length bytes) (2 ^ 64)) (omega arith)) in
      sym (granted-covered read_only 0 bytes Read (16 * k) 16 true (omega arith) refl (sym (e ∙ ends)))

  module _ (lines : List ℕ) (n : length lines ≡ 99) where
    -- a buffer of 99 bytes has room for the lines of a bundle
    pub image-answers : answered m (16 * k) (length lines) ≡ Ok tt
    image-answers =
        ap (answered m (16 * k)) n ∙ ap (λ w. answered w (16 * k) 99) is ∙ cond-true _ _ _ (and_from (eqb (16 * k % 16) 0) _ (eq-eqb (16 * k % 16) 0 (omega arith)) readable)

    -- and they fill it
    pub image-lines : after m (16 * k) lines ≡ bundle_lines (16 * k) (bundle_at (image 0 bytes) (16 * k))
    image-lines =
        let text = bundle_lines (16 * k) (bundle_at m (16 * k)) in
        ap (λ r. written r text lines) image-answers ∙ ap (λ ys. text ++ ys) (drop_all 99 lines (omega arith)) ∙ append-nil text ∙ ap (λ w. bundle_lines (16 * k) (bundle_at w (16 * k))) is

-- the lines of one bundle more
pub first_more : (bytes : List ℕ) (k : ℕ) (text lines : List ℕ) → text ≡ first_lines bytes k → lines ≡ bundle_lines (16 * k) (bundle_at (image 0 bytes) (16 * k)) → text ++ lines ≡ first_lines bytes (k + 1)
first_more bytes k text lines e l =
    let f : ℕ → List ℕ = λ i. bundle_lines (16 * i) (bundle_at (image 0 bytes) (16 * i)) in
    let ids = map-range_with_len_more (λ i. i) 0 k k (omega arith) in
    let places : range_with_len 0 (k + 1) ≡ range_with_len 0 k ++ k ∷ [] = sym (map-id _) ∙ ids ∙ ap (λ xs. xs ++ k ∷ []) (map-id _) in
    ap (λ xs. xs ++ lines) e ∙ ap (λ xs. first_lines bytes k ++ xs) l ∙ flat_map_more f [] (range_with_len 0 k) k ∙ sym (ap (flat_map f) places)
