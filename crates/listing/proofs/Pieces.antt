-- Text that is written piece by piece into a buffer.
use Rattle.std.proofs.Common.{◌≡◌, ℕ, ◌+◌, ◌≤◌, List, [], ◌∷◌, ◌++◌, length, take, set, sym, refl, ap, ◌∙◌, arith}
use borrow.Rule.Slice.PartMut.{put_mid, post_of}
use Rattle.std.proofs.lemmas.List.FromFn.{length-map-range_with_len}
use Rattle.std.proofs.lemmas.List.{take_all, take_at, take_more_set, length-set, length-append, length-take, length-drop}
use Rattle.std.proofs.lemmas.Slice.{take-put_mid}
use Rattle.listing.specs.Text.{hex_text, line}

pub length-hex : (n x : ℕ) → length (hex_text n x) ≡ n
unfolding hex_text
length-hex n x = length-map-range_with_len _ 0 n

pub length-line : (address k letter x : ℕ) → length (line address k letter x) ≡ 33
unfolding line
length-line address k letter x = simp (length-append, length-hex)

-- a list is as long as before after the piece ys is written at a
length-put : (a k : ℕ) (xs ys : List ℕ) → length ys ≡ k → a + k ≤ length xs → length (put_mid a k xs ys) ≡ length xs
length-put a k xs ys e h = simp (length-append, length-take, length-drop) (omega arith)

-- the front of the list after one piece more
pub front-more : (a k : ℕ) (xs ys front : List ℕ) (n : ℕ) → take a xs ≡ front → length ys ≡ k → a + k ≡ n → n ≤ length xs → take n (put_mid a k xs ys) ≡ front ++ ys
front-more a k xs ys front n e l m h = take-put_mid a k xs ys n (omega arith) (omega arith) ∙ ap (λ f. f ++ ys) e

-- the pieces of a line fill 33 places
pub four-pieces : (out a b c : List ℕ) (x : ℕ) → length out ≡ 33 → length a ≡ 16 → length b ≡ 5 → length c ≡ 11 → set (put_mid 21 11 (put_mid 16 5 (a ++ post_of 0 16 out) b) c) 32 x ≡ a ++ b ++ c ++ x ∷ []
four-pieces out a b c x n na nb nc =
    let t1 = a ++ post_of 0 16 out in
    let t2 = put_mid 16 5 t1 b in
    let t3 = put_mid 21 11 t2 c in
    let n1 : length t1 ≡ 33 = simp (length-append, length-drop) (omega arith) in
    let n2 : length t2 ≡ 33 = length-put 16 5 t1 b nb (omega arith) ∙ n1 in
    let n3 : length t3 ≡ 33 = length-put 21 11 t2 c nc (omega arith) ∙ n2 in
    let f2 = front-more 16 5 t1 b a 21 (take_at a _ 16 na) nb refl (omega arith) in
    let f3 = front-more 21 11 t2 c (a ++ b) 32 f2 nc refl (omega arith) in
    let n4 : length (set t3 32 x) ≡ 33 = simp length-set n3 in
    sym (take_all 33 (set t3 32 x) (omega arith)) ∙ take_more_set t3 32 x (omega arith) ∙ ap (λ f. f ++ x ∷ []) f3
