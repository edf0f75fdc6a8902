-- The lines of a bundle's slots, one after another.
use Rattle.std.proofs.Common.{◌≡◌, ℕ, zero, suc, ◌+◌, ◌*◌, ◌<◌, ◌≤◌, List, [], ◌∷◌, ◌++◌, length, take, drop, get_or, Some, None, Option, sym, refl, ap, ◌∙◌, add-one, arith}
use borrow.Rule.Slice.PartMut.{put_mid}
use Rattle.std.specs.Option.{ok_or}
use Rattle.std.specs.Result.{result_ok}
use Rattle.std.proofs.lemmas.List.{take_at, take-append-drop, length-append}
use Rattle.std.proofs.lemmas.Slice.{drop-put_mid, drop-append-drop}
use Rattle.bundle.specs.declared.split.Bundle.{Bundle}
use Rattle.bundle.specs.Fields.{slot}
use Rattle.listing.specs.Text.{bundle_lines, slot_line}
use Rattle.listing.proofs.Pieces.{length-line, front-more}

-- the lines of the first slots
abbrev pub first_slots : ℕ → Bundle → ℕ → List ℕ
first_slots address bundle zero = []
first_slots address bundle (suc k) = first_slots address bundle k ++ slot_line address bundle k

length-slots : (address : ℕ) (bundle : Bundle) (k : ℕ) → length (first_slots address bundle k) ≡ 33 * k
length-slots address bundle zero = refl
length-slots address bundle (suc k) =
    let front = length-slots address bundle k in
    let more : length (slot_line address bundle k) ≡ 33 = length-line address k _ _ in
    length-append (first_slots address bundle k) _ ∙ omega arith

-- the line of one slot more
pub one-more : (address : ℕ) (bundle : Bundle) (k n : ℕ) (buffer out line : List ℕ) → 33 * k + 33 ≤ length out → n ≡ 33 → out ≡ first_slots address bundle k ++ drop (33 * k) buffer → line ≡ slot_line address bundle k → put_mid (33 * k) n out line ≡ first_slots address bundle (k + 1) ++ drop (33 * (k + 1)) buffer
one-more address bundle k n buffer out line room e is l =
    let front = first_slots address bundle k in
    let nf = length-slots address bundle k in
    let nl : length line ≡ 33 = ap length l ∙ length-line address k _ _ in
    let more : 33 * (k + 1) ≡ 33 * k + 33 = omega arith in
    let t = put_mid (33 * k) 33 out line in
    let f : take (33 * k + 33) t ≡ front ++ line = front-more (33 * k) 33 out line front _ (ap (take (33 * k)) is ∙ take_at front _ (33 * k) nf) nl refl room in
    let d : drop (33 * k + 33) t ≡ drop (33 * k + 33) out = drop-put_mid (33 * k) 33 out line _ (omega arith) (omega arith) nl in
    let b : drop (33 * k + 33) out ≡ drop (33 * k + 33) buffer = ap (drop (33 * k + 33)) is ∙ drop-append-drop (33 * k) buffer front _ (omega arith) nf in
    let same : t ≡ (front ++ line) ++ drop (33 * k + 33) buffer = sym (take-append-drop (33 * k + 33) t) ∙ cc (f, d, b) in
    rw (e, more, add-one, ← l) same

-- three slots are all
pub all-slots : (address : ℕ) (bundle : Bundle) (k : ℕ) (buffer out : List ℕ) → k ≡ 3 → out ≡ first_slots address bundle k ++ drop (33 * k) buffer → out ≡ bundle_lines address bundle ++ drop 99 buffer
all-slots address bundle k buffer out e is = rw e at is

pub slot-at : (n k a b c : ℕ) → k < 3 → a ≡ slot n 0 → b ≡ slot n 1 → c ≡ slot n 2 → get_or (a ∷ b ∷ c ∷ []) k 0 ≡ slot n k
slot-at n zero a b c h p q r = p
slot-at n (suc zero) a b c h p q r = q
slot-at n (suc (suc zero)) a b c h p q r = r
slot-at n (suc (suc (suc k))) a b c h p q r = absurd (omega arith)

pub ok-ok_or : {T E : Type 0} (o : Option T) (e : E) → result_ok (ok_or o e) ≡ o
ok-ok_or None e = refl
ok-ok_or (Some x) e = refl
