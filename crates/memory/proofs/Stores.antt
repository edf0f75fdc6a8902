-- What a store answers and leaves, for any memory and for bytes that lie from a base up.
use Rattle.std.proofs.Common.{◌≡◌, ℕ, ◌+◌, ◌-◌, ◌/◌, ◌%◌, ◌^◌, ◌<◌, ◌≤◌, Bool, true, false, cond, ◌⊎◌, List, length, get_or, Ok, Err, Result, sym, refl, ap, ◌∙◌, inl, inr, ⊎_elim, div-one, arith}
use mathlib.Core.Path.{fun_ext}
use Rattle.std.proofs.lemmas.Bool.{cases_Bool, cases_eq, cases_lt, cond-true, cond-false}
use Rattle.std.proofs.lemmas.Bool.Decides.{nat_tests}
use Rattle.memory.specs.declared.access.MissingRight.{MissingRight}
use Rattle.memory.specs.declared.access.Right.TheVariants.{Write}
use Rattle.memory.specs.declared.access.Rights.{Rights}
use Rattle.memory.specs.declared.access.Size.{Size}
use Rattle.memory.specs.Access.{bytes_of, has}
use Rattle.memory.specs.Meaning.{Meaning, each, granted, put, replaced, store_answer, stored}
use Rattle.memory.specs.Kinds.{inside, laid}
use Rattle.memory.proofs.Laid.{laid_in, laid_out, granted-covered}
use Rattle.memory.proofs.Ranges.{some_bytes}
use Rattle.memory.proofs.Puts.{replaced-in, replaced-out}

module _ (m : Meaning) (a : ℕ) (size : Size) (v : ℕ) where
  pub store-refused : false ≡ granted m Write a (bytes_of size) → (Err (record { address = a }) ≡ store_answer m a size) × (m ≡ stored m a size v)
  store-refused e = (sym (cond-false _ _ _ (sym e)), sym (cond-false _ _ _ (sym e)))

  pub store-done : (after : Meaning) → true ≡ granted m Write a (bytes_of size) → after ≡ put m a (bytes_of size) v → (Ok tt ≡ store_answer m a size) × (after ≡ stored m a size v)
  store-done after e p = (sym (cond-true _ _ _ (sym e)), p ∙ sym (cond-true _ _ _ (sym e)))

-- a byte that is not named stays
pub put-out : (m : Meaning) (a n v x : ℕ) → (x < a) ⊎ (a + n ≤ x) → put m a n v x ≡ m x
put-out m a n v x h = ap (λ b. record { byte = b; rights = (m x).rights }) (replaced-out (λ y. (m y).byte) a n v x h)

-- what is put at an offset from the base
replaced-moved : (f g : ℕ → ℕ) (base a n v x : ℕ) → base ≤ a → base ≤ x → f x ≡ g (x - base) → replaced g (a - base) n v (x - base) ≡ replaced f a n v x
replaced-moved f g base a n v x low h same = ⊎_elim (λ l. out (inl l)) (λ l. ⊎_elim (within l) (λ u. out (inr u)) (cases_lt x (a + n))) (cases_lt x a)
  where
    within : a ≤ x → x < a + n → replaced g (a - base) n v (x - base) ≡ replaced f a n v x
    within l u =
        let e : x - base - (a - base) ≡ x - a = omega arith in
        replaced-in g (a - base) n v (x - base) (omega arith) (omega arith) ∙ ap (λ k. v / 256 ^ k % 256) e ∙ sym (replaced-in f a n v x l u)

    out : (x < a) ⊎ (a + n ≤ x) → replaced g (a - base) n v (x - base) ≡ replaced f a n v x
    out o =
        let side : (x - base < a - base) ⊎ (a - base + n ≤ x - base) = ⊎_elim (λ p. inl (omega arith)) (λ p. inr (omega arith)) o in
        replaced-out g (a - base) n v (x - base) side ∙ sym same ∙ sym (replaced-out f a n v x o)

-- bytes in which a word is put at its place mean what the store leaves
pub laid-put : (rights : Rights) (base : ℕ) (old new : List ℕ) (a n v : ℕ) → length new ≡ length old → base ≤ a → a + n ≤ base + length old → a + n ≤ 2 ^ 64 → ((k : ℕ) → get_or new k 0 ≡ replaced (λ i. get_or old i 0) (a - base) n v k) → laid rights base new ≡ put (laid rights base old) a n v
laid-put rights base old new a n v len low high top is = fun_ext (λ x. ⊎_elim (within x) (without x) (cases_Bool (inside base (length old) x)))
  where
    m : Meaning
    m = laid rights base old

    within : (x : ℕ) → inside base (length old) x ≡ true → laid rights base new x ≡ put m a n v x
    within x e =
        let l = laid_in rights base old x e in
        let i : inside base (length new) x ≡ true = ap (λ k. inside base k x) len ∙ e in
        let h : base ≤ x = grind (arith, nat_tests) in
        let b = is (x - base) ∙ replaced-moved (λ y. (m y).byte) (λ k. get_or old k 0) base a n v x low h (ap (λ p. p.byte) l) in
        laid_in rights base new x i ∙ ap (λ k. record { byte = k; rights = rights }) b ∙ ap (λ r. record { byte = replaced (λ y. (m y).byte) a n v x; rights = r }) (sym (ap (λ p. p.rights) l))

    without : (x : ℕ) → inside base (length old) x ≡ false → laid rights base new x ≡ put m a n v x
    without x e =
        let i : inside base (length new) x ≡ false = ap (λ k. inside base k x) len ∙ e in
        let o : (x < a) ⊎ (a + n ≤ x) = grind (arith, nat_tests) in
        laid_out rights base new x i ∙ sym (laid_out rights base old x e) ∙ sym (put-out m a n v x o)

-- bytes that can be written take a store if they cover it
module _ (base : ℕ) (bytes : List ℕ) (a : ℕ) (size : Size) (v : ℕ) (rights : Rights) (can : has rights Write ≡ true) where
  covered-granted : each (inside base (length bytes)) a (bytes_of size) ≡ granted (laid rights base bytes) Write a (bytes_of size)
  covered-granted = granted-covered rights base bytes Write a (bytes_of size) _ (some_bytes size) can refl

  pub laid-answer : (r : Result (Unit {0}) MissingRight) → r ≡ cond (each (inside base (length bytes)) a (bytes_of size)) (Ok tt) (Err (record { address = a })) → r ≡ store_answer (laid rights base bytes) a size
  laid-answer r e = e ∙ ap (λ b. cond b (Ok tt) (Err (record { address = a }))) covered-granted

  pub laid-stored : (after : Meaning) → after ≡ cond (each (inside base (length bytes)) a (bytes_of size)) (put (laid rights base bytes) a (bytes_of size) v) (laid rights base bytes) → after ≡ stored (laid rights base bytes) a size v
  laid-stored after e = e ∙ ap (λ b. cond b (put (laid rights base bytes) a (bytes_of size) v) (laid rights base bytes)) covered-granted

abbrev pub answer_by : Bool → MissingRight → Result (Unit {0}) MissingRight
answer_by t x = cond t (Ok tt) (Err x)

-- which answer of a store says what of the test
pub took : (t : Bool) (x : MissingRight) → Ok tt ≡ answer_by t x → t ≡ true
took true x e = refl
took false x e = absurd (let z : ◌≡◌ {A = ℕ} 0 1 = cc in omega arith)

pub refused : (t : Bool) (x y : MissingRight) → Err y ≡ answer_by t x → t ≡ false
refused true x y e = absurd (let z : ◌≡◌ {A = ℕ} 0 1 = cc in omega arith)
refused false x y e = refl

-- the low bytes one by one, the least significant first
pub put-none : (m : Meaning) (a v : ℕ) → m ≡ put m a 0 v
put-none m a v = fun_ext (λ x. sym (put-out m a 0 v x (⊎_elim inl (λ h. inr (omega arith)) (cases_lt x a))))

put-more : (m : Meaning) (a n v b : ℕ) → b ≡ v / 256 ^ n % 256 → put (put m a n v) (a + n) 1 b ≡ put m a (n + 1) v
put-more m a n v b e = fun_ext (λ x. ap (λ t. record { byte = t; rights = (m x).rights }) (at x))
  where
    old : ℕ → ℕ
    old x = (m x).byte

    mid : ℕ → ℕ
    mid x = (put m a n v x).byte

    at : (x : ℕ) → replaced mid (a + n) 1 b x ≡ replaced old a (n + 1) v x
    at x = ⊎_elim before (λ h. ⊎_elim (here h) (after h) (cases_eq x (a + n))) (cases_lt x (a + n))
      where
        before : x < a + n → replaced mid (a + n) 1 b x ≡ replaced old a (n + 1) v x
        before h =
            replaced-out mid (a + n) 1 b x (inl h) ∙ ⊎_elim (λ l. replaced-out old a n v x (inl l) ∙ sym (replaced-out old a (n + 1) v x (inl l))) (λ l. replaced-in old a n v x l h ∙ sym (replaced-in old a (n + 1) v x l (omega arith))) (cases_lt x a)

        here : a + n ≤ x → x ≡ a + n → replaced mid (a + n) 1 b x ≡ replaced old a (n + 1) v x
        here l q =
            let z : x - (a + n) ≡ 0 = omega arith in
            let k : x - a ≡ n = omega arith in
            let small : b % 256 ≡ b = omega arith in
            replaced-in mid (a + n) 1 b x l (omega arith) ∙ ap (λ t. b / 256 ^ t % 256) z ∙ ap (λ t. t % 256) (div-one b) ∙ small ∙ e ∙ ap (λ t. v / 256 ^ t % 256) (sym k) ∙ sym (replaced-in old a (n + 1) v x (omega arith) (omega arith))

        after : a + n ≤ x → (x ≡ a + n → ⊥) → replaced mid (a + n) 1 b x ≡ replaced old a (n + 1) v x
        after l ne =
            replaced-out mid (a + n) 1 b x (inr (omega arith)) ∙ replaced-out old a n v x (inr l) ∙ sym (replaced-out old a (n + 1) v x (inr (omega arith)))

pub put_next : (m mid next : Meaning) (a n v b : ℕ) → mid ≡ put m a n v → b ≡ v / 256 ^ n % 256 → next ≡ put mid (a + n) 1 b → next ≡ put m a (n + 1) v
put_next m mid next a n v b was e is = is ∙ ap (λ f. put f (a + n) 1 b) was ∙ put-more m a n v b e
