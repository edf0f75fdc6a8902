-- What the parts of a list of entries keep, from which each kind has its bounds.
use Rattle.std.specs.Prelude.{◌≡◌, ℕ, zero, suc, ◌+◌, ◌<◌, ◌≤◌, Bool, true, false, not, ◌⊎◌, List, [], ◌∷◌, ◌++◌, take, filter, ◌==◌, ◌≢◌, refl}
use Rattle.std.proofs.Common.{sym, ap, subst, ◌∙◌, inl, inr, ⊎_elim, arith}
use Rattle.std.proofs.lemmas.Bool.{cases_Bool, cases_lt, cond-true, cond-false, cond_both, both_ways, eqb-false, ne_eqb, ltb-true, lt-ltb, and_parts, and_from, not-true, not_from_false}
use Rattle.memory.specs.Access.{bytes_of}
use Rattle.memory.proofs.Ranges.{some_bytes}
use Rattle.memory.specs.declared.access.Access.{Access}
use Rattle.alat.specs.declared.entry.Entry.{Entry}
use Rattle.alat.specs.Table.{In, OneEach, Repeated, SharesByte, shares_a_byte, others, untouched}

-- what a test keeps

pub in_kept : (p : Entry → Bool) (es : List Entry) (x : Entry) → In x (filter p es) → In x es × (p x ≡ true)
in_kept p [] x i = absurd i
in_kept p (e ∷ es) x i =
    let rest : In x (filter p es) → In x (e ∷ es) × (p x ≡ true) = λ j. (inr (in_kept p es x j).0, (in_kept p es x j).1) in
    cond_both (p e) (e ∷ filter p es) (filter p es) (λ l. In x l → In x (e ∷ es) × (p x ≡ true)) (λ h. ⊎_elim (λ q. (inl q, ap p q ∙ h)) rest) (λ h. rest) i

pub kept_in : (p : Entry → Bool) (es : List Entry) (x : Entry) → In x es → p x ≡ true → In x (filter p es)
kept_in p [] x i h = i
kept_in p (e ∷ es) x (inl q) h =
    cond_both (p e) (e ∷ filter p es) (filter p es) (In x) (λ _. inl q) (λ f. absurd (both_ways (p e) f (sym (ap p q) ∙ h)))
kept_in p (e ∷ es) x (inr i) h =
    cond_both (p e) (e ∷ filter p es) (filter p es) (In x) (λ _. inr (kept_in p es x i h)) (λ _. kept_in p es x i h)

pub unique-kept : (p : Entry → Bool) (es : List Entry) → OneEach es → OneEach (filter p es)
unique-kept p [] u = tt
unique-kept p (e ∷ es) u =
    cond_both (p e) (e ∷ filter p es) (filter p es) OneEach
    (λ _. (λ x i. u.0 x (in_kept p es x i).0, unique-kept p es u.1))
    (λ _. unique-kept p es u.1)

pub kept-all : (p : Entry → Bool) (es : List Entry) → ((x : Entry) → In x es → p x ≡ true) → filter p es ≡ es
kept-all p [] h = refl
kept-all p (e ∷ es) h = cond-true (p e) _ _ (h e (inl refl)) ∙ ap (λ l. e ∷ l) (kept-all p es (λ x i. h x (inr i)))

pub kept-none : (p : Entry → Bool) (es : List Entry) → ((x : Entry) → In x es → p x ≡ false) → filter p es ≡ []
kept-none p [] h = refl
kept-none p (e ∷ es) h = cond-false (p e) _ _ (h e (inl refl)) ∙ kept-none p es (λ x i. h x (inr i))

-- no two entries of one cell, said in two ways

pub unique_since : (es : List Entry) → (Repeated es → ⊥) → OneEach es
unique_since [] h = tt
unique_since (e ∷ es) h = (
  λ x i q. h (record { front = []; first = e; back = es; second = x; split = refl; behind = i; same = q }),
  unique_since es (λ r. h (record { front = e ∷ r.front; first = r.first; back = r.back; second = r.second; split = ap (λ l. e ∷ l) r.split; behind = r.behind; same = r.same })),
)

pub apart_in : (es front : List Entry) (e : Entry) (back : List Entry) (x : Entry) → OneEach es → es ≡ front ++ e ∷ back → In x back → x.cell ≢ e.cell
apart_in [] [] e back x u q i = absurd (let z : ◌≡◌ {A = ℕ} 0 1 = cc in omega arith)
apart_in [] (f ∷ front) e back x u q i = absurd (let z : ◌≡◌ {A = ℕ} 0 1 = cc in omega arith)
apart_in (y ∷ ys) [] e back x u q i =
    let same : y ≡ e = cc in
    let rest : back ≡ ys = cc in
    λ p. u.0 x (subst (In x) rest i) (p ∙ ap (λ z. z.cell) (sym same))
apart_in (y ∷ ys) (f ∷ front) e back x u q i =
    let rest : ys ≡ front ++ e ∷ back = cc in
    apart_in ys front e back x u.1 rest i

pub not-repeated : (es : List Entry) → OneEach es → Repeated es → ⊥
not-repeated es u r = apart_in es r.front r.first r.back r.second u r.split r.behind r.same

-- the front of a list

pub in_take : (n : ℕ) (es : List Entry) (x : Entry) → In x (take n es) → In x es
in_take zero es x i = absurd i
in_take (suc n) [] x i = absurd i
in_take (suc n) (e ∷ es) x (inl q) = inl q
in_take (suc n) (e ∷ es) x (inr i) = inr (in_take n es x i)

pub unique-take : (n : ℕ) (es : List Entry) → OneEach es → OneEach (take n es)
unique-take zero es u = tt
unique-take (suc n) [] u = tt
unique-take (suc n) (e ∷ es) u = (λ x i. u.0 x (in_take n es x i), unique-take n es u.1)

-- two lists joined

pub in-append : (es fs : List Entry) (x : Entry) → In x (es ++ fs) → In x es ⊎ In x fs
in-append [] fs x i = inr i
in-append (e ∷ es) fs x (inl q) = inl (inl q)
in-append (e ∷ es) fs x (inr i) = ⊎_elim (λ j. inl (inr j)) inr (in-append es fs x i)

pub in_left : (es fs : List Entry) (x : Entry) → In x es → In x (es ++ fs)
in_left [] fs x i = absurd i
in_left (e ∷ es) fs x (inl q) = inl q
in_left (e ∷ es) fs x (inr i) = inr (in_left es fs x i)

pub in_right : (es fs : List Entry) (x : Entry) → In x fs → In x (es ++ fs)
in_right [] fs x i = i
in_right (e ∷ es) fs x i = inr (in_right es fs x i)

pub unique-append : (es fs : List Entry) → OneEach es → OneEach fs → ((x y : Entry) → In x es → In y fs → y.cell ≢ x.cell) → OneEach (es ++ fs)
unique-append [] fs u v apart = v
unique-append (e ∷ es) fs u v apart = (λ x i. ⊎_elim (u.0 x) (λ j. apart e x (inl refl) j) (in-append es fs x i), unique-append es fs u.1 v (λ x y i j. apart x y (inr i) j))

-- entries of other cells

pub other-cell : (cell : ℕ) (x : Entry) → not (x.cell == cell) ≡ true → x.cell ≢ cell
other-cell cell x h = eqb-false x.cell cell (not-true _ h)

pub is-other : (cell : ℕ) (x : Entry) → (x.cell ≢ cell) → not (x.cell == cell) ≡ true
is-other cell x h = not_from_false _ (ne_eqb x.cell cell h)

pub in-others : (cell : ℕ) (es : List Entry) (x : Entry) → In x (others cell es) → In x es × (x.cell ≢ cell)
in-others cell es x i = let k = in_kept _ es x i in (k.0, other-cell cell x k.1)

-- entries that share no byte

-- where each begins before the other ends, they share the byte at which the later one begins
pub common : (e : Entry) (access : Access) → access.address < e.access.address + bytes_of e.access.size → e.access.address < access.address + bytes_of access.size → SharesByte e access
common e access p q =
    let a = some_bytes e.access.size in
    let b = some_bytes access.size in
    ⊎_elim (λ l. (e.access.address, (omega arith, omega arith), (omega arith, omega arith)))
    (λ l. (access.address, (omega arith, omega arith), (omega arith, omega arith))) (cases_lt access.address e.access.address)

-- an entry that shares no byte ends before the access begins, or begins after it ends
pub apart : (e : Entry) (access : Access) → (SharesByte e access → ⊥) → (e.access.address + bytes_of e.access.size ≤ access.address) ⊎ (access.address + bytes_of access.size ≤ e.access.address)
apart e access h =
    ⊎_elim (λ p. ⊎_elim (λ q. absurd (h (common e access p q))) inr (cases_lt e.access.address (access.address + bytes_of access.size))) inl
    (cases_lt access.address (e.access.address + bytes_of e.access.size))

pub shares-true : (e : Entry) (access : Access) → SharesByte e access → shares_a_byte e access ≡ true
shares-true e access s =
    let p : access.address < e.access.address + bytes_of e.access.size = omega (arith, s.1, s.2) in
    let q : e.access.address < access.address + bytes_of access.size = omega (arith, s.1, s.2) in
    and_from _ _ (lt-ltb _ _ p) (lt-ltb _ _ q)

pub not-shared : (e : Entry) (access : Access) → not (shares_a_byte e access) ≡ true → SharesByte e access → ⊥
not-shared e access h s = both_ways (shares_a_byte e access) (not-true _ h) (shares-true e access s)

pub is-untouched : (e : Entry) (access : Access) → (SharesByte e access → ⊥) → not (shares_a_byte e access) ≡ true
is-untouched e access h =
    not_from_false _ (⊎_elim (λ t. let p = and_parts _ _ t in absurd (h (common e access (ltb-true _ _ p.0) (ltb-true _ _ p.1)))) (λ f. f)
    (cases_Bool (shares_a_byte e access)))

pub in-untouched : (access : Access) (es : List Entry) (x : Entry) → In x (untouched access es) → In x es × (SharesByte x access → ⊥)
in-untouched access es x i = let k = in_kept _ es x i in (k.0, not-shared x access k.1)
