-- Accesses that stay inside a page go to the bytes behind it.
use Rattle.std.proofs.Common.{◌≡◌, ℕ, ◌+◌, ◌-◌, ◌*◌, ◌/◌, ◌%◌, ◌^◌, ◌<◌, ◌≤◌, Bool, true, false, cond, ◌⊎◌, List, length, get_or, Some, None, Ok, Err, Option, sym, refl, ap, ◌∙◌, inl, inr, ⊎_elim, arith}
use mathlib.Core.Path.{fun_ext}
use Rattle.std.specs.Bool.{then_some}
use Rattle.std.specs.Option.{option_map}
use Rattle.std.specs.Result.{result_or}
use Rattle.std.proofs.lemmas.List.{get_or_past}
use Rattle.std.proofs.lemmas.Bool.{cases_Bool, cases_lt, cond-true, cond-false}
use Rattle.std.proofs.lemmas.Bool.Decides.{nat_tests}
use Rattle.memory.specs.declared.access.MissingRight.{MissingRight}
use Rattle.memory.specs.declared.access.Size.{Size}
use Rattle.memory.specs.declared.access.Right.{Right}
use Rattle.memory.specs.declared.access.Right.TheVariants.{Read, Write}
use Rattle.memory.specs.declared.access.Rights.{Rights}
use Rattle.memory.specs.Access.{bytes_of, has}
use Rattle.memory.specs.Kinds.{inside, laid}
use Rattle.memory.specs.Meaning.{Meaning, each, granted, loaded, word_at, put, replaced, store_answer, stored}
use Rattle.memory.proofs.Laid.{granted-covered, granted-not, laid_in, laid_out}
use Rattle.memory.proofs.Ranges.{each_same, each_first, some_bytes, word_same}
use Rattle.memory.proofs.Puts.{replaced-in, replaced-out}
use Rattle.memory.proofs.Stores.{put-out}
use Rattle.memory.proofs.Top.{has-nowhere}
use Rattle.paged.specs.declared.page.Page.{Page}
use Rattle.paged.specs.declared.page.Place.{Place}
use Rattle.paged.specs.Pages.{Separate, index_of, location_at, no_page, offset_with, paged, place_for}
use Rattle.paged.proofs.Places.{found, index-holds, index_same, placed}

or_refusal : {X : Type 0} (t : Bool) (x : X) (y z : MissingRight) → result_or (cond t (Ok x) (Err y)) (Err z) ≡ cond t (Ok x) (Err z)
or_refusal true x y z = refl
or_refusal false x y z = refl

-- the byte at an address that has a place
pub byte-located : (ps : List Page) (bytes : List ℕ) (a : ℕ) (p : Place) → place_for ps a ≡ Some p → p.offset < 2 ^ 64 → get_or bytes p.offset 0 ≡ (paged ps bytes a).byte
byte-located ps bytes a p e top = sym (ap (λ o. (location_at o bytes).byte) e ∙ ⊎_elim covered past (cases_lt p.offset (length bytes)))
  where
    covered : p.offset < length bytes → (laid p.rights 0 bytes p.offset).byte ≡ get_or bytes p.offset 0
    covered h =
        let z : p.offset - 0 ≡ p.offset = omega arith in
        ap (λ l. l.byte) (laid_in p.rights 0 bytes p.offset (grind (arith, nat_tests))) ∙ ap (λ k. get_or bytes k 0) z

    past : length bytes ≤ p.offset → (laid p.rights 0 bytes p.offset).byte ≡ get_or bytes p.offset 0
    past h = ap (λ l. l.byte) (laid_out p.rights 0 bytes p.offset (grind (arith, nat_tests))) ∙ sym (get_or_past bytes p.offset 0 h)

-- where an address has no page, an access has no right
granted-none : (ps : List Page) (bytes : List ℕ) (a : ℕ) (size : Size) → place_for ps a ≡ None → (right : Right) → false ≡ granted (paged ps bytes) right a (bytes_of size)
granted-none ps bytes a size e right =
    each_first (λ x. has (paged ps bytes x).rights right) a (bytes_of size) (some_bytes size)
    (ap (λ o. has (location_at o bytes).rights right) e ∙ has-nowhere right)

module _ (ps : List Page) (kept : Separate ps) (bytes : List ℕ) (a : ℕ) (size : Size) where
  -- an access that does not pass the end of the page
  module _ (p : Place) (e : place_for ps a ≡ Some p) (near : bytes_of size ≤ 4096 - a % 4096) where
    top : a < 2 ^ 64
    top = let b = index-holds ps a (found ps a p e).0 (found ps a p e).1 in grind (arith, nat_tests)

    -- the bytes from there on, to the end of the page, are those behind it
    location-same : (k : ℕ) → k < bytes_of size → paged ps bytes (a + k) ≡ laid p.rights 0 bytes (p.offset + k)
    location-same k h =
        let f = found ps a p e in
        let i = f.0 in
        let b = index-holds ps a i f.1 in
        let q : index_of ps (a + k) ≡ Some i = index_same ps kept.aligned a k top (omega (arith, near)) ∙ f.1 in
        let low : (get_or ps i no_page).base ≤ a = grind (arith, nat_tests) in
        let o : 4096 * i + (a + k - (get_or ps i no_page).base) ≡ 4096 * i + (a - (get_or ps i no_page).base) + k = omega arith in
        ap (λ t. location_at (option_map (placed ps (a + k)) t) bytes) q ∙ ap (laid (get_or ps i no_page).rights 0 bytes) o ∙ ap (λ (t : Place). laid t.rights 0 bytes (t.offset + k)) (sym f.2)

    pub granted-same : (right : Right) → granted (paged ps bytes) right a (bytes_of size) ≡ granted (laid p.rights 0 bytes) right p.offset (bytes_of size)
    granted-same right =
        each_same (λ x. has (paged ps bytes x).rights right) (λ y. has (laid p.rights 0 bytes y).rights right) a p.offset (bytes_of size)
        (λ k h. ap (λ l. has l.rights right) (location-same k h))

    word-behind : word_at (paged ps bytes) a (bytes_of size) ≡ word_at (laid p.rights 0 bytes) p.offset (bytes_of size)
    word-behind =
        word_same (λ x. (paged ps bytes x).byte) (λ y. (laid p.rights 0 bytes y).byte) a p.offset (bytes_of size) (λ k h. ap (λ l. l.byte) (location-same k h))

    -- rights of the access are those of the page, if the bytes are there
    pub page-grants : (right : Right) (r : Bool) → has p.rights right ≡ true → r ≡ each (inside 0 (length bytes)) p.offset (bytes_of size) → r ≡ granted (paged ps bytes) right a (bytes_of size)
    page-grants right r h q = granted-covered p.rights 0 bytes right p.offset (bytes_of size) r (some_bytes size) h q ∙ sym (granted-same right)

    page-denies : (right : Right) → has p.rights right ≡ false → false ≡ granted (paged ps bytes) right a (bytes_of size)
    page-denies right h = granted-not p.rights 0 bytes right p.offset (bytes_of size) (some_bytes size) h ∙ sym (granted-same right)

    -- a load goes to the bytes behind the page
    pub page-loaded : loaded (paged ps bytes) a size ≡ result_or (loaded (laid p.rights 0 bytes) p.offset size) (Err (record { address = a }))
    page-loaded =
        ap (λ t. cond t (Ok (word_at (paged ps bytes) a (bytes_of size))) (Err (record { address = a }))) (granted-same Read)
        ∙ ap (λ w. cond (granted (laid p.rights 0 bytes) Read p.offset (bytes_of size)) (Ok w) (Err (record { address = a }))) word-behind
        ∙ sym (or_refusal (granted (laid p.rights 0 bytes) Read p.offset (bytes_of size)) _ _ _)

    -- what is put behind the page is put at the address
    pub put-page : (new : List ℕ) (v : ℕ) → ((y : ℕ) (rights : Rights) → laid rights 0 new y ≡ put (laid rights 0 bytes) p.offset (bytes_of size) v y) → paged ps new ≡ put (paged ps bytes) a (bytes_of size) v
    put-page new v is = fun_ext (λ x. at x (index_of ps x) refl)
      where
        m : Meaning
        m = paged ps bytes

        i : ℕ
        i = (found ps a p e).0

        there : index_of ps a ≡ Some i
        there = (found ps a p e).1

        offset : p.offset ≡ 4096 * i + (a - (get_or ps i no_page).base)
        offset = ap (λ (t : Place). t.offset) (found ps a p e).2

        named : (x : ℕ) → a ≤ x → x < a + bytes_of size → index_of ps x ≡ Some i
        named x l h =
            let z : a + (x - a) ≡ x = omega arith in
            ap (index_of ps) (sym z) ∙ index_same ps kept.aligned a (x - a) top (omega (arith, near)) ∙ there

        outside : (x : ℕ) → index_of ps x ≡ None → (x < a) ⊎ (a + bytes_of size ≤ x)
        outside x none = ⊎_elim inl (λ l. ⊎_elim (λ h. absurd (never (named x l h) none)) inr (cases_lt x (a + bytes_of size))) (cases_lt x a)
          where
            never : index_of ps x ≡ Some i → index_of ps x ≡ None → ⊥
            never p q = let z : ◌≡◌ {A = ℕ} 0 1 = cc in omega arith

        at : (x : ℕ) (o : Option ℕ) → index_of ps x ≡ o → paged ps new x ≡ put m a (bytes_of size) v x
        at x None q =
            ap (λ t. location_at (option_map (placed ps x) t) new) q ∙ sym (ap (λ t. location_at (option_map (placed ps x) t) bytes) q) ∙ sym (put-out m a (bytes_of size) v x (outside x q))
        at x (Some j) q =
            ap (λ t. location_at (option_map (placed ps x) t) new) q ∙ is off r ∙ ap (λ b. record { byte = b; rights = (laid r 0 bytes off).rights }) same ∙ ap (λ t. record { byte = replaced (λ y. (m y).byte) a (bytes_of size) v x; rights = t }) (sym (ap (λ l. l.rights) mx))
          where
            r : Rights
            r = (get_or ps j no_page).rights

            off : ℕ
            off = 4096 * j + (x - (get_or ps j no_page).base)

            mx : m x ≡ laid r 0 bytes off
            mx = ap (λ t. location_at (option_map (placed ps x) t) bytes) q

            within : a ≤ x → x < a + bytes_of size → replaced (λ y. (laid r 0 bytes y).byte) p.offset (bytes_of size) v off ≡ replaced (λ y. (m y).byte) a (bytes_of size) v x
            within l h =
                let z : i ≡ j = cc (named x l h, q) in
                let b = index-holds ps a i there in
                let low : (get_or ps i no_page).base ≤ a = grind (arith, nat_tests) in
                let base : (get_or ps j no_page).base ≡ (get_or ps i no_page).base = ap (λ k. (get_or ps k no_page).base) (sym z) in
                let d : off ≡ p.offset + (x - a) = omega (arith, offset) in
                let k : off - p.offset ≡ x - a = omega arith in
                replaced-in (λ y. (laid r 0 bytes y).byte) p.offset (bytes_of size) v off (omega arith) (omega arith) ∙ ap (λ t. v / 256 ^ t % 256) k ∙ sym (replaced-in (λ y. (m y).byte) a (bytes_of size) v x l h)

            apart : (x < a) ⊎ (a + bytes_of size ≤ x) → (off < p.offset) ⊎ (p.offset + bytes_of size ≤ off)
            apart o = ⊎_elim inl (λ l. ⊎_elim (λ h. absurd (clash l h)) inr (cases_lt off (p.offset + bytes_of size))) (cases_lt off p.offset)
              where
                clash : p.offset ≤ off → off < p.offset + bytes_of size → ⊥
                clash l h =
                    let bi = index-holds ps a i there in
                    let bj = index-holds ps x j q in
                    let ai = kept.aligned i bi.0 in
                    let i1 : (get_or ps i no_page).base ≤ a = grind (arith, nat_tests) in
                    let i2 : a < (get_or ps i no_page).base + 4096 = grind (arith, nat_tests) in
                    let j1 : (get_or ps j no_page).base ≤ x = grind (arith, nat_tests) in
                    let j2 : x < (get_or ps j no_page).base + 4096 = grind (arith, nat_tests) in
                    let z : i ≡ j = omega (arith, offset, near) in
                    let base : (get_or ps j no_page).base ≡ (get_or ps i no_page).base = ap (λ k. (get_or ps k no_page).base) (sym z) in
                    ⊎_elim (λ u. omega (arith, offset, near)) (λ u. omega (arith, offset, near)) o

            without : (x < a) ⊎ (a + bytes_of size ≤ x) → replaced (λ y. (laid r 0 bytes y).byte) p.offset (bytes_of size) v off ≡ replaced (λ y. (m y).byte) a (bytes_of size) v x
            without o =
                replaced-out (λ y. (laid r 0 bytes y).byte) p.offset (bytes_of size) v off (apart o) ∙ sym (ap (λ l. l.byte) mx) ∙ sym (replaced-out (λ y. (m y).byte) a (bytes_of size) v x o)

            same : replaced (λ y. (laid r 0 bytes y).byte) p.offset (bytes_of size) v off ≡ replaced (λ y. (m y).byte) a (bytes_of size) v x
            same = ⊎_elim (λ l. without (inl l)) (λ l. ⊎_elim (within l) (λ h. without (inr h)) (cases_lt x (a + bytes_of size))) (cases_lt x a)

    -- a store goes to the bytes behind the page, if they cover it
    module _ (can : has p.rights Write ≡ true) where
      covered-granted : granted (paged ps bytes) Write a (bytes_of size) ≡ each (inside 0 (length bytes)) p.offset (bytes_of size)
      covered-granted = sym (page-grants Write _ can refl)

      pub page-store_answer : store_answer (paged ps bytes) a size ≡ result_or {E = MissingRight} (cond (each (inside 0 (length bytes)) p.offset (bytes_of size)) (Ok tt) (Err (record { address = p.offset }))) (Err (record { address = a }))
      page-store_answer =
          ap (λ t. cond t (Ok tt) (Err (record { address = a }))) covered-granted ∙ sym (or_refusal (each (inside 0 (length bytes)) p.offset (bytes_of size)) _ _ _)

      pub page-stored : (new : List ℕ) (v : ℕ) → ((rights : Rights) → laid rights 0 new ≡ cond (each (inside 0 (length bytes)) p.offset (bytes_of size)) (put (laid rights 0 bytes) p.offset (bytes_of size) v) (laid rights 0 bytes)) → paged ps new ≡ stored (paged ps bytes) a size v
      page-stored new v is =
          ⊎_elim (λ t. put-page new v (λ y rights. ap (λ f. f y) (is rights ∙ cond-true _ _ _ t)) ∙ sym (cond-true _ _ _ (covered-granted ∙ t)))
          (λ t. fun_ext (λ x. stays t x (place_for ps x) refl) ∙ sym (cond-false _ _ _ (covered-granted ∙ t))) (cases_Bool (each (inside 0 (length bytes)) p.offset (bytes_of size)))
        where
          stays : each (inside 0 (length bytes)) p.offset (bytes_of size) ≡ false → (x : ℕ) (o : Option Place) → place_for ps x ≡ o → paged ps new x ≡ paged ps bytes x
          stays t x None q = ap (λ u. location_at u new) q ∙ sym (ap (λ u. location_at u bytes) q)
          stays t x (Some other) q =
              ap (λ u. location_at u new) q ∙ ap (λ f. f other.offset) (is other.rights ∙ cond-false _ _ _ t) ∙ sym (ap (λ u. location_at u bytes) q)

-- the rights of a place that was found with a right
pub located : (ps : List Page) (right : Right) (a x : ℕ) → Some x ≡ offset_with right (place_for ps a) → (rights : Rights) × (place_for ps a ≡ Some (record { offset = x; rights = rights })) × (has rights right ≡ true)
located ps right a x e = go (place_for ps a) refl e
  where
    go : (o : Option Place) → place_for ps a ≡ o → Some x ≡ offset_with right o → (rights : Rights) × (place_for ps a ≡ Some (record { offset = x; rights = rights })) × (has rights right ≡ true)
    go None q e' = absurd (let z : ◌≡◌ {A = ℕ} 0 1 = cc in omega arith)
    go (Some p) q e' = at (has p.rights right) refl e'
      where
        at : (t : Bool) → has p.rights right ≡ t → Some x ≡ then_some t p.offset → (rights : Rights) × (place_for ps a ≡ Some (record { offset = x; rights = rights })) × (has rights right ≡ true)
        at true h e'' = let z : p.offset ≡ x = cc in (p.rights, q ∙ ap (λ y. Some (record { offset = y; rights = p.rights })) z, h)
        at false h e'' = absurd (let z : ◌≡◌ {A = ℕ} 0 1 = cc in omega arith)

-- where none was found, an access in the page has no right
pub unlocated : (ps : List Page) → Separate ps → (bytes : List ℕ) (a : ℕ) (size : Size) (right : Right) → bytes_of size ≤ 4096 - a % 4096 → None ≡ offset_with right (place_for ps a) → false ≡ granted (paged ps bytes) right a (bytes_of size)
unlocated ps kept bytes a size right near e = go (place_for ps a) refl e
  where
    go : (o : Option Place) → place_for ps a ≡ o → None ≡ offset_with right o → false ≡ granted (paged ps bytes) right a (bytes_of size)
    go None q e' = granted-none ps bytes a size q right
    go (Some p) q e' = at (has p.rights right) refl e'
      where
        at : (t : Bool) → has p.rights right ≡ t → None ≡ then_some t p.offset → false ≡ granted (paged ps bytes) right a (bytes_of size)
        at true h e'' = absurd (let z : ◌≡◌ {A = ℕ} 0 1 = cc in omega arith)
        at false h e'' = page-denies ps kept bytes a size p q near right h
