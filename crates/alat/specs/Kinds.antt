-- The rules of the kinds of ALAT, and that they keep the bounds.
use Rattle.std.specs.Prelude.{◌≡◌, ℕ, ◌%◌, ◌<◌, ◌⊎◌, List, [], ◌∷◌, ◌++◌, take, filter, ◌≢◌, nat_lt}
use Rattle.std.proofs.Common.{sym, ap, inl, inr, ⊎_elim, arith}
use Rattle.std.proofs.lemmas.Bool.{ltb-true}
use Rattle.alat.specs.declared.entry.Entry.{Entry}
use Rattle.alat.specs.Rule.{Request, Rule, Lawful, Enter, Store, Remove, Clear}
use Rattle.alat.specs.Table.{In, OneEach, others, untouched}
use Rattle.alat.specs.Bounds.{in_kept, unique-kept, in_take, unique-take, in-append, unique-append, in-others, in-untouched}

-- keeping nothing

abbrev pub keeps_nothing : Rule
keeps_nothing es request = []

pub keeps_nothing_lawful : Lawful keeps_nothing
keeps_nothing_lawful = record {
  enter = λ es e x i. absurd i;
  «store» = λ es access x i. absurd i;
  remove = λ es cell x i. absurd i;
  clear = λ es x i. i;
  unique = λ es request u. tt;
}

-- 32 places: an entry stands in the place of its cell's number modulo 32, and the list is in the order of the places

abbrev pub place_for : ℕ → ℕ
place_for cell = cell % 32

-- the entries of the places below this one, and above it
abbrev pub before : ℕ → List Entry → List Entry
before place = filter (λ x. nat_lt (place_for x.cell) place)

abbrev pub beyond : ℕ → List Entry → List Entry
beyond place = filter (λ x. nat_lt place (place_for x.cell))

-- a new entry takes its place
abbrev pub direct_mapped : Rule
direct_mapped es (Enter e) = before (place_for e.cell) es ++ e ∷ beyond (place_for e.cell) es
direct_mapped es (Store access) = untouched access es
direct_mapped es (Remove cell) = others cell es
direct_mapped es Clear = []

in-before : (place : ℕ) (es : List Entry) (x : Entry) → In x (before place es) → In x es × (place_for x.cell < place)
in-before place es x i = let k = in_kept _ es x i in (k.0, ltb-true _ _ k.1)

in-beyond : (place : ℕ) (es : List Entry) (x : Entry) → In x (beyond place es) → In x es × (place < place_for x.cell)
in-beyond place es x i = let k = in_kept _ es x i in (k.0, ltb-true _ _ k.1)

-- cells of different places are different
below-differs : (x y : Entry) → place_for x.cell < place_for y.cell → x.cell ≢ y.cell
below-differs x y l q = omega (arith, ap place_for q)

direct-enter : (es : List Entry) (e x : Entry) → In x (direct_mapped es (Enter e)) → (x ≡ e) ⊎ (In x es × (x.cell ≢ e.cell))
direct-enter es e x i =
    let place = place_for e.cell in
    let low : In x (before place es) → (x ≡ e) ⊎ (In x es × (x.cell ≢ e.cell)) = λ j. let k = in-before place es x j in inr (k.0, below-differs x e k.1) in
    let high : In x (beyond place es) → (x ≡ e) ⊎ (In x es × (x.cell ≢ e.cell)) = λ j. let k = in-beyond place es x j in inr (k.0, λ q. below-differs e x k.1 (sym q)) in
    ⊎_elim low (⊎_elim inl high) (in-append (before place es) (e ∷ beyond place es) x i)

direct-unique : (es : List Entry) (request : Request) → OneEach es → OneEach (direct_mapped es request)
direct-unique es (Enter e) u =
    let place = place_for e.cell in
    unique-append (before place es) (e ∷ beyond place es) (unique-kept _ es u)
    (λ x i q. below-differs e x (in-beyond place es x i).1 (sym q), unique-kept _ es u)
    (λ x y i j q. let l = (in-before place es x i).1 in below-differs x y (⊎_elim (λ p. omega (arith, ap (λ z. place_for z.cell) p)) (λ k. omega (arith, (in-beyond place es y k).1)) j) (sym q))
direct-unique es (Store access) u = unique-kept _ es u
direct-unique es (Remove cell) u = unique-kept _ es u
direct-unique es Clear u = tt

pub direct_mapped_lawful : Lawful direct_mapped
direct_mapped_lawful = record {
  enter = direct-enter;
  «store» = λ es access x i. in-untouched access es x i;
  remove = λ es cell x i. in-others cell es x i;
  clear = λ es x i. i;
  unique = direct-unique;
}

-- 16 entries, the youngest first: a new entry goes to the front, and the oldest past 16 is lost

abbrev pub fully_associative : Rule
fully_associative es (Enter e) = take 16 (e ∷ others e.cell es)
fully_associative es (Store access) = untouched access es
fully_associative es (Remove cell) = others cell es
fully_associative es Clear = []

associative-enter : (es : List Entry) (e x : Entry) → In x (fully_associative es (Enter e)) → (x ≡ e) ⊎ (In x es × (x.cell ≢ e.cell))
associative-enter es e x i = ⊎_elim inl (λ j. inr (in-others e.cell es x j)) (in_take 16 (e ∷ others e.cell es) x i)

associative-unique : (es : List Entry) (request : Request) → OneEach es → OneEach (fully_associative es request)
associative-unique es (Enter e) u = unique-take 16 (e ∷ others e.cell es) (λ x i. (in-others e.cell es x i).1, unique-kept _ es u)
associative-unique es (Store access) u = unique-kept _ es u
associative-unique es (Remove cell) u = unique-kept _ es u
associative-unique es Clear u = tt

pub fully_associative_lawful : Lawful fully_associative
fully_associative_lawful = record {
  enter = associative-enter;
  «store» = λ es access x i. in-untouched access es x i;
  remove = λ es cell x i. in-others cell es x i;
  clear = λ es x i. i;
  unique = associative-unique;
}
