-- How the 32 places hold the entries of a table.
use Rattle.std.specs.Prelude.{◌≡◌, ℕ, suc, ◌+◌, ◌≤◌, List, [], ◌∷◌, Some, None, Option, filter_map, slice_index_or, refl}
use Rattle.std.proofs.Common.{sym, ap, ◌∙◌, inl, inr, arith}
use Rattle.alat.specs.declared.entry.Entry.{Entry}
use Rattle.alat.specs.Table.{In, OneEach}
use Rattle.alat.specs.Kinds.{place_for}

-- the entries of the places, in their order
abbrev pub listed : List (Option Entry) → List Entry
listed places = filter_map (λ place. place) places

-- each entry stands in the place of its cell
abbrev pub InPlace : List (Option Entry) → Type 0
InPlace places = (k : ℕ) (e : Entry) → slice_index_or places k None ≡ Some e → place_for e.cell ≡ k

-- an entry that is listed stands in some place
pub listed_at : (places : List (Option Entry)) (x : Entry) → In x (listed places) → (k : ℕ) × (slice_index_or places k None ≡ Some x)
listed_at [] x i = absurd i
listed_at (None ∷ ps) x i = let at = listed_at ps x i in (suc at.0, at.1)
listed_at (Some e ∷ ps) x (inl q) = (0, ap Some (sym q))
listed_at (Some e ∷ ps) x (inr i) = let at = listed_at ps x i in (suc at.0, at.1)

-- where entries of one cell stand in one place, no two are of one cell
unique_by_place : (places : List (Option Entry)) → ((j k : ℕ) (x y : Entry) → slice_index_or places j None ≡ Some x → slice_index_or places k None ≡ Some y → x.cell ≡ y.cell → j ≡ k) → OneEach (listed places)
unique_by_place [] h = tt
unique_by_place (None ∷ ps) h = unique_by_place ps (λ j k x y p q s. omega (arith, h (suc j) (suc k) x y p q s))
unique_by_place (Some e ∷ ps) h = (
  λ x i q. let at = listed_at ps x i in omega (arith, h (suc at.0) 0 x e at.1 refl q),
  unique_by_place ps (λ j k x y p q s. omega (arith, h (suc j) (suc k) x y p q s)),
)

-- entries that stand in the places of their cells are of different cells
pub listed_unique : (places : List (Option Entry)) → InPlace places → OneEach (listed places)
listed_unique places h = unique_by_place places (λ j k x y p q s. sym (h j x p) ∙ ap place_for s ∙ h k y q)

-- the same of places from the number `from` on
abbrev pub InPlaceFrom : ℕ → List (Option Entry) → Type 0
InPlaceFrom from places = (k : ℕ) (e : Entry) → slice_index_or places k None ≡ Some e → place_for e.cell ≡ from + k

pub in-place-rest : (from : ℕ) (p : Option Entry) (ps : List (Option Entry)) → InPlaceFrom from (p ∷ ps) → InPlaceFrom (suc from) ps
in-place-rest from p ps h k e q = omega (arith, h (suc k) e q)

pub in-place-first : (from : ℕ) (e : Entry) (ps : List (Option Entry)) → InPlaceFrom from (Some e ∷ ps) → place_for e.cell ≡ from
in-place-first from e ps h = omega (arith, h 0 e refl)

pub listed-from : (from : ℕ) (ps : List (Option Entry)) (x : Entry) → InPlaceFrom from ps → In x (listed ps) → from ≤ place_for x.cell
listed-from from [] x h i = absurd i
listed-from from (None ∷ ps) x h i = omega (arith, listed-from (suc from) ps x (in-place-rest from None ps h) i)
listed-from from (Some e ∷ ps) x h (inl q) = omega (arith, ap (λ y. place_for y.cell) q, in-place-first from e ps h)
listed-from from (Some e ∷ ps) x h (inr i) = omega (arith, listed-from (suc from) ps x (in-place-rest from (Some e) ps h) i)
