-- What paged memory means.
use Rattle.std.specs.Prelude.{◌≡◌, ℕ, suc, ◌+◌, ◌-◌, ◌*◌, ◌%◌, ◌^◌, ◌<◌, ◌≤◌, min, Bool, false, cond, ◌&&◌, ltb, List, [], ◌∷◌, length, Some, None, Option, ◌==◌, nat_le, nat_lt, slice_index_or, refl}
use Rattle.std.proofs.Common.{ap, ◌∙◌, arith}
use Rattle.std.specs.Bool.{then_some}
use Rattle.std.specs.Option.{option_map}
use Rattle.std.proofs.lemmas.Bool.{cond-false, and_right, le-ltb}
use Rattle.memory.specs.declared.access.Right.{Right}
use Rattle.memory.specs.Access.{has}
use Rattle.memory.specs.Meaning.{Meaning, Location, nowhere}
use Rattle.memory.specs.Kinds.{inside, laid}
use Rattle.paged.specs.declared.page.Page.{Page}
use Rattle.paged.specs.declared.page.Place.{Place}

-- the place in the list of the page that holds the address
unfoldable pub index_of : List Page → ℕ → Option ℕ
index_of [] a = None
index_of (p ∷ ps) a = cond (inside p.base 4096 a) (Some 0) (option_map suc (index_of ps a))

abbrev pub no_page : Page
no_page = record { base = 0; rights = record { read = false; write = false; speculative = false } }

-- where an address lies: the i-th page mapped lies over the i-th 4,096 of the bytes
abbrev pub place_for : List Page → ℕ → Option Place
place_for pages a =
    option_map (λ i. record { offset = 4096 * i + (a - (slice_index_or pages i no_page).base); rights = (slice_index_or pages i no_page).rights }) (index_of pages a)

-- where in the bytes it lies, if its page has the right
abbrev pub offset_with : Right → Option Place → Option ℕ
offset_with right None = None
offset_with right (Some place) = then_some (has place.rights right) place.offset

-- the location there, with the rights of the page
abbrev pub location_at : Option Place → List ℕ → Location
location_at None bytes = nowhere
location_at (Some place) bytes = laid place.rights 0 bytes place.offset

-- the pages, in the order in which they were mapped, over the bytes
abbrev pub paged : List Page → List ℕ → Meaning
paged pages bytes a = location_at (place_for pages a) bytes

-- two of the pages, at the places i and j, have one base
abbrev pub clash : List Page → ℕ → ℕ → Bool
clash pages i j = nat_lt i j && nat_lt j (length pages) && (slice_index_or pages i no_page).base == (slice_index_or pages j no_page).base

-- each page begins at a multiple of the page's size, and no two at one address
pub record Separate (pages : List Page) : Type 0 where
  pub aligned : (i : ℕ) → i < length pages → (slice_index_or pages i no_page).base % 4096 ≡ 0
  pub apart : (i j : ℕ) → clash pages i j ≡ false

-- past the top address there is no page
pub index-past : (pages : List Page) (a : ℕ) → 2 ^ 64 ≤ a → index_of pages a ≡ None
unfolding index_of
index-past [] a h = refl
index-past (p ∷ ps) a h =
    let past : ltb a (min (p.base + 4096) (2 ^ 64)) ≡ false = le-ltb a _ (omega arith) in
    cond-false _ _ _ (and_right (nat_le p.base a) _ past) ∙ ap (option_map suc) (index-past ps a h)

pub paged-bounded : (pages : List Page) (bytes : List ℕ) (a : ℕ) → 2 ^ 64 ≤ a → paged pages bytes a ≡ nowhere
paged-bounded pages bytes a h =
    ap (λ o. location_at (option_map (λ i. record { offset = 4096 * i + (a - (slice_index_or pages i no_page).base); rights = (slice_index_or pages i no_page).rights }) o) bytes)
    (index-past pages a h)
