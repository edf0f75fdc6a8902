-- What the hints of a table say.
use Rattle.std.specs.Prelude.{◌≡◌, ℕ, false, ◌%◌, ◌^◌, ◌<◌, ◌≤◌, List, length, Some, slice_index_or}
use Rattle.paged.specs.declared.page.Hint.{Hint}
use Rattle.paged.specs.declared.page.Page.{Page}
use Rattle.paged.specs.Pages.{Separate, place_for}

abbrev pub some_hint : Hint
some_hint = record { base = 0; place = record { offset = 0; rights = record { read = false; write = false; speculative = false } } }

-- a hint that is not set: no page begins at 1
abbrev pub no_hint : Hint
no_hint = record some_hint { base = 1 }

-- there are 64 pages at most, they lie apart, and a hint whose base can be a page's has the place of that address
pub record Kept (pages : List Page) (hints : List Hint) : Type 0 where
  pub few : length pages ≤ 64
  pub separate : Separate pages
  pub whole : length hints ≡ 64
  pub low : (k : ℕ) → k < 64 → (slice_index_or hints k some_hint).place.offset ≤ 2 ^ 18
  pub right : (k : ℕ) → k < 64 → (slice_index_or hints k some_hint).base % 4096 ≡ 0 → place_for pages (slice_index_or hints k some_hint).base ≡ Some (slice_index_or hints k some_hint).place
