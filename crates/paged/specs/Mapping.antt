-- What the mapping of a page answers, and which pages are then mapped.
use Rattle.std.specs.Prelude.{ℕ, ◌+◌, ◌*◌, ◌%◌, Bool, cond, not, ◌&&◌, ◌||◌, List, [], ◌∷◌, ◌++◌, length, is_some, Ok, Err, Result, ◌==◌, nat_le, nat_lt}
use Rattle.memory.specs.declared.refusal.Refusal.{Refusal}
use Rattle.memory.specs.declared.refusal.Refusal.TheVariants.{NoRoom, BadBase}
use Rattle.paged.specs.declared.page.Page.{Page}
use Rattle.paged.specs.Pages.{index_of}

-- there are 64 pages, or no 4,096 bytes are left of n
abbrev pub full : List Page → ℕ → Bool
full pages n = nat_le 64 (length pages) || nat_lt n (4096 * length pages + 4096)

-- a page's base is a multiple of 4,096 and not mapped yet
abbrev pub new_base : List Page → ℕ → Bool
new_base pages base = base % 4096 == 0 && not (is_some (index_of pages base))

abbrev pub map_answer : List Page → ℕ → ℕ → Result (Unit {0}) Refusal
map_answer pages n base = cond (full pages n) (Err NoRoom) (cond (new_base pages base) (Ok tt) (Err BadBase))

-- the pages after a mapping; a refusal changes nothing
abbrev pub pages_after : Result (Unit {0}) Refusal → List Page → Page → List Page
pages_after (Ok _) pages page = pages ++ page ∷ []
pages_after (Err _) pages page = pages
