-- What an ALAT means: a list of entries, at most one for a cell.
use Rattle.std.specs.Prelude.{◌≡◌, ℕ, ◌+◌, ◌<◌, ◌≤◌, Bool, not, ◌&&◌, ◌⊎◌, List, [], ◌∷◌, ◌++◌, filter, find, Option, ◌==◌, ◌≢◌, nat_lt}
use mathlib.Core.HLevel.{×_prop, Π_prop, ⊥_prop, Unit-prop}
use Rattle.memory.specs.Access.{bytes_of}
use Rattle.memory.specs.declared.access.Access.{Access}
use Rattle.alat.specs.declared.entry.Entry.{Entry}

-- the entry is one of the list
abbrev pub In : Entry → List Entry → Type 0
In x [] = ⊥
In x (y ∷ ys) = (x ≡ y) ⊎ In x ys

-- no two entries are of one cell
abbrev pub OneEach : List Entry → Type 0
OneEach [] = Unit {0}
OneEach (e ∷ es) = ((x : Entry) → In x es → x.cell ≢ e.cell) × OneEach es

pub OneEach-prop : (es : List Entry) → IsProp (OneEach es)
OneEach-prop [] = Unit-prop
OneEach-prop (e ∷ es) = ×_prop (Π_prop (λ x. Π_prop (λ i. Π_prop (λ q. ⊥_prop)))) (OneEach-prop es)

-- two entries of one cell, one behind the other
pub record Repeated (es : List Entry) : Type 0 where
  pub front : List Entry
  pub first : Entry
  pub back : List Entry
  pub second : Entry
  pub split : es ≡ front ++ first ∷ back
  pub behind : In second back
  pub same : second.cell ≡ first.cell

-- the entry that is held for a cell
abbrev pub held : List Entry → ℕ → Option Entry
held es cell = find (λ e. e.cell == cell) es

-- the byte at `at` is one of an access
abbrev pub Covers : Access → ℕ → Type 0
Covers access at = (access.address ≤ at) × (at < access.address + bytes_of access.size)

-- some byte is both of the entry and of the access
abbrev pub SharesByte : Entry → Access → Type 0
SharesByte e access = (at : ℕ) × Covers e.access at × Covers access at

-- the same as a test: each begins before the other ends
abbrev pub shares_a_byte : Entry → Access → Bool
shares_a_byte e access = nat_lt access.address (e.access.address + bytes_of e.access.size) && nat_lt e.access.address (access.address + bytes_of access.size)

-- the entries of other cells
abbrev pub others : ℕ → List Entry → List Entry
others cell = filter (λ e. not (e.cell == cell))

-- the entries that share no byte with an access
abbrev pub untouched : Access → List Entry → List Entry
untouched access = filter (λ e. not (shares_a_byte e access))
