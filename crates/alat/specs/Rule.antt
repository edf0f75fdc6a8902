-- What each kind of ALAT says of itself, and what bounds every kind.
use Rattle.std.specs.Prelude.{◌≡◌, ℕ, ◌⊎◌, List, ◌≢◌}
use Rattle.memory.specs.declared.access.Access.{Access}
use Rattle.alat.specs.declared.entry.Entry.{Entry}
use Rattle.alat.specs.Table.{In, OneEach, SharesByte}

-- what an ALAT is told
pub data Request : Type 0 where
  Enter : Entry → Request
  Store : Access → Request
  Remove : ℕ → Request
  Clear : Request

-- what a request leaves of the entries
abbrev pub Rule : Type 0
Rule = List Entry → Request → List Entry

-- the bounds of every kind: it may forget, and never invents
pub record Lawful (rule : Rule) : Type 0 where
  -- entering leaves at most the new entry and old entries of other cells
  pub enter : (es : List Entry) (e x : Entry) → In x (rule es (Enter e)) → (x ≡ e) ⊎ (In x es × (x.cell ≢ e.cell))
  -- a store leaves only old entries that share no byte with it
  pub «store» : (es : List Entry) (access : Access) (x : Entry) → In x (rule es (Store access)) → In x es × (SharesByte x access → ⊥)
  -- removing leaves only old entries of other cells
  pub remove : (es : List Entry) (cell : ℕ) (x : Entry) → In x (rule es (Remove cell)) → In x es × (x.cell ≢ cell)
  -- clearing leaves none
  pub clear : (es : List Entry) (x : Entry) → In x (rule es Clear) → ⊥
  -- at most one entry for a cell stays so
  pub unique : (es : List Entry) (request : Request) → OneEach es → OneEach (rule es request)
