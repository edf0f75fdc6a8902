-- What the kinds that keep entries promise not to lose.
use Rattle.std.specs.Prelude.{◌≡◌, ℕ, ◌<◌, ◌⊎◌, List, [], ◌∷◌, ◌++◌, length, Some, ◌≢◌}
use Rattle.memory.specs.declared.access.Access.{Access}
use Rattle.alat.specs.declared.entry.Entry.{Entry}
use Rattle.alat.specs.Table.{In, held, SharesByte}
use Rattle.alat.specs.Kinds.{place_for}

-- a new entry is held
abbrev pub Entered : Entry → List Entry → Type 0
Entered e after = held after e.cell ≡ Some e

-- an old entry of another place stays
abbrev pub KeepsOtherPlaces : List Entry → Entry → List Entry → Type 0
KeepsOtherPlaces es e after = (x : Entry) → In x es → (place_for x.cell ≢ place_for e.cell) → In x after

-- an old entry that shares no byte with a store stays
abbrev pub KeepsApart : List Entry → Access → List Entry → Type 0
KeepsApart es access after = (x : Entry) → In x es → (SharesByte x access → ⊥) → In x after

-- an old entry of another cell stays
abbrev pub KeepsOthers : List Entry → ℕ → List Entry → Type 0
KeepsOthers es cell after = (x : Entry) → In x es → (x.cell ≢ cell) → In x after

-- there is room for a new entry among 16: fewer are held, or one of its cell
abbrev pub HasRoom : List Entry → Entry → Type 0
HasRoom es e = (length es < 16) ⊎ ((y : Entry) × In y es × (y.cell ≡ e.cell))

-- with room, an old entry of another cell stays
abbrev pub KeepsIfRoom : List Entry → Entry → List Entry → Type 0
KeepsIfRoom es e after = HasRoom es e → KeepsOthers es e.cell after

-- without room the oldest, which is the last of the list, is lost, and no other
abbrev pub LosesOldest : List Entry → Entry → List Entry → Type 0
LosesOldest es e after = (HasRoom es e → ⊥) → (rest : List Entry) (oldest : Entry) → es ≡ rest ++ oldest ∷ [] → after ≡ e ∷ rest
