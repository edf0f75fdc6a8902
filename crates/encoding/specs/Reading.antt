-- What it means to read a record out of a slot.
use Rattle.std.specs.Prelude.{◌≡◌, Some, None, Option}

-- the answer is the one record that is held, and no other is held; or none is held
abbrev pub Reads : {A : Type 0} → (A → Type 0) → Option A → Type 0
Reads {A} Held (Some i) = Held i × ((j : A) → Held j → j ≡ i)
Reads {A} Held None = (j : A) → Held j → ⊥

-- the answer is one of which P holds; or P holds of none
abbrev pub Found : {A : Type 0} → (A → Type 0) → Option A → Type 0
Found P (Some a) = P a
Found {A} P None = (a : A) → P a → ⊥
