-- Which cell of its bank a register names, and what a bank holds after a write.
use Rattle.std.specs.Prelude.{ℕ, zero, suc, ◌+◌, ◌-◌, ◌%◌, cond, List, Some, None, Option, ◌==◌, nat_lt, slice_index_or, slice_set}
use Rattle.registers.specs.declared.window.Window.{Window}

-- the place in the window of its register k: the first ones turn, the others stand
abbrev pub place_for : Window → ℕ → ℕ
place_for w k = cond (nat_lt k w.rotating) ((k + w.rename) % w.rotating) k

-- The cell of register n. The fixed registers stand in the first cells; the next are those of the window, whose cells begin at its base
-- behind them; there is no other register.
abbrev pub cell_of : ℕ → Window → ℕ → Option ℕ
cell_of fixed w n =
    cond (nat_lt n fixed) (Some n) (cond (nat_lt (n - fixed) w.size) (Some (fixed + w.base + place_for w (n - fixed))) None)

-- what a cell holds; where there is none, a blank
abbrev pub cell_at : {X : Type 0} → X → List X → Option ℕ → X
cell_at blank cells None = blank
cell_at blank cells (Some i) = slice_index_or cells i blank

-- a bank after a write of a cell; where there is none, nothing changes
abbrev pub written : {X : Type 0} → List X → Option ℕ → X → List X
written cells None value = cells
written cells (Some i) value = slice_set cells i value

-- what a register reads as: register 0 is always `first`
abbrev pub read : {X : Type 0} → X → X → ℕ → Window → List X → ℕ → X
read first blank fixed w cells n = cond (n == 0) first (cell_at blank cells (cell_of fixed w n))

-- a bank after a write of a register: a write of register 0 is dropped
abbrev pub wrote : {X : Type 0} → ℕ → Window → List X → ℕ → X → List X
wrote fixed w cells n value = cond (n == 0) cells (written cells (cell_of fixed w n) value)

-- a bank in which the count cells from `from` on have become v
unfoldable pub filled : {X : Type 0} → ℕ → ℕ → X → List X → List X
filled from zero v cells = cells
filled from (suc count) v cells = slice_set (filled from count v cells) (from + count) v
