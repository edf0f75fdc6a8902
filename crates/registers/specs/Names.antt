-- Which cell of its bank a register names.
use Rattle.std.specs.Prelude.{ℕ, ◌+◌, ◌-◌, ◌*◌, ◌%◌, cond, Some, None, Option, nat_lt}
use Rattle.registers.specs.Markers.{Marker}

-- The cell of a general register, in a frame with this marker and base: registers 0 to 31 name themselves; the next 8 × sor are turned by
-- rrb.gr around the first 8 × sor cells of the frame; the others in the frame follow; there is no other register.
abbrev pub general_cell_of : Marker → ℕ → ℕ → Option ℕ
general_cell_of m base n =
    cond (nat_lt n 32) (Some n)
    (cond (nat_lt n (32 + 8 * m.sor)) (Some (32 + base + (n - 32 + m.gr) % (8 * m.sor)))
    (cond (nat_lt n (32 + m.sof)) (Some (32 + base + (n - 32))) None))

-- the cell of a predicate: 0 to 15 name themselves, and 16 to 63 are turned by rrb.pr
abbrev pub predicate_cell_of : Marker → ℕ → Option ℕ
predicate_cell_of m n = cond (nat_lt n 16) (Some n) (cond (nat_lt n 64) (Some (16 + (n - 16 + m.pr) % 48)) None)
