-- What becomes of a marker when registers rotate, and at a call.
use Rattle.std.specs.Prelude.{ℕ, ◌+◌, ◌-◌, ◌*◌, ◌%◌}
use Rattle.registers.specs.Markers.{Marker}

-- one less, around a ring of this many places; a ring of none stays at 0
abbrev pub back : ℕ → ℕ → ℕ
back size r = (r + (size - 1)) % size

-- the marker with these rename bases
abbrev pub renamed : Marker → ℕ → ℕ → ℕ → Marker
renamed m gr fr pr = record { sof = m.sof; sol = m.sol; sor = m.sor; gr = gr; fr = fr; pr = pr }

-- each rename base goes down by one, around the registers that it renames
abbrev pub rotated : Marker → Marker
rotated m = renamed m (back (8 * m.sor) m.gr) (back 96 m.fr) (back 48 m.pr)

-- all rename bases are zero, or that of the predicates alone
abbrev pub cleared : Marker → Marker
cleared m = renamed m 0 0 0

abbrev pub with_predicates_cleared : Marker → Marker
with_predicates_cleared m = renamed m m.gr m.fr 0

-- a call makes the outputs, which lie behind the locals, the frame
abbrev pub called : Marker → Marker
called m = record { sof = m.sof - m.sol; sol = 0; sor = 0; gr = 0; fr = 0; pr = 0 }
