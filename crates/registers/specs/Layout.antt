-- The 38 bits of a frame marker.
use Rattle.std.specs.Prelude.{ℕ, ◌+◌, ◌*◌, ◌^◌}
use Rattle.integer.specs.Words.{field}
use Rattle.registers.specs.Markers.{Marker}

-- sof in bits 0 to 6, sol in 7 to 13, sor in 14 to 17, rrb.gr in 18 to 24, rrb.fr in 25 to 31, rrb.pr in 32 to 37
abbrev pub unpacked : ℕ → Marker
unpacked x = record { sof = field x 0 7; sol = field x 7 7; sor = field x 14 4; gr = field x 18 7; fr = field x 25 7; pr = field x 32 6 }

abbrev pub packed : Marker → ℕ
packed m = m.sof + m.sol * 2 ^ 7 + m.sor * 2 ^ 14 + m.gr * 2 ^ 18 + m.fr * 2 ^ 25 + m.pr * 2 ^ 32
