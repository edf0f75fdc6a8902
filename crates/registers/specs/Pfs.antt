-- The word of the previous function state: the marker in bits 0 to 37, the epilog count in 52 to 57, the privilege level in 62 and 63. The
-- others are reserved.
use Rattle.std.specs.Prelude.{ℕ, ◌+◌, ◌*◌, ◌^◌, Bool, ◌&&◌, ◌==◌}
use Rattle.integer.specs.Words.{field}
use Rattle.registers.specs.declared.previous.PreviousState.{PreviousState}
use Rattle.registers.specs.Layout.{packed, unpacked}
use Rattle.registers.specs.Markers.{Marker, marker_of}

pub record State : Type 0 where
  pub marker : Marker
  pub ec : ℕ
  pub level : ℕ

-- the numbers of a `PreviousState`, as `marker_of` has those of a marker
abbrev pub state_of : PreviousState → State
state_of s = record { marker = marker_of s.marker; ec = s.ec; level = s.level }

abbrev pub packed_state : State → ℕ
packed_state s = packed s.marker + s.ec * 2 ^ 52 + s.level * 2 ^ 62

abbrev pub unpacked_state : ℕ → State
unpacked_state x = record { marker = unpacked x; ec = field x 52 6; level = field x 62 2 }

abbrev pub reserved_are_clear : ℕ → Bool
reserved_are_clear x = field x 38 14 == 0 && field x 58 4 == 0

abbrev pub without_reserved_bits : ℕ → ℕ
without_reserved_bits x = field x 0 38 + field x 52 6 * 2 ^ 52 + field x 62 2 * 2 ^ 62
