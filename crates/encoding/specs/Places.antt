-- The position and the length that stand in a field of at most six bits.
use Rattle.std.proofs.Common.{arith}
use Rattle.std.specs.Prelude.{ℕ, ◌+◌, ◌-◌, ◌%◌}
use Rattle.integer.specs.declared.place.Length.{Length}
use Rattle.integer.specs.declared.place.Position.{Position}

unfoldable pub place : ℕ → Position
place n = record { bit = n % 64; within = omega arith }

-- counted down from bit 63
unfoldable pub place_from_top : ℕ → Position
place_from_top n = record { bit = (63 - n) % 64; within = omega arith }

-- one more than the field
unfoldable pub extent : ℕ → Length
extent n = record { bits = n % 64 + 1; some = omega arith; few = omega arith }
