use Rattle.std.proofs.Common.{◌≡◌, ℕ, ◌-◌, ◌*◌, ◌<◌, get_or}
use Rattle.integer.specs.Words.{field}
use Rattle.listing.specs.Text.{hex_digit}
use Rattle.listing.proofs.hex.write_hex.Given as goal

-- the digits so far are written
abbrev pub invariant-loop-i : goal.invariant-loop-i
invariant-loop-i l = (k : ℕ) → k < l.i → get_or l.out k 0 ≡ hex_digit (field l.value (4 * (l.count - 1 - k)) 4)
