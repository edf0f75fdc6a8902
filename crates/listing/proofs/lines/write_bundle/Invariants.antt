use Rattle.std.proofs.Common.{◌≡◌, ◌++◌, drop, ◌*◌}
use Rattle.listing.proofs.Slots.{first_slots}
use Rattle.listing.proofs.lines.write_bundle.Given as goal

-- the lines of the slots so far are written
abbrev pub invariant-loop-k : goal.invariant-loop-k
invariant-loop-k l = l.out ≡ first_slots l.address l.fn.bundle l.k ++ drop (33 * l.k) l.fn.out
