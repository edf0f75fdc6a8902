use Rattle.std.proofs.Common.{◌≡◌, ℕ, ◌+◌, ◌<◌, get_or}
use Rattle.paged.specs.Kind.{meaning_of}
use Rattle.paged.proofs.kind.Paged.load_across.Given as goal

-- the bytes so far are read
abbrev pub invariant-loop-i : goal.invariant-loop-i
invariant-loop-i l = (k : ℕ) → k < l.i → get_or l.byte-items k 0 ≡ (meaning_of l.self (l.access.address + k)).byte
