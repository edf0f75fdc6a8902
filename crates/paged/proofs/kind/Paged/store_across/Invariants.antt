use Rattle.std.proofs.Common.{◌≡◌}
use Rattle.memory.specs.Meaning.{put}
use Rattle.paged.specs.Kind.{meaning_of}
use Rattle.paged.proofs.kind.Paged.store_across.Given as goal

-- the bytes so far are stored
abbrev pub invariant-loop-i : goal.invariant-loop-i
invariant-loop-i l = meaning_of l.self ≡ put (meaning_of l.initial.self) l.access.address l.i l.value
