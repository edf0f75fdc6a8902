-- The size of an access in bytes, and which right a set of rights has.
use Rattle.std.specs.Prelude.{ℕ, Bool}
use Rattle.memory.specs.declared.access.Size.{Size}
use Rattle.memory.specs.declared.access.Size.TheVariants.{One, Two, Four, Eight}
use Rattle.memory.specs.declared.access.Right.{Right}
use Rattle.memory.specs.declared.access.Right.TheVariants.{Read, Write, Speculative}
use Rattle.memory.specs.declared.access.Rights.{Rights}

abbrev pub bytes_of : Size → ℕ
bytes_of One = 1
bytes_of Two = 2
bytes_of Four = 4
bytes_of Eight = 8

abbrev pub has : Rights → Right → Bool
has rights Read = rights.read
has rights Write = rights.write
has rights Speculative = rights.speculative
