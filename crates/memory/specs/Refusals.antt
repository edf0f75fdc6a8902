-- The number of each refusal.
use Rattle.std.specs.Prelude.{ℕ}
use Rattle.memory.specs.declared.refusal.Refusal.{Refusal}
use Rattle.memory.specs.declared.refusal.Refusal.TheVariants.{NoRoom, BadBase}

abbrev pub number_of : Refusal → ℕ
number_of NoRoom = 26
number_of BadBase = 25
