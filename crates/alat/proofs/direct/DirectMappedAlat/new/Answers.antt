use Rattle.alat.proofs.Placing.{in_place-none}
use Rattle.alat.proofs.direct.DirectMappedAlat.new.Goals as goal

pub invariant_of-result : goal.invariant_of-result
invariant_of-result c = record { in_place = in_place-none 32 }
