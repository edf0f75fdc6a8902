use Rattle.std.proofs.Common.{arith}
use Rattle.std.proofs.lemmas.Grind.{common_steps}
use Rattle.alat.proofs.Keeping.{unique-front}
use Rattle.alat.proofs.associative.FullyAssociativeAlat.clear.Goals as goal

pub invariant_of-self-clause-one_each : goal.invariant_of-self-clause-one_each
invariant_of-self-clause-one_each c = unique-front c.args.self.now.entries.items _ (grind (arith, common_steps)) c.args.self.now.one_each
