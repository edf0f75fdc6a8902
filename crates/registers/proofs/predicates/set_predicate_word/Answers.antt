use Rattle.std.proofs.Common.{◌++◌, drop, arith}
use Rattle.std.proofs.lemmas.List.{places}
use Rattle.registers.proofs.PredicateWords.{part-masked, whole-masked}
use Rattle.registers.proofs.predicates.set_predicate_word.Goals as goal

pub returns-clause-each : goal.returns-clause-each
returns-clause-each c =
    part-masked c.args.word c.args.mask c.min-end.result c.args.cells.now c.loop-i.cell-items c.min-end.ensures c.loop-i.auto.cell-items (λ k h. c.loop-i.invariant.below k (omega arith))

pub returns-clause-whole : goal.returns-clause-whole
returns-clause-whole c =
    let now = c.loop-i.cell-items ++ drop c.min-end.result c.args.cells.now in
    whole-masked c.args.word c.args.mask c.args.cells.now now (grind (arith, places)) (returns-clause-each c)
