use Rattle.std.proofs.Common.{◌≡◌, ◌^◌, ◌<◌}
use Rattle.registers.specs.Predicates.{predicate_in, word_below}
use Rattle.registers.proofs.predicates.predicate_word.Given as goal

-- the bits so far are those of the predicates
abbrev pub invariant-loop-i : goal.invariant-loop-i
invariant-loop-i l = (l.word ≡ word_below (predicate_in l.cells) l.i) × (l.word < 2 ^ l.i)
