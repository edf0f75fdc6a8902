use Rattle.std.proofs.Common.{◌≡◌, ℕ, ◌<◌, ◌≤◌, false, cond, ◌&&◌, eqb, ltb, get_or}
use Rattle.integer.specs.Words.{bit}
use Rattle.registers.proofs.predicates.set_predicate_word.Given as goal

-- the cells so far are set, and the others are as they were
abbrev pub invariant-loop-i : goal.invariant-loop-i
invariant-loop-i l = record {
  below : (k : ℕ) → k < l.i → get_or l.cell-items k false ≡ cond (ltb 0 k && ltb k 64 && eqb (bit k l.mask) 1) (eqb (bit k l.word) 1) (get_or l.initial.cell-items k false);
  above : (k : ℕ) → l.i ≤ k → get_or l.cell-items k false ≡ get_or l.initial.cell-items k false;
}
