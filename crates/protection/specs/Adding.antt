-- Ranges that are collected, up to 16.
use Rattle.std.specs.Prelude.{cond, List, [], ◌∷◌, ◌++◌, length, Ok, Err, Result, nat_lt}
use Rattle.memory.specs.declared.refusal.Refusal.{Refusal}
use Rattle.memory.specs.declared.refusal.Refusal.TheVariants.{NoRoom}
use Rattle.protection.specs.declared.range.Range.{Range}

-- a range is refused where there are 16 already
abbrev pub add_answer : List Range → Result (Unit {0}) Refusal
add_answer ranges = cond (nat_lt (length ranges) 16) (Ok tt) (Err NoRoom)

-- otherwise it comes to the end
abbrev pub added : List Range → Range → List Range
added ranges range = cond (nat_lt (length ranges) 16) (ranges ++ range ∷ []) ranges
