-- When a relation holds between two numbers of some bits.
use Rattle.std.specs.Prelude.{ℕ, Bool, ◌==◌, int_le, int_lt, nat_lt}
use Rattle.integer.specs.declared.compare.Relation.{Relation}
use Rattle.integer.specs.declared.compare.Relation.TheVariants.{Eq, Lt, Ltu, Le, Gt, Ge}
use Rattle.integer.specs.Words.{signed}

abbrev pub relates : ℕ → Relation → ℕ → ℕ → Bool
relates bits Eq a b = a == b
relates bits Lt a b = int_lt (signed bits a) (signed bits b)
relates bits Ltu a b = nat_lt a b
relates bits Le a b = int_le (signed bits a) (signed bits b)
relates bits Gt a b = int_lt (signed bits b) (signed bits a)
relates bits Ge a b = int_le (signed bits b) (signed bits a)
