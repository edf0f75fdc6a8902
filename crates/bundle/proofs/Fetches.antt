-- A bundle is fetched by two loads.
use Rattle.std.proofs.Common.{◌≡◌, ℕ, ◌+◌, ◌&&◌}
use Rattle.memory.specs.declared.access.Right.TheVariants.{Read}
use Rattle.memory.specs.Access.{has}
use Rattle.memory.specs.Meaning.{Meaning, granted}
use Rattle.memory.proofs.Ranges.{each-split}

-- the right to 16 bytes is the right to both words
pub granted_both : (m : Meaning) (a : ℕ) → granted m Read a 16 ≡ (granted m Read a 8 && granted m Read (a + 8) 8)
granted_both m a = each-split (λ x. has (m x).rights Read) a 8 8
