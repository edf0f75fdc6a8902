-- What a memory has for a bundle.
use Rattle.std.specs.Prelude.{ℕ, ◌+◌, cond, Ok, Err, Result}
use Rattle.memory.specs.declared.access.MissingRight.{MissingRight}
use Rattle.memory.specs.declared.access.Right.TheVariants.{Read}
use Rattle.memory.specs.Meaning.{Meaning, granted, word_at}
use Rattle.bundle.specs.declared.split.Bundle.{Bundle}

-- the bundle whose first byte is at the address
abbrev pub bundle_at : Meaning → ℕ → Bundle
bundle_at m address = record { low = word_at m address 8; high = word_at m (address + 8) 8 }

-- a fetch answers the bundle if all 16 bytes may be read, and otherwise only that the right is missing
abbrev pub fetched : Meaning → ℕ → Result Bundle MissingRight
fetched m address = cond (granted m Read address 16) (Ok (bundle_at m address)) (Err (record { address = address }))
