-- The bit fields of a bundle.
use Rattle.std.specs.Prelude.{ℕ, ◌+◌, ◌*◌, ◌^◌}
use Rattle.integer.specs.Words.{field}
use Rattle.bundle.specs.declared.split.Bundle.{Bundle}

-- the 128 bits of a bundle as one number
abbrev pub bits : Bundle → ℕ
bits b = b.low + b.high * 2 ^ 64

-- slot k, for k from 0 to 2, of a bundle's bits: 41 bits each, above the five of the template
abbrev pub slot : ℕ → ℕ → ℕ
slot n k = field n (5 + 41 * k) 41
