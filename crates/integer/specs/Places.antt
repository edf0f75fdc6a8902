-- The bits of a scale and of a part of a word.
use Rattle.std.specs.Prelude.{ℕ}
use Rattle.integer.specs.declared.place.Scale.{Scale}
use Rattle.integer.specs.declared.place.Scale.TheVariants.{One, Two, Three, Four}
use Rattle.integer.specs.declared.extend.Part.{Part}
use Rattle.integer.specs.declared.extend.Part.TheVariants.{One as OneByte, Two as TwoBytes, Four as FourBytes}

abbrev pub scale_of : Scale → ℕ
scale_of One = 1
scale_of Two = 2
scale_of Three = 3
scale_of Four = 4

abbrev pub part_bits : Part → ℕ
part_bits OneByte = 8
part_bits TwoBytes = 16
part_bits FourBytes = 32
