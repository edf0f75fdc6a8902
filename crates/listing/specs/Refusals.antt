-- The number of each refusal.
use Rattle.std.specs.Prelude.{ℕ}
use Rattle.listing.specs.declared.refusal.Refusal.{Refusal}
use Rattle.listing.specs.declared.refusal.Refusal.TheVariants.{ShortBuffer, NotReadable}

abbrev pub number_of : Refusal → ℕ
number_of ShortBuffer = 28
number_of NotReadable = 24
