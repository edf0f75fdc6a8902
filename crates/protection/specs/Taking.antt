-- What ranges take away, and what a memory means under them.
use Rattle.std.specs.Prelude.{◌≡◌, ℕ, ◌^◌, ◌≤◌, Bool, false, not, ◌&&◌, ◌||◌, List, [], ◌∷◌, nat_le}
use Rattle.std.proofs.Common.{ap}
use Rattle.memory.specs.declared.access.Right.{Right}
use Rattle.memory.specs.declared.access.Right.TheVariants.{Read, Write, Speculative}
use Rattle.memory.specs.declared.access.Rights.{Rights}
use Rattle.memory.specs.Access.{has}
use Rattle.memory.specs.Meaning.{Meaning, nowhere, each}
use Rattle.protection.specs.declared.range.Range.{Range}

-- the range holds the address
abbrev pub holds : Range → ℕ → Bool
holds range a = nat_le range.first a && nat_le a range.last

-- some range that takes the right away holds the address
unfoldable pub taken : List Range → Right → ℕ → Bool
taken [] right a = false
taken (range ∷ ranges) right a = (has range.taken right && holds range a) || taken ranges right a

-- the rights that the ranges leave to an address
abbrev pub left : List Range → ℕ → Rights → Rights
left ranges a rights =
    record {
      read = rights.read && not (taken ranges Read a);
      write = rights.write && not (taken ranges Write a);
      speculative = rights.speculative && not (taken ranges Speculative a);
    }

-- a memory under ranges: its bytes, with the rights that the ranges leave
abbrev pub protected : List Range → Meaning → Meaning
protected ranges m a = record { byte = (m a).byte; rights = left ranges a (m a).rights }

-- past the top address there is nothing
pub protected-bounded : (ranges : List Range) (m : Meaning) → ((a : ℕ) → 2 ^ 64 ≤ a → m a ≡ nowhere) → (a : ℕ) → 2 ^ 64 ≤ a → protected ranges m a ≡ nowhere
protected-bounded ranges m bounded a h =
    ap (λ location. record { byte = location.byte; rights = left ranges a location.rights }) (bounded a h)

-- no range takes the right away from any of the n addresses from `address` up
abbrev pub allowed : List Range → Right → ℕ → ℕ → Bool
allowed ranges right address n = each (λ a. not (taken ranges right a)) address n
