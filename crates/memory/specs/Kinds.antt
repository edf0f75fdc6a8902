-- What the kinds of memory mean.
use Rattle.std.specs.Prelude.{◌≡◌, ℕ, ◌+◌, ◌-◌, ◌^◌, ◌≤◌, min, Bool, true, false, cond, ◌&&◌, ltb, List, length, nat_le, nat_lt, slice_index}
use Rattle.std.proofs.Common.{arith}
use Rattle.std.proofs.lemmas.Bool.{cond-false, and_right, le-ltb}
use Rattle.memory.specs.declared.access.Rights.{Rights}
use Rattle.memory.specs.Meaning.{Meaning, nowhere}

-- the address a is one of the n from base up, and not past the top address
abbrev pub inside : ℕ → ℕ → ℕ → Bool
inside base n a = nat_le base a && nat_lt a (min (base + n) (2 ^ 64))

-- bytes from base up, all with the same rights; elsewhere there is no memory, and bytes past the top address are left out
unfoldable pub laid : Rights → ℕ → List ℕ → Meaning
laid rights base bytes a =
    cond (inside base (length bytes) a) (record { byte = slice_index bytes (a - base); rights = rights }) nowhere

abbrev pub read_only : Rights
read_only = record { read = true; write = false; speculative = false }

abbrev pub all_rights : Rights
all_rights = record { read = true; write = true; speculative = true }

-- an image can be read and nothing else
abbrev pub image : ℕ → List ℕ → Meaning
image = laid read_only

-- flat memory has all rights
abbrev pub flat : ℕ → List ℕ → Meaning
flat = laid all_rights

-- past the top address there is nothing
pub laid-bounded : (rights : Rights) (base : ℕ) (bytes : List ℕ) (a : ℕ) → 2 ^ 64 ≤ a → laid rights base bytes a ≡ nowhere
unfolding laid
laid-bounded rights base bytes a h =
    let past : ltb a (min (base + length bytes) (2 ^ 64)) ≡ false = le-ltb a _ (omega arith) in
    cond-false _ _ _ (and_right (nat_le base a) _ past)

abbrev pub image-bounded : (base : ℕ) (bytes : List ℕ) (a : ℕ) → 2 ^ 64 ≤ a → image base bytes a ≡ nowhere
image-bounded = laid-bounded read_only

abbrev pub flat-bounded : (base : ℕ) (bytes : List ℕ) (a : ℕ) → 2 ^ 64 ≤ a → flat base bytes a ≡ nowhere
flat-bounded = laid-bounded all_rights
