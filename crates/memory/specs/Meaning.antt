-- What a memory means, and what a load from it and a question about a right answer.
use Rattle.std.specs.Prelude.{ℕ, zero, suc, ◌+◌, ◌-◌, ◌*◌, ◌/◌, ◌%◌, ◌^◌, Bool, true, false, cond, ◌&&◌, Ok, Err, Result, nat_le, nat_lt}
use Rattle.memory.specs.declared.access.Size.{Size}
use Rattle.memory.specs.declared.access.Right.{Right}
use Rattle.memory.specs.declared.access.Right.TheVariants.{Read, Write}
use Rattle.memory.specs.declared.access.Rights.{Rights}
use Rattle.memory.specs.declared.access.MissingRight.{MissingRight}
use Rattle.memory.specs.Access.{bytes_of, has}

-- what an address has: a byte, and the rights to it
pub record Location : Type 0 where
  pub byte : ℕ
  pub rights : Rights

-- a memory means a location for each address
abbrev pub Meaning : Type 0
Meaning = ℕ → Location

-- where there is no memory: the byte 0 and no right
abbrev pub nowhere : Location
nowhere = record { byte = 0; rights = record { read = false; write = false; speculative = false } }

-- each of the n addresses from `address` up passes the test
unfoldable pub each : (ℕ → Bool) → ℕ → ℕ → Bool
each test address zero = true
each test address (suc n) = test (address + n) && each test address n

-- the number whose n bytes, the least significant first, are those of the addresses from `address` up
unfoldable pub word : (ℕ → ℕ) → ℕ → ℕ → ℕ
word byte address zero = 0
word byte address (suc n) = word byte address n + byte (address + n) * 256 ^ n

-- an access has a right if each of its n bytes has it
abbrev pub granted : Meaning → Right → ℕ → ℕ → Bool
granted m right address n = each (λ a. has (m a).rights right) address n

-- the n bytes from `address` up as a little-endian number
abbrev pub word_at : Meaning → ℕ → ℕ → ℕ
word_at m address n = word (λ a. (m a).byte) address n

-- the bytes after the n low bytes of a value, the least significant first, are put at the addresses from `address` up
unfoldable pub replaced : (ℕ → ℕ) → ℕ → ℕ → ℕ → ℕ → ℕ
replaced byte address n value a = cond (nat_le address a && nat_lt a (address + n)) (value / 256 ^ (a - address) % 256) (byte a)

-- a memory after this; the rights stay
abbrev pub put : Meaning → ℕ → ℕ → ℕ → Meaning
put m address n value a = record { byte = replaced (λ x. (m x).byte) address n value a; rights = (m a).rights }

-- a load answers the word if it may read all of it, and otherwise only that the right is missing
abbrev pub loaded : Meaning → ℕ → Size → Result ℕ MissingRight
loaded m address size =
    cond (granted m Read address (bytes_of size)) (Ok (word_at m address (bytes_of size))) (Err (record { address = address }))

-- a store answers whether it may write all of the access
abbrev pub store_answer : Meaning → ℕ → Size → Result (Unit {0}) MissingRight
store_answer m address size = cond (granted m Write address (bytes_of size)) (Ok tt) (Err (record { address = address }))

-- it then puts the low bytes of the value there, and otherwise changes nothing
abbrev pub stored : Meaning → ℕ → Size → ℕ → Meaning
stored m address size value = cond (granted m Write address (bytes_of size)) (put m address (bytes_of size) value) m
