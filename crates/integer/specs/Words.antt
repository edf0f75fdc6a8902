-- Words as numbers below 2 ^ 64, and what the integer instructions make of them.
use Rattle.std.specs.Prelude.{ℕ, zero, suc, ◌+◌, ◌-◌, ◌*◌, ◌/◌, ◌%◌, ◌^◌, min, cond, ℤ, pos, negsuc, nat_lt}
use Rattle.std.specs.Int.Signed.{shr_z}

-- the field of `width` bits of the number n whose lowest bit is bit `first`
abbrev pub field : ℕ → ℕ → ℕ → ℕ
field n first width = n / 2 ^ first % 2 ^ width

-- bit n of x, 0 or 1
abbrev pub bit : ℕ → ℕ → ℕ
bit n x = x / 2 ^ n % 2

-- the low 64 bits of a number
abbrev pub word : ℕ → ℕ
word n = n % 2 ^ 64

-- a number of some bits read as a signed one, in two's complement
abbrev pub signed : ℕ → ℕ → ℤ
signed bits x = cond (nat_lt x (2 ^ (bits - 1))) (pos x) (negsuc (2 ^ bits - suc x))

-- the word of a signed number, in two's complement
abbrev pub word_of : ℤ → ℕ
word_of (pos n) = n
word_of (negsuc n) = 2 ^ 64 - suc n

-- the low 32 bits of the sum, with bits 30 and 31 of the second source in bits 61 and 62
abbrev pub pointer : ℕ → ℕ → ℕ
pointer a b = (a + b) % 2 ^ 32 + field b 30 2 * 2 ^ 61

-- how many of the bits of a field from bit `first` on there are in a word
abbrev pub clip : ℕ → ℕ → ℕ
clip first bits = min bits (64 - first)

-- shifts by any count: from 64 on nothing is left, or of a signed word its sign
abbrev pub left : ℕ → ℕ → ℕ
left x n = cond (nat_lt n 64) (word (x * 2 ^ n)) 0

abbrev pub right : ℕ → ℕ → ℕ
right x n = cond (nat_lt n 64) (x / 2 ^ n) 0

abbrev pub sign : ℕ → ℕ
sign x = cond (nat_lt x (2 ^ 63)) 0 (2 ^ 64 - 1)

-- the signed reading divided by 2 ^ n and rounded down
abbrev pub right_signed : ℕ → ℕ → ℕ
right_signed x n = cond (nat_lt n 64) (word_of (shr_z (signed 64 x) (2 ^ n))) (sign x)

-- the low word of the 128 bits of two words, shifted right
abbrev pub pair : ℕ → ℕ → ℕ → ℕ
pair high low n = word ((high * 2 ^ 64 + low) / 2 ^ n)

-- y with the field of some bits from bit `first` on replaced by the low bits of x: the bits above it, the field, the bits below
abbrev pub deposit : ℕ → ℕ → ℕ → ℕ → ℕ
deposit x y first bits = y / 2 ^ (first + bits) * 2 ^ (first + bits) + x % 2 ^ bits * 2 ^ first + y % 2 ^ first

-- how many of the n low bits of x are set
unfoldable pub set_bits : ℕ → ℕ → ℕ
set_bits zero x = 0
set_bits (suc n) x = bit n x + set_bits n x
