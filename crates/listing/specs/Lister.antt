-- What the lister answers, and what it leaves in the buffer.
use Rattle.std.specs.Prelude.{ℕ, ◌*◌, ◌/◌, ◌%◌, cond, ◌&&◌, List, ◌++◌, length, take, drop, Ok, Err, Result, ◌==◌, nat_lt}
use Rattle.std.specs.List.{range_with_len, flat_map}
use Rattle.memory.specs.declared.access.Right.TheVariants.{Read}
use Rattle.memory.specs.Meaning.{Meaning, granted}
use Rattle.memory.specs.Kinds.{image}
use Rattle.bundle.specs.Fetching.{bundle_at}
use Rattle.listing.specs.declared.refusal.Refusal.{Refusal}
use Rattle.listing.specs.declared.refusal.Refusal.TheVariants.{ShortBuffer, NotReadable}
use Rattle.listing.specs.Text.{bundle_lines}

-- with a buffer of n bytes the lines are written if they have room, the address is a multiple of 16 and all 16 bytes can be read
abbrev pub answered : Meaning → ℕ → ℕ → Result (Unit {0}) Refusal
answered m address n =
    cond (nat_lt n 99) (Err ShortBuffer) (cond (address % 16 == 0 && granted m Read address 16) (Ok tt) (Err NotReadable))

-- what an answer leaves in the buffer: the lines and what stood behind them, or after a refusal all that stood there
abbrev pub written : Result (Unit {0}) Refusal → List ℕ → List ℕ → List ℕ
written (Ok _) lines buffer = lines ++ drop 99 buffer
written (Err _) lines buffer = buffer

abbrev pub after : Meaning → ℕ → List ℕ → List ℕ
after m address buffer = written (answered m address (length buffer)) (bundle_lines address (bundle_at m address)) buffer

-- the lines of the first n bundles of an image at 0
abbrev pub first_lines : List ℕ → ℕ → List ℕ
first_lines bytes n = flat_map (λ k. bundle_lines (16 * k) (bundle_at (image 0 bytes) (16 * k))) (range_with_len 0 n)

-- the lines of every full bundle of an image at 0, of which only the first 65,536 bytes count
abbrev pub image_lines : List ℕ → List ℕ
image_lines bytes = first_lines (take 65536 bytes) (length (take 65536 bytes) / 16)
