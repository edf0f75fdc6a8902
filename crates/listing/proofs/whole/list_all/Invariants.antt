use Rattle.std.proofs.Common.{◌≡◌, length, vec_items}
use Rattle.listing.specs.Lister.{first_lines}
use Rattle.listing.proofs.whole.list_all.Given as goal

-- the bundles so far are listed
abbrev pub invariant-loop-k : goal.invariant-loop-k
invariant-loop-k l = (vec_items l.text ≡ first_lines l.bytes l.k) × (length l.lines ≡ 99)
