use Rattle.std.proofs.Common.{◌≡◌, ◌+◌, ◌^◌, ◌≤◌, false, arith, rules}
use Rattle.memory.specs.declared.access.Right.TheVariants.{Read}
use Rattle.memory.specs.Meaning.{granted}
use Rattle.memory.proofs.Top.{granted-past}
use Rattle.bundle.proofs.split.Bundle.fetch.Goals as goal

pub returns-in_err-address : goal.returns-in_err-address
returns-in_err-address g c =
    let none = c.in_err-address.ensures.ok_part in
    let past : 2 ^ 64 ≤ c.args.address + 8 = omega (arith, rw none at c.checked_add.ensures) in
    let m = g.M.Readable.meaning c.args.memory.now in
    let e : granted m Read c.args.address 16 ≡ false = granted-past m (g.M.Readable.bounded c.args.memory.now) Read c.args.address 16 (omega arith) (omega arith) in
    search rules
