use Rattle.memory.proofs.Ranges.{some_bytes}
use Rattle.memory.proofs.Laid.{granted-covered, all-rights}
use Rattle.memory.proofs.flat.FlatReadable.grants.Goals as goal

pub returns : goal.returns
returns c =
    let s = c.args.self.now in
    granted-covered _ s.base s.bytes.now c.args._right c.args.access.address _ _ (some_bytes c.args.access.size) (all-rights c.args._right) c.covers.ensures.value
