use Rattle.std.proofs.Common.{refl}
use Rattle.memory.proofs.flat.FlatReadable.load.Goals as goal

pub returns : goal.returns
returns c = c.load_from.ensures _ refl
