use Rattle.std.proofs.Common.{refl}
use Rattle.memory.specs.Kinds.{all_rights}
use Rattle.memory.proofs.Stores.{laid-answer, laid-stored}
use Rattle.memory.proofs.flat.FlatWritable.store.Goals as goal

pub returns : goal.returns
returns c =
    let s = c.args.self.now in
    record {
      answer = laid-answer s.base s.bytes.now c.args.access.address c.args.access.size c.args.value all_rights refl _ c.store_into.ensures.answer;
      after = laid-stored s.base s.bytes.now c.args.access.address c.args.access.size c.args.value all_rights refl _ (c.store_into.ensures.after all_rights);
    }
