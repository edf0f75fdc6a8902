use Rattle.std.proofs.Common.{ap, arith}
use Rattle.memory.specs.Access.{bytes_of}
use Rattle.memory.proofs.Puts.{put_low}
use Rattle.memory.proofs.bytes.put_at.Goals as goal

pub returns-in-One : goal.returns-in-One
returns-in-One c =
    put_low c.args.bytes.now _ _ c.args.at 1 _ _ c.args.value c.requires (omega arith) (omega arith) (ap bytes_of c.in-One.is) c.to_le_bytes-all.ensures c.copy_from_slice.ensures.after

pub returns-in-Two : goal.returns-in-Two
returns-in-Two c =
    put_low c.args.bytes.now _ _ c.args.at 2 _ _ c.args.value c.requires (omega arith) (omega arith) (ap bytes_of c.in-Two.is) c.to_le_bytes-all.ensures c.copy_from_slice-in-Two.ensures.after

pub returns-in-Four : goal.returns-in-Four
returns-in-Four c =
    put_low c.args.bytes.now _ _ c.args.at 4 _ _ c.args.value c.requires (omega arith) (omega arith) (ap bytes_of c.in-Four.is) c.to_le_bytes-all.ensures c.copy_from_slice-in-Four.ensures.after

pub returns-in-Eight : goal.returns-in-Eight
returns-in-Eight c =
    put_low c.args.bytes.now _ _ c.args.at 8 _ _ c.args.value c.requires (omega arith) (omega arith) (ap bytes_of c.in-Eight.is) c.to_le_bytes-all.ensures c.copy_from_slice-in-Eight.ensures.after
