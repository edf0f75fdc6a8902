use Rattle.std.proofs.Common.{◌≡◌, take, arith}
use Rattle.std.proofs.lemmas.List.{take_all}
use Rattle.listing.proofs.whole.list_image.Goals as goal

pub returns-else-bytes-gt-LIMIT : goal.returns-else-bytes-gt-LIMIT
returns-else-bytes-gt-LIMIT c =
    let e : take 65536 c.args.bytes.now ≡ c.args.bytes.now = take_all 65536 _ (omega arith) in
    rw e c.list_all-else-bytes-gt-LIMIT.ensures

pub returns-then-bytes-gt-LIMIT : goal.returns-then-bytes-gt-LIMIT
returns-then-bytes-gt-LIMIT c = c.list_all.ensures
