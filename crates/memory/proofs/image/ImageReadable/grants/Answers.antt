use Rattle.std.proofs.Common.{sym, ◌∙◌}
use Rattle.memory.proofs.Ranges.{some_bytes}
use Rattle.memory.proofs.Laid.{granted-covered, granted-not}
use Rattle.memory.proofs.image.ImageReadable.grants.Goals as goal

pub returns-then-has : goal.returns-then-has
returns-then-has c =
    let s = c.args.self.now in
    granted-covered _ s.base s.bytes.now c.args.right c.args.access.address _ _ (some_bytes c.args.access.size) (sym c.has.ensures ∙ c.if-has.true) c.covers.ensures.value

pub returns-else-has : goal.returns-else-has
returns-else-has c =
    let s = c.args.self.now in
    c.if-has.false ∙ granted-not _ s.base s.bytes.now c.args.right c.args.access.address _ (some_bytes c.args.access.size) (sym c.has.ensures ∙ c.if-has.false)
