use Rattle.std.proofs.Common.{sym, ◌∙◌}
use Rattle.memory.specs.Access.{bytes_of}
use Rattle.memory.proofs.Laid.{loaded-covered, loaded-not, laid_word}
use Rattle.memory.proofs.bytes.load_from.Goals as goal

pub returns-then-not-covers : goal.returns-then-not-covers
returns-then-not-covers c rights h =
    loaded-not rights c.args.base c.args.bytes.now c.args.access.address c.args.access.size h (sym c.if-not-covers.true ∙ c.covers.ensures.value)

pub returns : goal.returns
returns c rights h =
    let i = c.covers.ensures.ends c.if-not-covers.false in
    let w = laid_word rights c.args.base c.args.bytes.now c.args.access.address (bytes_of c.args.access.size) i.0 i.1 i.2 in
    loaded-covered rights c.args.base c.args.bytes.now c.args.access.address c.args.access.size _ h (sym c.if-not-covers.false ∙ c.covers.ensures.value) (c.word_at.ensures ∙ sym w)
