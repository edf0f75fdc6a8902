use Rattle.std.proofs.Common.{◌≡◌, ap, ◌∙◌, rules}
use Rattle.memory.specs.Access.{bytes_of}
use Rattle.memory.specs.Meaning.{word}
use Rattle.memory.proofs.Words.{word-two, word-four, word-eight}
use Rattle.memory.proofs.bytes.word_at.Goals as goal

pub returns-in-One : goal.returns-in-One
unfolding word
returns-in-One c = search rules

pub returns-in-Two : goal.returns-in-Two
returns-in-Two c =
    let size : bytes_of c.args.size ≡ 2 = ap bytes_of c.in-Two.is in
    rw size (c.from_le_bytes.ensures ∙ word-two c.args.bytes.now _ c.args.at c.bytes_at.ensures)

pub returns-in-Four : goal.returns-in-Four
returns-in-Four c =
    let size : bytes_of c.args.size ≡ 4 = ap bytes_of c.in-Four.is in
    rw size (c.from_le_bytes-in-Four.ensures ∙ word-four c.args.bytes.now _ c.args.at c.bytes_at-in-Four.ensures)

pub returns-in-Eight : goal.returns-in-Eight
returns-in-Eight c =
    let size : bytes_of c.args.size ≡ 8 = ap bytes_of c.in-Eight.is in
    rw size (c.from_le_bytes-in-Eight.ensures ∙ word-eight c.args.bytes.now _ c.args.at c.bytes_at-in-Eight.ensures)
