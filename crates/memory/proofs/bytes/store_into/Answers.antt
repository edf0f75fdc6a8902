use Rattle.std.proofs.Common.{sym, ◌∙◌, arith}
use Rattle.std.proofs.lemmas.Bool.{cond-true, cond-false}
use Rattle.memory.specs.Access.{bytes_of}
use Rattle.memory.proofs.Stores.{laid-put}
use Rattle.memory.proofs.bytes.store_into.Goals as goal

pub returns-then-not-covers : goal.returns-then-not-covers
returns-then-not-covers c =
    let e = sym c.covers.ensures.value ∙ c.if-not-covers.true in
    record { answer = sym (cond-false _ _ _ e); after = λ rights. sym (cond-false _ _ _ e) }

pub returns : goal.returns
returns c =
    let e = sym c.covers.ensures.value ∙ c.if-not-covers.false in
    let i = c.covers.ensures.ends c.if-not-covers.false in
    record { answer = sym (cond-true _ _ _ e); after = λ rights. laid-put rights c.args.base c.args.bytes.now _ c.args.access.address (bytes_of c.args.access.size) c.args.value (omega arith) i.0 i.1 i.2 c.put_at.ensures ∙ sym (cond-true _ _ _ e) }
