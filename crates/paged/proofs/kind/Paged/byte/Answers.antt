use Rattle.std.proofs.Common.{◌≡◌, get_or, sym, ap, ◌∙◌, arith}
use Rattle.std.specs.Option.{unwrap_or}
use Rattle.paged.proofs.Accesses.{byte-located}
use Rattle.paged.proofs.kind.Paged.byte.Goals as goal

pub returns : goal.returns
returns c =
    let s = c.args.self.now in
    let read : c.unwrap_or.result ≡ get_or s.bytes.now c.in-Some.place.offset 0 = c.unwrap_or.ensures ∙ ap (λ o. unwrap_or o 0) c.copied.ensures ∙ c.get.ensures.lookup.4 (omega arith) 0 in
    read ∙ byte-located s.table.now s.bytes.now c.args.address c.in-Some.place (sym c.place.ensures.place ∙ c.in-Some.is) (omega arith)
