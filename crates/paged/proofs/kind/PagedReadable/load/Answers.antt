use Rattle.std.proofs.Common.{◌≡◌, Some, None, Err, sym, ap, ◌∙◌, rules}
use Rattle.std.specs.Option.{option_map}
use Rattle.std.specs.Result.{result_or}
use Rattle.std.proofs.lemmas.Bool.{ltb-false}
use Rattle.memory.specs.declared.access.Access.{Access}
use Rattle.memory.specs.declared.access.Right.TheVariants.{Read}
use Rattle.memory.specs.Kinds.{laid}
use Rattle.memory.specs.Meaning.{loaded}
use Rattle.memory.proofs.Loads.{load-refused}
use Rattle.paged.specs.Kind.{meaning_of}
use Rattle.paged.proofs.Accesses.{located, page-loaded, unlocated}
use Rattle.paged.proofs.kind.PagedReadable.load.Goals as goal

pub returns-in_err-behind : goal.returns-in_err-behind
returns-in_err-behind c =
    let s = c.args.self.now in
    let none : c.in_bytes.result ≡ None = c.in_err-behind.ensures.ok_part in
    let near = ltb-false _ _ (sym c.crosses.ensures ∙ c.if-crosses.false) in
    let r : c.from_residual.result ≡ Err (record { address = c.args.access.address }) = search rules in
    r ∙ load-refused (meaning_of s) c.args.access.address c.args.access.size (unlocated s.table.now c.in_bytes.ensures.separate s.bytes.now c.args.access.address c.args.access.size Read near (sym (ap (option_map (λ (b : Access). b.address)) none) ∙ c.in_bytes.ensures.place))

pub returns : goal.returns
returns c =
    let s = c.args.self.now in
    let behind : Access = c.in_ok-behind.behind in
    let is : c.in_bytes.result ≡ Some behind = c.in_ok-behind.ensures.ok_part in
    let l = located s.table.now Read c.args.access.address behind.address (sym (ap (option_map (λ (b : Access). b.address)) is) ∙ c.in_bytes.ensures.place) in
    let near = ltb-false _ _ (sym c.crosses.ensures ∙ c.if-crosses.false) in
    let load = c.load_from.ensures l.0 l.2 ∙ ap (loaded (laid l.0 0 s.bytes.now) behind.address) (c.in_bytes.ensures.size behind is) in
    c.or.ensures ∙ ap (λ r. result_or r (Err (record { address = c.args.access.address }))) load ∙ sym (page-loaded s.table.now c.in_bytes.ensures.separate s.bytes.now c.args.access.address c.args.access.size _ l.1 near)
