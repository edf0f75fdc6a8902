use Rattle.std.proofs.Common.{◌≡◌, sym, ap, ◌∙◌}
use Rattle.std.specs.Option.{option_map}
use Rattle.memory.specs.declared.access.Access.{Access}
use Rattle.paged.proofs.Accesses.{located, page-grants, unlocated}
use Rattle.paged.proofs.kind.Paged.grants_in_page.Goals as goal

pub returns-in_default : goal.returns-in_default
returns-in_default c =
    let s = c.args.self.now in
    unlocated s.table.now c.in_bytes.ensures.separate s.bytes.now c.args.access.address c.args.access.size c.args.right c.requires (sym (ap (option_map (λ (b : Access). b.address)) c.in_default.is) ∙ c.in_bytes.ensures.place)

pub returns : goal.returns
returns c =
    let s = c.args.self.now in
    let behind : Access = c.in-Some.behind in
    let l = located s.table.now c.args.right c.args.access.address behind.address (sym (ap (option_map (λ (b : Access). b.address)) c.in-Some.is) ∙ c.in_bytes.ensures.place) in
    let size : behind.size ≡ c.args.access.size = c.in_bytes.ensures.size behind c.in-Some.is in
    page-grants s.table.now c.in_bytes.ensures.separate s.bytes.now c.args.access.address c.args.access.size _ l.1 c.requires c.args.right _ l.2 (rw size at c.covers.ensures.value)
