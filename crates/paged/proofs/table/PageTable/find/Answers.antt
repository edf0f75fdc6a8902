use Rattle.std.proofs.Common.{◌-◌, ◌%◌, sym, ◌∙◌, rules, tests, arith}
use Rattle.std.proofs.lemmas.Iterator.{YieldsList-from_slice}
use Rattle.std.proofs.lemmas.Iterator.Search.{position_from_yields_List}
use Rattle.paged.specs.Pages.{Separate}
use Rattle.paged.proofs.Places.{at_base, index-position}
use Rattle.paged.proofs.table.PageTable.find.Goals as goal

pub returns-clause-place : goal.returns-clause-place
returns-clause-place c =
    let kept : Separate c.args.self.now = rw c.self.view_is at c.self.invariant.separate in
    position_from_yields_List (at_base (c.args.address - c.args.address % 4096)) _ _ _ c.position.ensures.ran (YieldsList-from_slice c.args.self.now cc) (λ page b q called. search (rules, tests))
    ∙ sym (index-position c.args.self.now kept c.args.address (omega arith))
