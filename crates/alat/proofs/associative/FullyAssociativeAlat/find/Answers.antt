use Rattle.std.proofs.Common.{eqb, ◌∙◌, rules, tests}
use Rattle.std.proofs.lemmas.Iterator.{YieldsList-from_slice}
use Rattle.std.proofs.lemmas.Iterator.Search.{find_from_yields_List}
use Rattle.alat.proofs.associative.FullyAssociativeAlat.find.Goals as goal

pub returns : goal.returns
returns c =
    c.copied.ensures
    ∙ find_from_yields_List (λ e. eqb e.cell c.args.cell) _ _ _ c.find.ensures.ran (YieldsList-from_slice c.args.self.now.entries.items cc) (λ x b q k. search (rules, tests))
