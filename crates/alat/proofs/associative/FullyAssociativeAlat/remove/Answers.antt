use Rattle.std.proofs.Common.{◌≡◌, sym, subst, rules}
use Rattle.arrayvec.proofs.ArrayVecLemmas.{filter-from_retain}
use Rattle.alat.specs.Promises.{KeepsOthers}
use Rattle.alat.specs.Table.{others}
use Rattle.alat.proofs.Keeping.{keeps-others, unique-retained}
use Rattle.alat.proofs.associative.FullyAssociativeAlat.remove.Goals as goal

pub invariant_of-self-clause-one_each : goal.invariant_of-self-clause-one_each
invariant_of-self-clause-one_each c = unique-retained _ (λ f x b g y called. search rules) _ _ _ c.retain.ensures.filtered c.args.self.now.one_each

pub returns : goal.returns
returns c =
    let es = c.args.self.now.entries.items in
    let after : c.retain.new.self.items ≡ others c.args.cell es = filter-from_retain _ _ _ (λ x b f y called. search rules) _ _ c.retain.ensures.filtered in
    record { after = after; kept = subst (KeepsOthers es c.args.cell) (sym after) (keeps-others es c.args.cell) }
