use Rattle.std.proofs.Common.{◌≡◌, sym, subst, rules}
use Rattle.arrayvec.proofs.ArrayVecLemmas.{filter-from_retain}
use Rattle.alat.specs.Promises.{KeepsApart}
use Rattle.alat.specs.Table.{untouched}
use Rattle.alat.proofs.Keeping.{keeps-apart, unique-retained}
use Rattle.alat.proofs.associative.FullyAssociativeAlat.store.Goals as goal

pub invariant_of-self-clause-one_each : goal.invariant_of-self-clause-one_each
invariant_of-self-clause-one_each c = unique-retained _ (λ f x b g y called. search rules) _ _ _ c.retain.ensures.filtered c.args.self.now.one_each

pub returns : goal.returns
returns c =
    let es = c.args.self.now.entries.items in
    let after : c.retain.new.self.items ≡ untouched c.args.access es = filter-from_retain _ _ _ (λ x b f y called. search rules) _ _ c.retain.ensures.filtered in
    record { after = after; kept = subst (KeepsApart es c.args.access) (sym after) (keeps-apart es c.args.access) }
