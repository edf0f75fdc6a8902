use Rattle.std.proofs.Common.{◌≡◌, ◌≤◌, length, position, Some, sym, ap, ◌∙◌, subst, rules, tests, arith}
use Rattle.std.proofs.lemmas.Iterator.{YieldsList-from_slice}
use Rattle.std.proofs.lemmas.Iterator.Search.{position_from_yields_List}
use Rattle.std.proofs.lemmas.List.Quantifiers.{position-Some}
use Rattle.arrayvec.proofs.ArrayVecLemmas.{items-with_items}
use Rattle.alat.specs.Kinds.{fully_associative_lawful}
use Rattle.alat.specs.Promises.{Entered, KeepsIfRoom, LosesOldest}
use Rattle.alat.specs.Rule.{Enter}
use Rattle.alat.specs.Table.{OneEach}
use Rattle.alat.proofs.Ageing.{associative-entered, associative-keeps, associative-loses}
use Rattle.alat.proofs.Entering.{entered, of_cell, renewed, renewed-long}
use Rattle.alat.proofs.associative.FullyAssociativeAlat.enter.Goals as goal

-- no entry is of the load's cell

pub invariant_of-self : goal.invariant_of-self
invariant_of-self c =
    let es = c.args.self.now.entries.items in
    let e = c.args.load in
    let found = sym (position_from_yields_List (of_cell e.cell) _ _ _ c.position.ensures.ran (YieldsList-from_slice es cc) (λ x b q called. search (rules, tests))) in
    let after = entered e es _ _ (found ∙ c.in_default.is) c.truncate.ensures.items c.insert.ensures.items in
    record { within = omega (arith, ap length after); one_each = subst OneEach (sym after) (fully_associative_lawful.unique es (Enter e) c.args.self.now.one_each) }

pub returns-in_default : goal.returns-in_default
returns-in_default c =
    let es = c.args.self.now.entries.items in
    let e = c.args.load in
    let found = sym (position_from_yields_List (of_cell e.cell) _ _ _ c.position.ensures.ran (YieldsList-from_slice es cc) (λ x b q called. search (rules, tests))) in
    let after = entered e es _ _ (found ∙ c.in_default.is) c.truncate.ensures.items c.insert.ensures.items in
    let few : length es ≤ 16 = c.args.self.now.within in
    record {
      after = after;
      held = subst (Entered e) (sym after) (associative-entered es e);
      kept = subst (KeepsIfRoom es e) (sym after) (associative-keeps es e few);
      lost = subst (LosesOldest es e) (sym after) (associative-loses es e few);
    }

-- an entry is

pub invariant_of-self-2 : goal.invariant_of-self-2
invariant_of-self-2 c =
    let es = c.args.self.now.entries.items in
    let e = c.args.load in
    let i = c.in-Some.at in
    let found : position (of_cell e.cell) es ≡ Some i = sym (position_from_yields_List (of_cell e.cell) _ _ _ c.position.ensures.ran (YieldsList-from_slice es cc) (λ x b q called. search (rules, tests))) ∙ c.in-Some.is in
    let inside = (position-Some (of_cell e.cell) es i e found).0 in
    let value = rw c.deref_mut.ensures.value at c.renew.ensures in
    let long = ap length value ∙ renewed-long e es i inside in
    let kept = items-with_items c.args.self.now.entries c.renew.new.entries long in
    let after = kept ∙ value ∙ renewed e es i c.args.self.now.within c.args.self.now.one_each found in
    let within : length es ≤ 16 = c.args.self.now.within in
    record { within = omega (arith, ap length kept ∙ long); one_each = subst OneEach (sym after) (fully_associative_lawful.unique es (Enter e) c.args.self.now.one_each) }

pub returns : goal.returns
returns c =
    let es = c.args.self.now.entries.items in
    let e = c.args.load in
    let i = c.in-Some.at in
    let found : position (of_cell e.cell) es ≡ Some i = sym (position_from_yields_List (of_cell e.cell) _ _ _ c.position.ensures.ran (YieldsList-from_slice es cc) (λ x b q called. search (rules, tests))) ∙ c.in-Some.is in
    let inside = (position-Some (of_cell e.cell) es i e found).0 in
    let value = rw c.deref_mut.ensures.value at c.renew.ensures in
    let long = ap length value ∙ renewed-long e es i inside in
    let kept = items-with_items c.args.self.now.entries c.renew.new.entries long in
    let after = kept ∙ value ∙ renewed e es i c.args.self.now.within c.args.self.now.one_each found in
    let few : length es ≤ 16 = c.args.self.now.within in
    record {
      after = after;
      held = subst (Entered e) (sym after) (associative-entered es e);
      kept = subst (KeepsIfRoom es e) (sym after) (associative-keeps es e few);
      lost = subst (LosesOldest es e) (sym after) (associative-loses es e few);
    }
