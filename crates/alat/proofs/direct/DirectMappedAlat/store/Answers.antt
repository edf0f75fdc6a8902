use Rattle.std.proofs.Common.{◌≡◌, Bool, not, get_or, set, None, sym, ap, ◌∙◌, subst, ⊎_elim, arith, rules, tests}
use Rattle.std.proofs.lemmas.Bool.{cases_eq}
use Rattle.std.proofs.lemmas.Grind.{common_steps}
use Rattle.std.proofs.lemmas.List.{get_or-set_same, get_or-set_other}
use Rattle.std.proofs.lemmas.Map.Entries.{option_filter}
use Rattle.alat.specs.declared.entry.Entry.{Entry}
use Rattle.alat.specs.Places.{listed}
use Rattle.alat.specs.Promises.{KeepsApart}
use Rattle.alat.specs.Table.{shares_a_byte, untouched}
use Rattle.alat.proofs.Keeping.{keeps-apart}
use Rattle.alat.proofs.Placing.{Filtered, filtered-in_place, filtered-listed}
use Rattle.alat.proofs.direct.DirectMappedAlat.store.Goals as goal

pub loop-place-preserved : goal.loop-place-preserved
loop-place-preserved c =
    let p : Entry → Bool = λ e. not (shares_a_byte e c.args.access) in
    let left : c.filter.result ≡ option_filter p (get_or c.loop-place.place-items c.loop-place.place-index None) = search (rules, tests) in
    let i = c.loop-place.place-index in
    record {
      done = λ k l. ⊎_elim
          (λ q. subst (λ j. get_or (set c.loop-place.place-items i c.filter.result) j None ≡ option_filter p (get_or c.args.self.now.places j None)) (sym q)
          (get_or-set_same c.loop-place.place-items i _ None (omega arith) ∙ left ∙ ap (option_filter p) (c.loop-place.invariant.rest i (omega arith))))
          (λ ne. get_or-set_other c.loop-place.place-items i k _ None ne ∙ c.loop-place.invariant.done k (omega arith)) (cases_eq k i);
      rest = λ k l. grind (arith, common_steps);
      long = grind (arith, common_steps);
    }

pub invariant_of-self : goal.invariant_of-self
invariant_of-self c =
    let p : Entry → Bool = λ e. not (shares_a_byte e c.args.access) in
    let all : Filtered p c.args.self.now.places c.loop-place.place-items = λ k. grind (arith, common_steps) in
    record { in_place = filtered-in_place p _ _ all c.args.self.now.in_place }

pub returns : goal.returns
returns c =
    let ps = c.args.self.now.places in
    let p : Entry → Bool = λ e. not (shares_a_byte e c.args.access) in
    let all : Filtered p ps c.loop-place.place-items = λ k. grind (arith, common_steps) in
    let after : listed c.loop-place.place-items ≡ untouched c.args.access (listed ps) = filtered-listed p ps _ all in
    record { after = after; kept = subst (KeepsApart (listed ps) c.args.access) (sym after) (keeps-apart (listed ps) c.args.access) }
