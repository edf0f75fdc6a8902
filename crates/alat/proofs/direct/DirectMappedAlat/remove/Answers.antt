use Rattle.std.proofs.Common.{◌≡◌, eqb, not, get_or, set, None, sym, ap, ◌∙◌, subst, arith, rules, tests}
use Rattle.std.proofs.lemmas.Map.Entries.{option_filter}
use Rattle.alat.specs.Places.{listed}
use Rattle.alat.specs.Promises.{KeepsOthers}
use Rattle.alat.specs.Table.{others}
use Rattle.alat.proofs.Keeping.{keeps-others}
use Rattle.alat.proofs.Placing.{filtered-at, filtered-listed}
use Rattle.alat.proofs.direct.DirectMappedAlat.remove.Goals as goal

pub returns : goal.returns
returns c =
    let ps = c.args.self.now.places in
    let cell = c.args.cell in
    let n = c.place_of.result in
    let left : c.filter.result ≡ option_filter (λ e. not (eqb e.cell cell)) (get_or ps n None) = search (rules, tests) in
    let after : listed (set ps n c.filter.result) ≡ others cell (listed ps) =
    ap (λ r. listed (set ps n r)) left ∙ filtered-listed _ ps _ (filtered-at ps cell n c.args.self.now.in_place c.place_of.ensures.value (omega arith)) in
    record { after = after; kept = subst (KeepsOthers (listed ps) cell) (sym after) (keeps-others (listed ps) cell) }
