use Rattle.std.proofs.Common.{◌≡◌, eqb, get_or, None, ◌∙◌, rules, tests}
use Rattle.std.proofs.lemmas.Map.Entries.{option_filter}
use Rattle.alat.proofs.Placing.{find-listed}
use Rattle.alat.proofs.direct.DirectMappedAlat.find.Goals as goal

pub returns : goal.returns
returns c =
    let ps = c.args.self.now.places in
    let n = c.place_of.result in
    let left : c.filter.result ≡ option_filter (λ e. eqb e.cell c.args.cell) (get_or ps n None) = search (rules, tests) in
    left ∙ find-listed ps c.args.cell n c.args.self.now.in_place c.place_of.ensures.value
