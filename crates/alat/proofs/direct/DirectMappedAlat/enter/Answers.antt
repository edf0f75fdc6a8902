use Rattle.std.proofs.Common.{◌≡◌, set, Some, sym, ap, ◌∙◌, subst, arith}
use Rattle.alat.specs.Kinds.{direct_mapped}
use Rattle.alat.specs.Places.{listed}
use Rattle.alat.specs.Promises.{Entered, KeepsOtherPlaces}
use Rattle.alat.specs.Rule.{Enter}
use Rattle.alat.proofs.Placing.{enter-listed, direct-entered, direct-keeps}
use Rattle.alat.proofs.direct.DirectMappedAlat.enter.Goals as goal

pub returns : goal.returns
returns c =
    let ps = c.args.self.now.places in
    let e = c.args.load in
    let es = listed ps in
    let after : listed (set ps c.place_of.result (Some e)) ≡ direct_mapped es (Enter e) =
    ap (λ n. listed (set ps n (Some e))) c.place_of.ensures.value ∙ enter-listed ps e c.args.self.now.in_place (omega arith) in
    record {
      after = after;
      held = subst (Entered e) (sym after) (direct-entered es e);
      kept = subst (KeepsOtherPlaces es e) (sym after) (direct-keeps es e);
    }
