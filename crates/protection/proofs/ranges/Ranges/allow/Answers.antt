use Rattle.std.proofs.Common.{[], ◌∷◌, sym, ◌∙◌, rules, tests}
use Rattle.std.proofs.lemmas.Iterator.{YieldsList-from_slice}
use Rattle.std.proofs.lemmas.Iterator.Search.{all_from_yields_List}
use Rattle.memory.specs.Access.{bytes_of}
use Rattle.protection.specs.declared.range.Range.{Range}
use Rattle.protection.specs.Taking.{allowed}
use Rattle.protection.proofs.Allowing.{allowed-each}
use Rattle.protection.proofs.ranges.Ranges.allow.Goals as goal

pub returns : goal.returns
returns c =
    let ranges = c.args.self.now in
    let allows = λ (range : Range). allowed (range ∷ []) c.args.right c.args.access.address (bytes_of c.args.access.size) in
    all_from_yields_List allows _ _ _ c.all.ensures.ran (YieldsList-from_slice ranges cc) (λ range b q called. search (rules, tests))
    ∙ sym (allowed-each ranges c.args.right c.args.access.address (bytes_of c.args.access.size))
