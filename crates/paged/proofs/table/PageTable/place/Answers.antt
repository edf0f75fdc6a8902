use Rattle.std.proofs.Common.{◌≡◌, ◌-◌, ◌%◌, get_or, ap, ◌∙◌, arith}
use Rattle.paged.specs.Hints.{some_hint}
use Rattle.paged.specs.Pages.{place_for}
use Rattle.paged.proofs.Places.{place_along}
use Rattle.paged.proofs.table.PageTable.place.Goals as goal

pub returns-then-hint-address-clause-place : goal.returns-then-hint-address-clause-place
returns-then-hint-address-clause-place c =
    let hint = get_or c.self.inside.hints c.hint_index.result some_hint in
    let is : hint.base ≡ c.args.address - c.args.address % 4096 = c.if-hint-address.true in
    let even : hint.base % 4096 ≡ 0 = omega arith in
    place_along c.self.inside.pages.items c.self.invariant.separate c.args.address hint.base (c.args.address % 4096) hint.place even (omega arith) (omega arith) (c.self.invariant.right c.hint_index.result c.hint_index.ensures even)
    ∙ ap (λ pages. place_for pages c.args.address) c.self.view_is
