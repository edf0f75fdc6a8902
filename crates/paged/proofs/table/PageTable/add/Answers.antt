use Rattle.std.proofs.Common.{◌≡◌, false, is_some, sym, ap, ◌∙◌, arith}
use Rattle.paged.specs.Pages.{index_of, place_for}
use Rattle.paged.proofs.Mapped.{kept-more}
use Rattle.paged.proofs.Places.{unplaced}
use Rattle.paged.proofs.table.PageTable.add.Goals as goal

pub invariant_of-self : goal.invariant_of-self
invariant_of-self c =
    let pages = c.self.inside.pages.items in
    let none : is_some (index_of pages c.args.page.base) ≡ false = unplaced pages c.args.page.base c.place.result (c.place.ensures.place ∙ ap (λ ps. place_for ps c.args.page.base) (sym c.self.view_is)) (sym c.is_some.ensures ∙ c.if-is_some.false) in
    rw c.push.ensures.items
    (kept-more pages c.args.page c.self.inside.hints c.hint_index.result c.len-count.result c.len-count.ensures.value c.self.invariant c.if-page-ne0.false (omega arith) none c.hint_index.ensures (omega arith))
