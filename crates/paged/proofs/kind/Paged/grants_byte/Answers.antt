use Rattle.std.proofs.Common.{ℕ, ◌+◌, ◌^◌, ◌≤◌, Bool, sym, ap, ◌∙◌, arith}
use Rattle.memory.specs.Access.{has}
use Rattle.memory.proofs.Top.{has-nowhere}
use Rattle.paged.specs.Kind.{meaning_of}
use Rattle.paged.specs.Pages.{paged-bounded}
use Rattle.paged.proofs.Bytewise.{granted-one}
use Rattle.paged.proofs.kind.Paged.grants_byte.Goals as goal

pub returns-in_default : goal.returns-in_default
returns-in_default c =
    let s = c.args.self.now in
    let past : 2 ^ 64 ≤ c.args.access.address + c.args.i = omega (arith, c.in_default.ensures) in
    sym (ap (λ l. has l.rights c.args.right) (paged-bounded s.table.now s.bytes.now _ past) ∙ has-nowhere c.args.right)

pub returns : goal.returns
returns c =
    let m = meaning_of c.args.self.now in
    let test : ℕ → Bool = λ x. has (m x).rights c.args.right in
    c.grants_in_page.ensures ∙ granted-one m c.args.right _ ∙ ap test c.in-Some.ensures.1
