use Rattle.std.proofs.Common.{◌≡◌, ◌-◌, length, arith, rules}
use Rattle.registers.proofs.Fill.{get_or-part, whole-filled}
use Rattle.registers.proofs.bank.blank_cells.Goals as goal

pub returns-clause-each : goal.returns-clause-each
returns-clause-each g c =
    let l : length c.loop-cell.cell-items ≡ c.min-end.result - c.min-start.result = search rules in
    get_or-part c.args.from g.K.BlankKind.blank c.args.cells.now c.args.count c.min-start.result c.min-end.result c.loop-cell.cell-items (search rules) (search rules) l
    (λ k h. c.loop-cell.invariant k (omega arith))

pub returns-clause-whole : goal.returns-clause-whole
returns-clause-whole g c =
    whole-filled c.args.from g.K.BlankKind.blank c.args.cells.now c.args.count _ (search rules) (returns-clause-each g c)
