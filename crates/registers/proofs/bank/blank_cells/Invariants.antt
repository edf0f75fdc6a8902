use Rattle.std.proofs.Common.{◌≡◌, ℕ, ◌<◌, get_or}
use Rattle.registers.proofs.bank.blank_cells.Given as goal

-- the cells so far are blank
abbrev pub invariant-loop-cell : goal.invariant-loop-cell
invariant-loop-cell g l = (k : ℕ) → k < l.cell-index → get_or l.cell-items k g.K.BlankKind.blank ≡ g.K.BlankKind.blank
