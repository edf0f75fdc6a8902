use Rattle.std.proofs.Common.{rules}
use Rattle.registers.proofs.Distinct.{cell-alone}
use Rattle.registers.proofs.window.Window.name.Goals as goal

pub returns-then-register-fixed-2-clause-alone : goal.returns-then-register-fixed-2-clause-alone
returns-then-register-fixed-2-clause-alone g c = λ k s e. cell-alone c.args.self g.K.Kind.FIXED c.args.register k _ s e (search rules)
