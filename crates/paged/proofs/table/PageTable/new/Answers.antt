use Rattle.paged.proofs.Mapped.{kept-none}
use Rattle.paged.proofs.table.PageTable.new.Goals as goal

pub invariant_of-result : goal.invariant_of-result
invariant_of-result c = kept-none _ c.new.ensures
