use Rattle.flash.specs.Cells.{tears, in_order}
use Rattle.flash.proofs.byte_steps.Goals as goal

pub returns-clause-tears : goal.returns-clause-tears
returns-clause-tears c = tears

pub returns-clause-order : goal.returns-clause-order
returns-clause-order c = in_order
