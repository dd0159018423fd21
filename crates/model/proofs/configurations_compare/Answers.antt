use Rattle.model.proofs.Tables.{same_decides}
use Rattle.model.proofs.configurations_compare.Goals as goal

pub returns : goal.returns
returns c = same_decides
