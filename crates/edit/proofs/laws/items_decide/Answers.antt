use Rattle.edit.proofs.Lawful.{items_decide}
use Rattle.edit.proofs.laws.items_decide.Goals as goal

pub returns : goal.returns
returns c = items_decide
