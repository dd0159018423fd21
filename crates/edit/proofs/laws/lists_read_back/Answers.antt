use Rattle.edit.proofs.Lawful.{lists_read_back}
use Rattle.edit.proofs.laws.lists_read_back.Goals as goal

pub returns : goal.returns
returns c = lists_read_back
