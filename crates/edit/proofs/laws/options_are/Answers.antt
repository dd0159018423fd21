use Rattle.edit.proofs.Lawful.{options_of}
use Rattle.edit.proofs.laws.options_are.Goals as goal

pub returns : goal.returns
returns g c = options_of
