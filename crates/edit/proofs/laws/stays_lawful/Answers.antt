use Rattle.edit.proofs.Lawful.{stays_lawful}
use Rattle.edit.proofs.laws.stays_lawful.Goals as goal

pub returns : goal.returns
returns c = stays_lawful
