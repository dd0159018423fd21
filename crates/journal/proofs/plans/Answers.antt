use Rattle.journal.proofs.Promises.{plans_within}
use Rattle.journal.proofs.plans.Goals as goal

pub returns : goal.returns
returns c = plans_within
