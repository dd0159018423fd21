use Rattle.journal.proofs.Promises.{format_finishes}
use Rattle.journal.proofs.formats.Goals as goal

pub returns : goal.returns
returns c = format_finishes
