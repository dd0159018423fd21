use Rattle.journal.proofs.Pages.{homes_decide}
use Rattle.journal.proofs.Promises.{restores_once, idle_restores}
use Rattle.journal.proofs.homes.Goals as goal

pub returns : goal.returns
returns c = record { decides = homes_decide; once = restores_once; idle = idle_restores }
