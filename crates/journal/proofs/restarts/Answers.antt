use Rattle.journal.proofs.Promises.{repair_recovers, repair_finishes, restarts_keep}
use Rattle.journal.proofs.restarts.Goals as goal

pub returns : goal.returns
returns c = record { recovers = repair_recovers; finishes = repair_finishes; any = restarts_keep }
