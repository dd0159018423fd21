use Rattle.journal.proofs.Promises.{commit_recovers, commit_decides, commit_finishes, commit_writes}
use Rattle.journal.proofs.commits.Goals as goal

pub returns : goal.returns
returns c = record { recovers = commit_recovers; decides = commit_decides; finishes = commit_finishes; nothing = commit_writes }
