use Rattle.journal.proofs.Promises.{headers_read, headers_alone}
use Rattle.journal.proofs.headers.Goals as goal

pub returns : goal.returns
returns c = record { reads = headers_read; alone = headers_alone }
