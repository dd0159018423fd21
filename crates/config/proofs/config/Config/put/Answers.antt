use Rattle.std.proofs.Common.{rules}
use Rattle.config.proofs.Taken.{put_answer, put_rises}
use Rattle.config.proofs.config.Config.put.Goals as goal

pub invariant_of-self : goal.invariant_of-self
invariant_of-self c = record { rises = search (rules, put_rises) }

pub returns : goal.returns
returns c = search (rules, put_answer)
