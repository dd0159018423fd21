use Rattle.std.proofs.Common.{rules}
use Rattle.config.proofs.Taken.{take_answer, take_rises}
use Rattle.config.proofs.config.Config.take_out.Goals as goal

pub invariant_of-self : goal.invariant_of-self
invariant_of-self c = record { rises = search (rules, take_rises) }

pub returns : goal.returns
returns c = search (rules, take_answer)
