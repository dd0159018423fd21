use Rattle.session.proofs.Runs.{runs_out}
use Rattle.session.proofs.laws.trials_run_out.Goals as goal

pub returns : goal.returns
returns c = runs_out
