use Rattle.table.proofs.Decided.{decided}
use Rattle.config.specs.Order.{path_sooner}
use Rattle.config.specs.Configs.{path_of}
use Rattle.config.proofs.Order.{total, rises}
use Rattle.config.proofs.laws.paths_decide.Goals as goal

pub returns : goal.returns
returns c = λ es fs up vp same. decided path_of path_sooner total es fs (rises es up) (rises fs vp) same
