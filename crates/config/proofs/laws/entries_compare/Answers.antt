use Rattle.config.proofs.Equal.{decides_configs}
use Rattle.config.proofs.laws.entries_compare.Goals as goal

pub returns-clause-configs_decide : goal.returns-clause-configs_decide
returns-clause-configs_decide c = decides_configs
