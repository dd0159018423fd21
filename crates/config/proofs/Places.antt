-- The entries of a configuration are few.
use Rattle.std.proofs.Common.{◌≤◌, length}
use Rattle.table.proofs.Lists.{items_few}
use Rattle.config.specs.declared.config.Config.{Config}
use Rattle.config.specs.Configs.{used}

pub used_few : (c : Config) → length (used c) ≤ 48
used_few c = items_few c.table
