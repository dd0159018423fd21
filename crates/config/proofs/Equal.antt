-- Equality of entries, and of configurations, says that they are the same.
use Rattle.std.proofs.Common.{◌≡◌, refl, Decides, rules}
use Rattle.std.proofs.lemmas.Slice.Eq.{slice_eq-Decides}
use Rattle.config.specs.Configs.{used}
use Rattle.config.specs.Equal.{same_config, same_entry}
use Rattle.config.specs.declared.config.Config.{Config}
use Rattle.config.specs.declared.entry.Entry.{Entry}

pub decides_entries : (a b : Entry) → Decides (same_entry a b) (a ≡ b)
decides_entries a b = search rules

pub decides_configs : (a b : Config) → Decides (same_config a b) (used a ≡ used b)
decides_configs a b = slice_eq-Decides decides_entries (used a) (used b) (same_config a b) refl
