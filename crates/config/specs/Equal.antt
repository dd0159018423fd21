-- When two entries, and two configurations, are equal.
use Rattle.std.specs.Prelude.{Bool, nat_eq}
use Rattle.std.specs.Ordering.{on, eq_of_both}
use Rattle.std.specs.Cmp.Lexicographic.{pointwise}
use Rattle.schema.specs.Equal.{same_path}
use Rattle.config.specs.declared.entry.Entry.{Entry}
use Rattle.config.specs.declared.config.Config.{Config}
use Rattle.config.specs.Configs.{used}

-- the same path and the same value
abbrev pub same_entry : Entry → Entry → Bool
same_entry = eq_of_both (on (λ v. v.path) same_path) (on (λ v. v.value) nat_eq)

-- the same entries in use
abbrev pub same_config : Config → Config → Bool
same_config = on used (pointwise same_entry)
