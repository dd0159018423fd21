-- The home blocks that a commit changes.
use Rattle.std.specs.Prelude.{ℕ, List}
use Rattle.table.specs.Slots.{items}
use Rattle.journal.specs.Plans.{Write}
use Rattle.journal.specs.Restart.{paired}
use Rattle.store.specs.declared.targets.Changes.{Changes}
use Rattle.store.specs.declared.targets.Targets.{Targets}

-- the targets in use
abbrev pub listed : Targets → List ℕ
listed t = items t.blocks

-- each target with its bytes
abbrev pub written : Changes → List Write
written c = paired (listed c.targets) (items c.rows)
