-- The chosen ones among the entries so far stand in front.
use Rattle.std.proofs.Common.{◌≡◌, ◌≤◌, length, take, filter}
use Rattle.config.specs.Configs.{used}
use Rattle.config.specs.declared.entry.Entry.{Entry}
use Rattle.config.proofs.config.Config.retain.Given as goal

abbrev pub invariant-loop-entry : goal.invariant-loop-entry
invariant-loop-entry g l =
    (l.entry-items ≡ used l.fn.self) × (l.count ≤ l.entry-index) × (length l.kept ≡ 48) × (take l.count l.kept ≡ filter (λ (e : Entry). g.C.Choice.chosen l.choice e.path) (take l.entry-index (used l.fn.self)))
