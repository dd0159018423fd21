-- What the items that are left come to, all of them come to.
use Rattle.std.proofs.Common.{◌≡◌, ◌+◌, ◌≤◌, drop}
use Rattle.schema.specs.Nodes.{nodes}
use Rattle.config.specs.Configs.{used}
use Rattle.edit.specs.Does.{does}
use Rattle.edit.specs.Options.{performed, through}
use Rattle.edit.proofs.run.perform_each.Given as goal

abbrev pub invariant-loop-item : goal.invariant-loop-item
invariant-loop-item l =
    (l.done ≤ l.item-index)
    × (through (does (nodes l.schema)) (used l.config) (drop l.item-index l.item-items) ≡ through (does (nodes l.schema)) (used l.initial.config) l.item-items)
    × (l.done + performed (does (nodes l.schema)) (used l.config) (drop l.item-index l.item-items) ≡ performed (does (nodes l.schema)) (used l.initial.config) l.item-items)
