-- What the items that are left come to, all of them come to.
use Rattle.std.proofs.Common.{◌≡◌, drop}
use Rattle.schema.specs.Nodes.{nodes}
use Rattle.config.specs.Configs.{used}
use Rattle.edit.specs.Does.{does}
use Rattle.edit.specs.Options.{first_refused, refused_after, until}
use Rattle.edit.proofs.run.perform_until.Given as goal

abbrev pub invariant-loop-i : goal.invariant-loop-i
invariant-loop-i l =
    (until (does (nodes l.schema)) (used l.config) (drop l.i l.item-items) ≡ until (does (nodes l.schema)) (used l.initial.config) l.item-items)
    × (refused_after (does (nodes l.schema)) l.i (used l.config) (drop l.i l.item-items) ≡ first_refused (does (nodes l.schema)) (used l.initial.config) l.item-items)
