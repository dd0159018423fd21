-- Those of the entries so far are counted.
use Rattle.std.proofs.Common.{◌≡◌, ◌≤◌, take, count_by}
use Rattle.validate.specs.Schemas.{in_parent}
use Rattle.validate.proofs.schema_rules.count_inside.Given as goal

abbrev pub invariant-loop-counted : goal.invariant-loop-counted
invariant-loop-counted l =
    (l.count ≡ count_by (in_parent l.parent l.path) (take l.counted-index l.entries)) × (l.count ≤ l.counted-index)
