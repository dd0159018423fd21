-- The nodes so far are those of the rows so far.
use Rattle.std.proofs.Common.{◌≡◌, map, take}
use Rattle.table.specs.Slots.{items}
use Rattle.schema.specs.Nodes.{node_of}
use Rattle.schema.proofs.check.nodes_of.Given as goal

abbrev pub invariant-loop-row : goal.invariant-loop-row
invariant-loop-row l = items l.nodes ≡ map node_of (take l.row-index l.rows)
