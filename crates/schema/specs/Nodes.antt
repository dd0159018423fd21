-- The typed nodes of a schema.
use Rattle.std.specs.Prelude.{ℕ, cond, List, Some, None, Option, ◌==◌}
use Rattle.schema.specs.declared.nodes.Kind.{Kind}
use Rattle.schema.specs.declared.nodes.Kind.TheVariants.{List as list_kind, Leaf as leaf_kind}
use Rattle.schema.specs.declared.nodes.NodeRow.{NodeRow}
use Rattle.schema.specs.declared.nodes.Node.{Node}
use Rattle.schema.specs.declared.nodes.Node.TheVariants.{List as list_node, Leaf}
use Rattle.schema.specs.declared.typed.Schema.{Schema}
use Rattle.table.specs.Slots.{items}

-- the number of a kind of nodes
abbrev pub kind_number : Kind → ℕ
kind_number list_kind = 1
kind_number leaf_kind = 2

-- 0 stands for none
abbrev pub optional : ℕ → Option ℕ
optional n = cond (n == 0) None (Some n)

-- the typed node of a row
abbrev pub node_of : NodeRow → Node
node_of r =
    cond (r.kind == 1)
    (list_node (record { parent = optional r.parent; keys = record { lo = r.lo; hi = r.hi }; maximum = optional r.maximum }))
    (Leaf (record { parent = optional r.parent; values = record { lo = r.lo; hi = r.hi }; mandatory = (r.mandatory == 1); reference = optional r.reference }))

-- the nodes of a schema
abbrev pub nodes : Schema → List Node
nodes s = items s.nodes
