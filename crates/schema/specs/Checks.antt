-- What the check of a schema answers.
use Rattle.std.specs.Prelude.{◌≡◌, ℕ, ◌-◌, ◌<◌, ◌≤◌, List, map, length, Ok, Err, Result, slice_index_or}
use Rattle.schema.specs.declared.nodes.NodeRow.{NodeRow}
use Rattle.schema.specs.declared.typed.Schema.{Schema}
use Rattle.schema.specs.declared.typed.SchemaFault.{SchemaFault}
use Rattle.schema.specs.Rules.{Counted, Lawful, LawfulBelow, NodeLawful}
use Rattle.schema.specs.Nodes.{nodes, node_of}

-- node n breaks a rule, and no lower one does
pub record LowestBad (rows : List NodeRow) (n : ℕ) : Type 0 where
  pub counted : Counted rows
  pub within : n ≤ length rows
  pub lower_lawful : LawfulBelow rows (n - 1)
  pub bad : (d : NodeRow) → NodeLawful rows n (slice_index_or rows (n - 1) d) → ⊥

-- the first bad node is 0 if there are too few or too many nodes, else the lowest that breaks a rule
pub record FirstBad (rows : List NodeRow) (n : ℕ) : Type 0 where
  pub count : n ≡ 0 → Counted rows → ⊥
  pub node : 0 < n → LowestBad rows n

-- Rows are accepted if they are lawful, and then give their nodes; else the first bad node is told.
abbrev pub Answered : List NodeRow → Result Schema SchemaFault → Type 0
Answered rows (Ok s) = Lawful rows × (nodes s ≡ map node_of rows)
Answered rows (Err f) = FirstBad rows f.node
