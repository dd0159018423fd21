-- The rules of a schema, over its rows as they are handed in.
use Rattle.std.specs.Prelude.{◌≡◌, ℕ, ◌+◌, ◌<◌, ◌≤◌, List, length, slice_index_or}
use Rattle.schema.specs.declared.nodes.NodeRow.{NodeRow}
use Rattle.schema.specs.Rows.{kind_at, parent_at}

-- a node stands at the top, or in a list of a lower number
pub record ParentLawful (rows : List NodeRow) (n : ℕ) (r : NodeRow) : Type 0 where
  pub lower : 0 < r.parent → r.parent < n
  pub in_list : 0 < r.parent → kind_at rows r.parent ≡ 1

-- a leaf refers to nothing, or to a list at the top
pub record ReferenceLawful (rows : List NodeRow) (r : NodeRow) : Type 0 where
  pub to_list : 0 < r.reference → kind_at rows r.reference ≡ 1
  pub at_top : 0 < r.reference → parent_at rows r.reference ≡ 0

-- Of a list, lo and hi bound the key, which is never 0. Lists nest at most two deep.
pub record ListLawful (rows : List NodeRow) (n : ℕ) (r : NodeRow) : Type 0 where
  pub place : ParentLawful rows n r
  pub two_deep : parent_at rows r.parent ≡ 0
  pub keys_above_0 : 1 ≤ r.lo
  pub keys : r.lo ≤ r.hi
  pub no_mark : r.mandatory ≡ 0
  pub no_reference : r.reference ≡ 0
  pub few : r.maximum ≤ 48

-- Of a leaf, lo and hi bound the value.
pub record LeafLawful (rows : List NodeRow) (n : ℕ) (r : NodeRow) : Type 0 where
  pub place : ParentLawful rows n r
  pub refers : ReferenceLawful rows r
  pub values : r.lo ≤ r.hi
  pub mark : r.mandatory ≤ 1
  pub no_maximum : r.maximum ≡ 0

-- Kind 1 is a list, kind 2 a leaf, and there is no other.
pub record NodeLawful (rows : List NodeRow) (n : ℕ) (r : NodeRow) : Type 0 where
  pub kind_least : 1 ≤ r.kind
  pub kind_most : r.kind ≤ 2
  pub list : r.kind ≡ 1 → ListLawful rows n r
  pub leaf : r.kind ≡ 2 → LeafLawful rows n r

-- there are 1 to 16 nodes
pub record Counted (rows : List NodeRow) : Type 0 where
  pub some_node : 1 ≤ length rows
  pub not_many : length rows ≤ 16

-- the first so many nodes are lawful; they are numbered from 1
abbrev pub LawfulBelow : List NodeRow → ℕ → Type 0
LawfulBelow rows n = (i : ℕ) (d : NodeRow) → i < n → NodeLawful rows (i + 1) (slice_index_or rows i d)

pub record Lawful (rows : List NodeRow) : Type 0 where
  pub counted : Counted rows
  pub each : LawfulBelow rows (length rows)
