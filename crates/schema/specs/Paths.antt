-- Which keys and which value a path takes.
use Rattle.std.specs.Prelude.{ℕ, Bool, cond, ◌&&◌, List, Some, None, Ok, Err, Option, Result, nat_le}
use Rattle.std.specs.Option.{option_map}
use Rattle.schema.specs.declared.nodes.Node.{Node}
use Rattle.schema.specs.declared.nodes.Node.TheVariants.{List as list_node, Leaf}
use Rattle.schema.specs.declared.nodes.Range.{Range}
use Rattle.schema.specs.declared.path.Path.{Path}
use Rattle.schema.specs.declared.path.PathFault.{PathFault}
use Rattle.schema.specs.declared.path.PathFault.TheVariants.{Node as no_Node, Keys, Value}
use Rattle.schema.specs.Rows.{at}

abbrev pub in_range : Range → ℕ → Bool
in_range r n = nat_le r.lo n && nat_le n r.hi

-- where there is no key and no value, it is 0
abbrev pub nothing : Range
nothing = record { lo = 0; hi = 0 }

-- the value at a list is 0
abbrev pub value_range : Node → Range
value_range (list_node l) = nothing
value_range (Leaf l) = l.values

-- the range of the key of the list of this number
abbrev pub list_range : Option Node → Range
list_range None = nothing
list_range (Some (list_node l)) = l.keys
list_range (Some (Leaf l)) = nothing

-- the ranges of both keys of a list's entries, the outer list's first
abbrev pub list_keys : List Node → Option ℕ → Range → Range × Range
list_keys ns None keys = (keys, nothing)
list_keys ns (Some p) keys = (list_range (at ns p), keys)

-- the ranges of both keys inside a list's entry
abbrev pub inside_keys : List Node → Option Node → Range × Range
inside_keys ns None = (nothing, nothing)
inside_keys ns (Some (list_node l)) = list_keys ns l.parent l.keys
inside_keys ns (Some (Leaf l)) = (nothing, nothing)

abbrev pub leaf_keys : List Node → Option ℕ → Range × Range
leaf_keys ns None = (nothing, nothing)
leaf_keys ns (Some p) = inside_keys ns (at ns p)

-- the ranges of both keys of a node: those of the lists around or at it, outermost first
abbrev pub key_ranges : List Node → Node → Range × Range
key_ranges ns (list_node l) = list_keys ns l.parent l.keys
key_ranges ns (Leaf l) = leaf_keys ns l.parent

abbrev pub keys_fit : Range × Range → Path → Bool
keys_fit ranges p = in_range ranges.0 p.k1 && in_range ranges.1 p.k2

-- the entry of list n with this path's outer key, and that with both its keys
abbrev pub outer_entry : Path → ℕ → Path
outer_entry p n = record { node = n; k1 = p.k1; k2 = 0 }

abbrev pub inner_entry : Path → ℕ → Path
inner_entry p n = record { node = n; k1 = p.k1; k2 = p.k2 }

-- The path of the entry of the list around a path; there is none at the top. A list stands in a list at the top, and a leaf
-- may stand in a list of either depth, so that it has all keys of that list.
abbrev pub around_node : Path → Option Node → Option Path
around_node p None = None
around_node p (Some (list_node l)) = option_map (outer_entry p) l.parent
around_node p (Some (Leaf l)) = option_map (inner_entry p) l.parent

abbrev pub around : List Node → Path → Option Path
around ns p = around_node p (at ns p.node)

-- a path has a node of the schema, and then keys in the ranges of that node
abbrev pub node_answer : List Node → Path → Option Node → Result Node PathFault
node_answer ns p None = Err no_Node
node_answer ns p (Some n) = cond (keys_fit (key_ranges ns n) p) (Ok n) (Err Keys)

abbrev pub path_answer : List Node → Path → Result Node PathFault
path_answer ns p = node_answer ns p (at ns p.node)

-- an entry has a lawful path, and then a value in the range of its node
abbrev pub value_answer : Result Node PathFault → ℕ → Result Unit PathFault
value_answer (Ok n) v = cond (in_range (value_range n) v) (Ok tt) (Err Value)
value_answer (Err f) v = Err f

abbrev pub entry_answer : List Node → Path → ℕ → Result Unit PathFault
entry_answer ns p v = value_answer (path_answer ns p) v

-- the refusal number of a fault
abbrev pub fault_number : PathFault → ℕ
fault_number no_Node = 7
fault_number Keys = 8
fault_number Value = 9
