-- Where the nodes of a schema stand.
use Rattle.std.specs.Prelude.{ℕ, Bool, true, false, ◌&&◌, List, [], ◌∷◌, Some, None, Option}
use Rattle.schema.specs.declared.nodes.Node.{Node}
use Rattle.schema.specs.declared.nodes.Node.TheVariants.{List as list_node, Leaf}
use Rattle.schema.specs.Rows.{at}

abbrev pub no_parent : Option ℕ → Bool
no_parent None = true
no_parent (Some p) = false

abbrev pub is_list : Option Node → Bool
is_list None = false
is_list (Some (list_node l)) = true
is_list (Some (Leaf l)) = false

abbrev pub is_top_list : Option Node → Bool
is_top_list None = false
is_top_list (Some (list_node l)) = no_parent l.parent
is_top_list (Some (Leaf l)) = false

-- a list in this place stands at the top or in a list at the top
abbrev pub list_placed : List Node → Option ℕ → Bool
list_placed ns None = true
list_placed ns (Some p) = is_top_list (at ns p)

-- a leaf in this place stands at the top or in a list
abbrev pub leaf_placed : List Node → Option ℕ → Bool
leaf_placed ns None = true
leaf_placed ns (Some p) = is_list (at ns p)

abbrev pub placed : List Node → Node → Bool
placed ns (list_node l) = list_placed ns l.parent
placed ns (Leaf l) = leaf_placed ns l.parent

abbrev pub every : {A : Type 0} → (A → Bool) → List A → Bool
every f [] = true
every f (x ∷ xs) = f x && every f xs

-- lists nest at most two deep, and leaves stand in lists or at the top
abbrev pub two_deep : List Node → Bool
two_deep ns = every (placed ns) ns
