-- What one item does to the entries of a configuration.
use Rattle.std.specs.Prelude.{ℕ, Bool, true, false, cond, not, ◌&&◌, ◌||◌, List, [], ◌∷◌, length, is_some, Some, None, Ok, Err, filter, Option, Result, ◌==◌, nat_le}
use Rattle.schema.specs.Depth.{is_list}
use Rattle.schema.specs.Paths.{around, in_range, path_answer, value_range}
use Rattle.schema.specs.declared.nodes.Node.{Node}
use Rattle.schema.specs.declared.path.Path.{Path}
use Rattle.schema.specs.declared.path.PathFault.{PathFault}
use Rattle.schema.specs.declared.path.PathFault.TheVariants.{Value}
use Rattle.config.specs.Configs.{found, with_entry}
use Rattle.config.specs.Lawful.{held}
use Rattle.config.specs.Order.{equal_paths}
use Rattle.config.specs.declared.entry.Entry.{Entry}
use Rattle.edit.specs.Numbers.{operation_at}
use Rattle.edit.specs.declared.faults.ItemFault.{ItemFault}
use Rattle.edit.specs.declared.faults.ItemFault.TheVariants.{Operation as no_operation, Path as bad_path, Present, Absent, Full}
use Rattle.edit.specs.declared.item.Item.{Item}
use Rattle.edit.specs.declared.item.Operation.{Operation}
use Rattle.edit.specs.declared.item.Operation.TheVariants.{Merge, Replace, Create, Delete, Remove}

-- ---- the operations
-- merge, replace and create put an absent target in
abbrev pub puts : Operation → Bool
puts Merge = true
puts Replace = true
puts Create = true
puts Delete = false
puts Remove = false

-- replace, delete and remove take out all under the target
abbrev pub clears : Operation → Bool
clears Merge = false
clears Replace = true
clears Create = false
clears Delete = true
clears Remove = true

-- create refuses a present target, and delete an absent one
abbrev pub needs_absent : Operation → Bool
needs_absent Merge = false
needs_absent Replace = false
needs_absent Create = true
needs_absent Delete = false
needs_absent Remove = false

abbrev pub needs_present : Operation → Bool
needs_present Merge = false
needs_present Replace = false
needs_present Create = false
needs_present Delete = true
needs_present Remove = false

-- ---- when an item is refused
-- the first fault of a list whose condition holds
abbrev pub first_of : {F : Type 0} → List (Bool × F) → Result Unit F
first_of [] = Ok tt
first_of (x ∷ xs) = cond x.0 (Err x.1) (first_of xs)

-- an operation that puts carries a value of the node, any other 0
abbrev pub value_lawful : Operation → Node → ℕ → Bool
value_lawful op n v = cond (puts op) (in_range (value_range n) v) (v == 0)

abbrev pub present : List Entry → Path → Bool
present es p = is_some (found es p)

-- what the entries have against an item that is lawful in itself
abbrev pub moment : List Node → List Entry → Operation → Path → List (Bool × ItemFault)
moment ns es op p =
    (needs_absent op && present es p, Present)
    ∷ (not (present es p) && (needs_present op || (puts op && not (held ns es p))), Absent)
    ∷ (not (present es p) && (puts op && nat_le 48 (length es)), Full)
    ∷ []

-- an item's operation and node, or its first fault
abbrev pub checked : Result Unit ItemFault → Operation → Node → Result (Operation × Node) ItemFault
checked (Ok fine) op n = Ok (op, n)
checked (Err f) op n = Err f

abbrev pub judged_value : List Node → List Entry → Item → Operation → Node → Result (Operation × Node) ItemFault
judged_value ns es i op n =
    cond (value_lawful op n i.value) (checked (first_of (moment ns es op i.path)) op n) (Err (bad_path Value))

abbrev pub judged_path : List Node → List Entry → Item → Operation → Result Node PathFault → Result (Operation × Node) ItemFault
judged_path ns es i op (Ok n) = judged_value ns es i op n
judged_path ns es i op (Err f) = Err (bad_path f)

abbrev pub judged_operation : List Node → List Entry → Item → Option Operation → Result (Operation × Node) ItemFault
judged_operation ns es i None = Err no_operation
judged_operation ns es i (Some op) = judged_path ns es i op (path_answer ns i.path)

unfoldable pub judged : List Node → List Entry → Item → Result (Operation × Node) ItemFault
judged ns es i = judged_operation ns es i (operation_at i.operation)

-- ---- what an item that is not refused leaves
abbrev pub is_at : Option Path → Path → Bool
is_at None p = false
is_at (Some q) p = equal_paths q p

-- the entry of the list around this path is that at p, or stands in it
abbrev pub inside : List Node → Path → Option Path → Bool
inside ns p None = false
inside ns p (Some q) = equal_paths q p || is_at (around ns q) p

-- q lies under the list entry at p
abbrev pub under : List Node → Path → Path → Bool
under ns p q = inside ns p (around ns q)

-- q is taken out by an operation on p
abbrev pub taken_out : List Node → Operation → Path → Path → Bool
taken_out ns op p q = clears op && (under ns p q || (not (puts op) && equal_paths q p))

-- a list entry that is there stays as it is
abbrev pub stays : Node → Bool → Bool
stays n here = is_list (Some n) && here

abbrev pub entry_of : Item → Entry
entry_of i = record { path = i.path; value = i.value }

-- what is found at a path afterwards
abbrev pub target_after : Operation → Node → Item → Option Entry → Option Entry
target_after op n i before = cond (puts op) (cond (stays n (is_some before)) before (Some (entry_of i))) None

abbrev pub after_at : List Node → List Entry → Operation → Node → Item → Path → Option Entry
after_at ns es op n i q =
    cond (equal_paths q i.path) (target_after op n i (found es i.path)) (cond (taken_out ns op i.path q) None (found es q))

-- the entries afterwards
abbrev pub cleared : List Node → List Entry → Operation → Path → List Entry
cleared ns es op p = filter (λ e. not (taken_out ns op p e.path)) es

abbrev pub put_in : List Entry → Node → Item → Bool → List Entry
put_in es n i here = cond (stays n here) es (with_entry es (entry_of i))

unfoldable pub changed : List Node → List Entry → Operation → Node → Item → List Entry
changed ns es op n i =
    cond (puts op) (put_in (cleared ns es op i.path) n i (present es i.path)) (cleared ns es op i.path)

abbrev pub done : List Node → List Entry → Item → Result (Operation × Node) ItemFault → Result (List Entry) ItemFault
done ns es i (Ok x) = Ok (changed ns es x.0 x.1 i)
done ns es i (Err f) = Err f

-- the entries after an item, or its fault
abbrev pub does : List Node → List Entry → Item → Result (List Entry) ItemFault
does ns es i = done ns es i (judged ns es i)
