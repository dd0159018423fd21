-- The numbers of operations and of an item's faults.
use Rattle.std.specs.Prelude.{ℕ, cond, Some, None, Option, ◌==◌}
use Rattle.schema.specs.Paths.{fault_number}
use Rattle.edit.specs.declared.faults.ItemFault.{ItemFault}
use Rattle.edit.specs.declared.faults.ItemFault.TheVariants.{Operation as no_operation, Path as bad_path, Present, Absent, Full}
use Rattle.edit.specs.declared.item.Operation.{Operation}
use Rattle.edit.specs.declared.item.Operation.TheVariants.{Merge, Replace, Create, Delete, Remove}

-- the operation of a number
abbrev pub operation_at : ℕ → Option Operation
operation_at n =
    cond (n == 1) (Some Merge) (cond (n == 2) (Some Replace) (cond (n == 3) (Some Create) (cond (n == 4) (Some Delete) (cond (n == 5) (Some Remove) None))))

-- the refusal number of an item's fault
abbrev pub item_fault_number : ItemFault → ℕ
item_fault_number no_operation = 6
item_fault_number (bad_path f) = fault_number f
item_fault_number Present = 32
item_fault_number Absent = 33
item_fault_number Full = 34
