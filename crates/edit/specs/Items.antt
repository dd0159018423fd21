-- Items and their form in bytes.
use Rattle.std.specs.Prelude.{ℕ}
use Rattle.encoding.specs.declared.form.Form.{Form}
use Rattle.edit.specs.declared.item.Item.{Item}
use Rattle.edit.specs.declared.item.Operation.{Operation}
use Rattle.edit.specs.declared.item.Operation.TheVariants.{Merge, Replace, Create, Delete, Remove}

-- the number of an operation
abbrev pub operation_number : Operation → ℕ
operation_number Merge = 1
operation_number Replace = 2
operation_number Create = 3
operation_number Delete = 4
operation_number Remove = 5

-- operation, node, two zero bytes, k1, k2, value
abbrev pub item_form : Item → Form
item_form i =
    record { a = i.operation; b = i.path.node; c = 0; d = 0; k1 = i.path.k1; k2 = i.path.k2; value = i.value }
