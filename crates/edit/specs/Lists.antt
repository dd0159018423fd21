-- Edit lists: a count byte, then 16 bytes for each item.
use Rattle.std.specs.Prelude.{◌≡◌, ℕ, ◌≤◌, List, length, Ok, Err, Result, ◌≢◌}
use Rattle.table.specs.Slots.{items as list_items}
use Rattle.encoding.specs.Counts.{counted}
use Rattle.edit.specs.declared.held.EditList.{EditList}
use Rattle.edit.specs.declared.item.Item.{Item}
use Rattle.edit.specs.Items.{item_form}

abbrev pub items : EditList → List Item
items l = list_items l.items

abbrev pub edit_bytes : List Item → List ℕ
edit_bytes is = counted item_form is

-- Bytes are accepted if they are the edit list of at most 16 items, which are given.
abbrev pub ListRead : {F : Type 0} → List ℕ → Result EditList F → Type 0
ListRead bytes (Ok l) = bytes ≡ edit_bytes (items l)
ListRead bytes (Err f) = (is : List Item) → length is ≤ 16 → bytes ≢ edit_bytes is
