-- What an edit list on a configuration answers and leaves.
use Rattle.std.specs.Prelude.{◌≡◌, ◌+◌, ◌-◌, List, Some, None, Ok, Err, Result, slice_index_or}
use Rattle.fault.specs.Reports.{at_path, in_item, plain}
use Rattle.fault.specs.declared.Report.{Report}
use Rattle.schema.specs.declared.nodes.Node.{Node}
use Rattle.config.specs.Configs.{used}
use Rattle.config.specs.declared.config.Config.{Config}
use Rattle.config.specs.declared.entry.Entry.{Entry}
use Rattle.edit.specs.declared.run.EditFault.{EditFault}
use Rattle.edit.specs.declared.item.Item.{Item}
use Rattle.edit.specs.declared.option.ErrorOption.{ErrorOption}
use Rattle.edit.specs.declared.option.ErrorOption.TheVariants.{Rollback}
use Rattle.edit.specs.Does.{does}
use Rattle.edit.specs.Numbers.{item_fault_number}
use Rattle.edit.specs.Options.{first_refused, kept, left}

-- the fault is the first refused item's, with its position, how many items stand before it, and its path
pub record FirstRefused (ns : List Node) (es : List Entry) (is : List Item) (f : EditFault) : Type 0 where
  pub first : first_refused (does ns) es is ≡ Some (f.item, f.fault)
  pub before : f.kept + 1 ≡ f.item
  pub path_is : (d : Item) → f.path ≡ (slice_index_or is f.kept d).path

-- the fault is the first refused item's, with its position, the number of items kept and its path
pub record Refused (ns : List Node) (o : ErrorOption) (c : Config) (is : List Item) (f : EditFault) : Type 0 where
  pub first : first_refused (does ns) (used c) is ≡ Some (f.item, f.fault)
  pub kept_is : f.kept ≡ kept (does ns) o (used c) is f.item
  pub path_is : (d : Item) → f.path ≡ (slice_index_or is (f.item - 1) d).path

-- The items up to the first refused one were performed: none is refused, or the first is told as stopping there tells it.
abbrev pub Until : List Node → List Entry → List Item → Result Unit EditFault → Type 0
Until ns es is (Ok fine) = first_refused (does ns) es is ≡ None
Until ns es is (Err f) = FirstRefused ns es is f

-- The option says what is left. The answer is done if no item is refused, else the first refused item's fault.
pub record Edited (ns : List Node) (o : ErrorOption) (c : Config) (is : List Item) (d : Config) (r : Result Unit EditFault) : Type 0 where
  pub left_is : used d ≡ left (does ns) o (used c) is
  pub done : r ≡ Ok tt → first_refused (does ns) (used c) is ≡ None
  pub refused : (f : EditFault) → r ≡ Err f → Refused ns o c is f
  pub rolled_back : (f : EditFault) → r ≡ Err f → o ≡ Rollback → d ≡ c

-- how an edit's fault is told
abbrev pub fault_report : EditFault → Report
fault_report f =
    at_path (in_item (plain (item_fault_number f.fault)) f.item f.kept) f.path.node f.path.k1 f.path.k2
