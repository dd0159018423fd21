-- A configuration as the list of its entries, and what it has at each path.
use Rattle.std.specs.Prelude.{◌≡◌, ◌<◌, Bool, cond, List, length, None, Ok, Err, filter, Option, Result}
use Rattle.table.specs.Slots.{items}
use Rattle.table.specs.Table.{lookup, with_row, without, LookupPut, LookupTake}
use Rattle.schema.specs.declared.path.Path.{Path}
use Rattle.config.specs.declared.entry.Entry.{Entry}
use Rattle.config.specs.declared.config.Config.{Config}
use Rattle.config.specs.Order.{path_sooner}

-- the entries in use
abbrev pub used : Config → List Entry
used c = items c.table

abbrev pub path_of : Entry → Path
path_of e = e.path

-- what the entries have at a path
abbrev pub found : List Entry → Path → Option Entry
found es p = lookup path_of path_sooner es p

-- the entries with one put in, instead of the one at its path if there is one
abbrev pub with_entry : List Entry → Entry → List Entry
with_entry es e = with_row path_of path_sooner es e

-- the entries but the one at a path
abbrev pub without_entry : List Entry → Path → List Entry
without_entry es p = without path_of path_sooner es p

-- An entry was put in: it is found at its path, and at any other path what was found before.
pub record EntryPut (before : List Entry) (e : Entry) (after : List Entry) : Type 0 where
  pub entries_are : after ≡ with_entry before e
  pub lookups : LookupPut path_of path_sooner before e after

-- An entry is put in if then there are at most 48, and else nothing changes.
abbrev pub PutAnswer : {F : Type 0} → Config → Entry → Config → Result Unit F → Type 0
PutAnswer c e d (Ok done) = EntryPut (used c) e (used d)
PutAnswer c e d (Err full) = (48 < length (with_entry (used c) e)) × (d ≡ c)

-- The entry at a path was taken out: nothing is found there, and at any other path what was found before.
pub record EntryTaken (before : List Entry) (p : Path) (after : List Entry) : Type 0 where
  pub entries_are : after ≡ without_entry before p
  pub lookups : LookupTake path_of path_sooner before p after

-- The entry at a path is taken out if there is one, and else nothing changes.
pub record TakeAnswer (c : Config) (p : Path) (d : Config) (r : Option Entry) : Type 0 where
  pub taken : r ≡ found (used c) p
  pub rest : EntryTaken (used c) p (used d)
  pub absent : r ≡ None → d ≡ c

-- The entries at chosen paths are kept: what is found at a chosen path is found as before, and at another path nothing is.
pub record Retained (chosen : Path → Bool) (before after : List Entry) : Type 0 where
  pub entries_are : after ≡ filter (λ e. chosen e.path) before
  pub lookups : (p : Path) → found after p ≡ cond (chosen p) (found before p) None
