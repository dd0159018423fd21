-- Edits in the subject's own words.
use Rattle.std.specs.Prelude.{◌≡◌, ◌≤◌, List, length, Ok, Err, Result}
use Rattle.schema.specs.Nodes.{nodes}
use Rattle.schema.specs.declared.typed.Schema.{Schema}
use Rattle.config.specs.Configs.{used}
use Rattle.config.specs.Lawful.{Lawful}
use Rattle.config.specs.declared.config.Config.{Config}
use Rattle.edit.specs.declared.held.EditList.{EditList}
use Rattle.edit.specs.declared.item.Item.{Item}
use Rattle.edit.specs.declared.list.ListFault.{ListFault}
use Rattle.edit.specs.declared.option.ErrorOption.{ErrorOption}
use Rattle.edit.specs.declared.run.EditFault.{EditFault}
use Rattle.edit.specs.Edited.{Edited}
use Rattle.edit.specs.Lists.{ListRead, edit_bytes, items}
use Rattle.edit.specs.Options.{AllDone, NoneRefused, OneRefused}

-- the options, over what one item does, whatever that is
pub record OptionsOf {C I F : Type 0} (does : C → I → Result C F) : Type 0 where
  pub all : (c : C) (is : List I) (d : C) → AllDone does c is d → NoneRefused does c is d
  pub one : (c : C) (before : List I) (d : C) (i : I) (f : F) (rest : List I) → AllDone does c before d → does d i ≡ Err f → OneRefused does c before d i f rest

-- an edit leaves a lawful configuration lawful
abbrev pub StaysLawful : Type 0
StaysLawful = (s : Schema) (o : ErrorOption) (c : Config) (is : List Item) (d : Config) (r : Result Unit EditFault) → Lawful (nodes s) (used c) → Edited (nodes s) o c is d r → Lawful (nodes s) (used d)

-- items with one edit list are the same items
abbrev pub ItemsDecide : Type 0
ItemsDecide = (is js : List Item) → edit_bytes is ≡ edit_bytes js → is ≡ js

-- the answer is these items
abbrev pub Gives : List Item → Result EditList ListFault → Type 0
Gives is (Ok l) = items l ≡ is
Gives is (Err f) = ⊥

-- whatever answers the edit list of at most 16 items as reading does gives these items
abbrev pub ListsReadBack : Type 0
ListsReadBack = (is : List Item) (r : Result EditList ListFault) → length is ≤ 16 → ListRead (edit_bytes is) r → Gives is r
