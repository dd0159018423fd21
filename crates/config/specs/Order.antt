-- Entries: their order, and their form in bytes.
use Rattle.std.specs.Prelude.{ℕ, Bool, true, not, ◌&&◌, List, [], ◌∷◌}
use Rattle.table.specs.Dictionary.{sooner}
use Rattle.schema.specs.declared.path.Path.{Path}
use Rattle.encoding.specs.declared.form.Form.{Form}
use Rattle.config.specs.declared.entry.Entry.{Entry}

-- a path by its numbers
abbrev pub numbers : Path → List ℕ
numbers p = p.node ∷ (p.k1 ∷ (p.k2 ∷ []))

-- paths compare by node, then by k1, then by k2
abbrev pub path_sooner : Path → Path → Bool
path_sooner a b = sooner (numbers a) (numbers b)

-- neither path comes before the other
abbrev pub equal_paths : Path → Path → Bool
equal_paths a b = not (path_sooner a b) && not (path_sooner b a)

-- each path comes before the next one
abbrev pub rising : List Entry → Bool
rising [] = true
rising (e ∷ []) = true
rising (e ∷ (f ∷ rest)) = path_sooner e.path f.path && rising (f ∷ rest)

-- node, three zero bytes, k1, k2, value
abbrev pub entry_form : Entry → Form
entry_form e =
    record { a = e.path.node; b = 0; c = 0; d = 0; k1 = e.path.k1; k2 = e.path.k2; value = e.value }
