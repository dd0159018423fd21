-- The entries of a configuration as text.
use Rattle.std.specs.Prelude.{ℕ, List, [], ◌∷◌, ◌++◌}
use Rattle.fault.specs.Text.{spaced}
use Rattle.config.specs.declared.entry.Entry.{Entry}

-- two spaces, node, k1, k2 and value, and the end of the line
abbrev pub line : Entry → List ℕ
line e = 32 ∷ 32 ∷ (spaced (e.path.node ∷ e.path.k1 ∷ e.path.k2 ∷ e.value ∷ []) ++ (10 ∷ []))

-- a line for each entry
abbrev pub listing : List Entry → List ℕ
listing [] = []
listing (e ∷ es) = line e ++ listing es
