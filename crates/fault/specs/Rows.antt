-- A table of refusal numbers, a row for each.
use Rattle.std.specs.Prelude.{ℕ, cond, List, [], ◌∷◌, Some, None, Option, ◌==◌}
use Rattle.fault.specs.declared.Layer.{Layer}
use Rattle.fault.specs.declared.Numbered.{Numbered}

-- the layer that the first row of a number has
unfoldable pub looked_up : List Numbered → ℕ → Option Layer
looked_up [] n = None
looked_up (row ∷ rows) n = cond (row.0 == n) (Some row.1) (looked_up rows n)
