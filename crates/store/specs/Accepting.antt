-- The configuration that home blocks hold.
use Rattle.std.specs.Prelude.{ℕ, List, [], ◌∷◌, drop, Some, None, Ok, Err, Option, slice_index, slice_index_or}
use Rattle.std.specs.List.{flat_map}
use Rattle.schema.specs.declared.nodes.Node.{Node}
use Rattle.config.specs.Configs.{used}
use Rattle.config.specs.declared.config.Config.{Config}
use Rattle.journal.specs.Layout.{Pages}
use Rattle.journal.specs.Restart.{Accepted}

-- the entry count and the bytes of the entry blocks in a row
abbrev pub image_bytes : Pages → List ℕ
image_bytes ps = slice_index (slice_index_or ps 0 []) 1 ∷ flat_map (λ (p : List ℕ). p) (drop 1 ps)

abbrev pub Accepts : List Node → Pages → Option Config → Type 0
Accepts ns ps (Some c) = Accepted ns ps (Ok (used c))
Accepts ns ps None = Accepted ns ps (Err 26)
