-- Which configurations a schema allows.
use Rattle.std.specs.Prelude.{◌≡◌, ℕ, ◌<◌, ◌≤◌, Bool, true, List, length, is_some, Some, None, Ok, Option, slice_index_or}
use Rattle.schema.specs.Paths.{around, entry_answer}
use Rattle.schema.specs.declared.nodes.Node.{Node}
use Rattle.schema.specs.declared.path.Path.{Path}
use Rattle.config.specs.declared.entry.Entry.{Entry}
use Rattle.config.specs.Order.{rising}
use Rattle.config.specs.Configs.{found}

-- the entries have one at the path, if there is a path
abbrev pub held_at : List Entry → Option Path → Bool
held_at es None = true
held_at es (Some p) = is_some (found es p)

-- the entry of the list around a path is there, or the path is at the top
abbrev pub held : List Node → List Entry → Path → Bool
held ns es p = held_at es (around ns p)

-- an entry has a lawful path, a lawful value, and the entry of the list around it
pub record EntryLawful (ns : List Node) (es : List Entry) (e : Entry) : Type 0 where
  pub fits : entry_answer ns e.path e.value ≡ Ok tt
  pub inside : held ns es e.path ≡ true

-- A configuration has 0 to 48 entries with strictly rising paths, each of them lawful.
pub record Lawful (ns : List Node) (es : List Entry) : Type 0 where
  pub few : length es ≤ 48
  pub rises : rising es ≡ true
  pub each : (i : ℕ) (d : Entry) → i < length es → EntryLawful ns es (slice_index_or es i d)
