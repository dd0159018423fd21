-- Rules and verdicts.
use Rattle.std.specs.Prelude.{◌≡◌, ℕ, ◌<◌, false, Ok, Err, Result}
use Rattle.schema.specs.declared.path.Path.{Path}
use Rattle.config.specs.Order.{path_sooner}
use Rattle.validate.specs.declared.broken.Rule.{Rule}
use Rattle.validate.specs.declared.broken.Rule.TheVariants.{MandatoryMissing, ReferenceDangling, TooManyEntries, ValueRequired}
use Rattle.validate.specs.declared.broken.Broken.{Broken}

-- the number of a rule
abbrev pub rule_number : Rule → ℕ
rule_number MandatoryMissing = 1
rule_number ReferenceDangling = 2
rule_number TooManyEntries = 3
rule_number ValueRequired = 4

-- the first no of two verdicts
abbrev pub first_no : Result Unit Broken → Result Unit Broken → Result Unit Broken
first_no (Ok done) second = second
first_no (Err b) second = Err b

-- A rule is broken at a path, no lower rule is broken anywhere, and this one at no lower path.
pub record Lowest (breaks : Rule → Path → Type 0) (b : Broken) : Type 0 where
  pub broken : breaks b.rule b.path
  pub lower_rules : (r : Rule) (p : Path) → rule_number r < rule_number b.rule → breaks r p → ⊥
  pub lower_paths : (p : Path) → breaks b.rule p → path_sooner p b.path ≡ false

-- Yes exactly if no rule is broken at any path; else the lowest rule that is, and its lowest path, are told.
abbrev pub Told : (Rule → Path → Type 0) → Result Unit Broken → Type 0
Told breaks (Ok done) = (r : Rule) (p : Path) → breaks r p → ⊥
Told breaks (Err b) = Lowest breaks b
