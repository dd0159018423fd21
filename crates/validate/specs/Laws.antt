-- What the verdicts say, in the words of the rules.
use Rattle.std.specs.Prelude.{◌≡◌, List, Result}
use Rattle.schema.specs.Nodes.{nodes}
use Rattle.schema.specs.declared.path.Path.{Path}
use Rattle.schema.specs.declared.typed.Schema.{Schema}
use Rattle.config.specs.declared.entry.Entry.{Entry}
use Rattle.validate.specs.declared.broken.Rule.{Rule}
use Rattle.validate.specs.declared.broken.Broken.{Broken}
use Rattle.validate.specs.declared.required.Required.{Required}
use Rattle.validate.specs.Rules.{Told}
use Rattle.validate.specs.Bounds.{RequiredBreaks, first_unmet}
use Rattle.validate.specs.Required.{bounds}
use Rattle.validate.specs.Schemas.{Breaks, schema_verdict}

-- a verdict says which rule is broken where, and no other verdict does
pub record Only (breaks : Rule → Path → Type 0) (v : Result Unit Broken) : Type 0 where
  pub told : Told breaks v
  pub alone : (w : Result Unit Broken) → Told breaks w → w ≡ v

abbrev pub SchemaTold : Type 0
SchemaTold = (s : Schema) (es : List Entry) → Only (Breaks (nodes s) es) (schema_verdict (nodes s) es)

abbrev pub RequiredTold : Type 0
RequiredTold = (s : Required) (es : List Entry) → Only (RequiredBreaks (bounds s) es) (first_unmet (bounds s) es)
