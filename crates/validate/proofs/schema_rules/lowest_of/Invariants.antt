-- What the entries that are left give, all of them give.
use Rattle.std.proofs.Common.{◌≡◌, Bool, drop}
use Rattle.schema.specs.declared.path.Path.{Path}
use Rattle.validate.specs.Search.{Computes, lowest_from}
use Rattle.validate.proofs.schema_rules.lowest_of.Given as goal

abbrev pub invariant-loop-keyed : goal.invariant-loop-keyed
invariant-loop-keyed g l =
    (t : Path → Bool) → Computes (goal.F-post g l.test) t → lowest_from t l.node l.initial.lowest l.entries ≡ lowest_from t l.node l.lowest (drop l.keyed-index l.entries)
