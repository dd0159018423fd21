-- What the records that are left give, all of them give.
use Rattle.std.proofs.Common.{◌≡◌, drop}
use Rattle.config.specs.Configs.{used}
use Rattle.validate.specs.Bounds.{first_unmet}
use Rattle.validate.proofs.values.RequiredValidator.check.Given as goal

abbrev pub invariant-loop-record : goal.invariant-loop-record
invariant-loop-record l = first_unmet l.record-items (used l.config) ≡ first_unmet (drop l.record-index l.record-items) (used l.config)
