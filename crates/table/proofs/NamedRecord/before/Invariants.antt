-- What is left of the two names decides.
use Rattle.std.proofs.Common.{◌≡◌, drop}
use Rattle.table.specs.Dictionary.{sooner}
use Rattle.table.proofs.NamedRecord.before.Given as goal

abbrev pub invariant-loop-i : goal.invariant-loop-i
invariant-loop-i l = sooner (drop l.i l.a) (drop l.i l.b) ≡ sooner l.a l.b
