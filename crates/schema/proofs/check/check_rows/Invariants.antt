-- The rows so far are lawful.
use Rattle.schema.specs.Rules.{Counted, LawfulBelow}
use Rattle.schema.proofs.check.check_rows.Given as goal

abbrev pub invariant-loop-i : goal.invariant-loop-i
invariant-loop-i l = Counted l.rows × LawfulBelow l.rows l.i
