-- What the rows that are left give, all of them give.
use Rattle.std.proofs.Common.{◌≡◌, drop}
use Rattle.fault.specs.Rows.{looked_up}
use Rattle.fault.proofs.look_up.Given as goal

abbrev pub invariant-loop-row : goal.invariant-loop-row
invariant-loop-row l = looked_up l.rows l.number ≡ looked_up (drop l.row-index l.rows) l.number
