-- The bytes so far are those of the records so far, and the slots past them are as they were.
use Rattle.encoding.proofs.Lists.{Filled}
use Rattle.encoding.proofs.counted.decode.Given as goal

abbrev pub invariant-loop-i : goal.invariant-loop-i
invariant-loop-i g l = Filled g.T.Coded.form l.bytes l.count l.i l.initial.slots l.slots
