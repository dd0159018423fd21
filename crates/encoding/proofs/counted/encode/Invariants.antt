-- The counted list of the records so far is written, and the bytes past it are as they were.
use Rattle.encoding.proofs.Lists.{Written}
use Rattle.encoding.proofs.counted.encode.Given as goal

abbrev pub invariant-loop-i : goal.invariant-loop-i
invariant-loop-i g l = Written g.T.Coded.form l.count l.records l.i l.initial.out l.out
