use Rattle.std.proofs.Common.{true}
use Rattle.supply.specs.Writing.{Asks, written}
use Rattle.supply.proofs.Supply.write_all.Given as goal

-- the byte writes so far are done
abbrev pub invariant-loop-i : goal.invariant-loop-i
invariant-loop-i l = Asks l.i (λ k. written k l.fn.bytes l.initial.part) l.initial.self true l.part l.self
