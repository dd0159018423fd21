use Rattle.std.proofs.Common.{true, take}
use Rattle.supply.specs.Writing.{Asks}
use Rattle.flash.specs.Cell.{all_done, program_steps}
use Rattle.flash.proofs.program_cell.Given as goal

-- the byte writes so far are done
abbrev pub invariant-loop-i : goal.invariant-loop-i
invariant-loop-i l = Asks l.i (λ k. all_done (take k (program_steps l.fn.payload)) l.initial.part) l.initial.supply true l.part l.supply
