-- Each turn makes one byte write more, and the mark's comes last; where power fails at one, all ends.
use Rattle.std.proofs.Common.{◌≡◌, length, refl, arith, rules}
use Rattle.supply.proofs.Writes.{begins}
use Rattle.flash.proofs.Running.{programs_on, program_ends, mark_ran}
use Rattle.flash.proofs.program_cell.Goals as goal

pub loop-i-init : goal.loop-i-init
loop-i-init c = begins c.args.supply.now refl

pub returns-then-not-program : goal.returns-then-not-program
returns-then-not-program c =
    let size : length c.args.payload ≡ 32 = search rules in
    program_ends c.args.payload c.args.part.now size (omega arith) c.loop-i.invariant c.if-not-program.ensures.slot c.if-not-program.ensures.power

pub loop-i-preserved : goal.loop-i-preserved
loop-i-preserved c =
    let size : length c.args.payload ≡ 32 = search rules in
    programs_on c.args.payload c.args.part.now size c.loop-i-test.true c.loop-i.invariant c.if-not-program.ensures.slot c.if-not-program.ensures.power

pub returns : goal.returns
returns c =
    let size : length c.args.payload ≡ 32 = search rules in
    mark_ran c.args.payload c.args.part.now size (omega arith) c.loop-i.invariant c.program-2.ensures.slot c.program-2.ensures.power
