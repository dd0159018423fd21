-- The mark is erased, and then the payload bytes.
use Rattle.std.proofs.Common.{set, refl, arith, length-set}
use Rattle.std.proofs.lemmas.List.{get_or-replicate}
use Rattle.flash.specs.Cell.{erases_from}
use Rattle.flash.specs.Asking.{asked_run_then, asked_run_stops}
use Rattle.flash.proofs.Running.{ran_one, ran_erases}
use Rattle.flash.proofs.erase_cell.Goals as goal

pub returns-then-write : goal.returns-then-write
returns-then-write c =
    asked_run_then (ran_one 32 255 refl c.if-write.ensures.slot c.if-write.ensures.power)
    (ran_erases _ (set c.args.part.now 32 c.write.new.slot) refl (λ j h. get_or-replicate 32 j 255 0 h) (omega (arith, length-set c.args.part.now 32 c.write.new.slot)) c.write_all.ensures)

pub returns-else-write : goal.returns-else-write
returns-else-write c = asked_run_stops (erases_from 0 32) c.if-write.false (ran_one 32 255 refl c.write.ensures.slot c.write.ensures.power)
