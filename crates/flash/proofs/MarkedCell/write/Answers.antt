-- The cell is erased, and then programmed.
use Rattle.std.proofs.Common.{◌≡◌, ℕ, length, subst, rules}
use Rattle.supply.specs.Writing.{Asks}
use Rattle.flash.specs.Cell.{program_steps, cell_after}
use Rattle.flash.specs.Cells.{length_steps}
use Rattle.flash.specs.Asking.{asked_run_then, asked_run_stops}
use Rattle.flash.proofs.MarkedCell.write.Goals as goal

pub returns-then-erase_cell-clause-room : goal.returns-then-erase_cell-clause-room
returns-then-erase_cell-clause-room c room =
    let size : length c.args.payload ≡ 32 = search rules in
    subst (λ (n : ℕ). Asks n (λ k. cell_after k c.args.part.now c.args.payload) c.args.supply.now c.program_cell.result c.program_cell.new.part c.program_cell.new.supply) (length_steps c.args.payload size)
    (asked_run_then c.if-erase_cell.ensures c.program_cell.ensures)

pub returns-else-erase_cell-clause-room : goal.returns-else-erase_cell-clause-room
returns-else-erase_cell-clause-room c room =
    let size : length c.args.payload ≡ 32 = search rules in
    subst (λ (n : ℕ). Asks n (λ k. cell_after k c.args.part.now c.args.payload) c.args.supply.now c.erase_cell.result c.erase_cell.new.part c.erase_cell.new.supply) (length_steps c.args.payload size)
    (asked_run_stops (program_steps c.args.payload) c.if-erase_cell.false c.erase_cell.ensures)
