-- Payload and mark of the cell are those of the part.
use Rattle.std.proofs.Common.{ℕ, List, take, sym, ap, ◌∙◌, arith}
use Rattle.std.proofs.lemmas.List.{get_or-take, take-take}
use Rattle.device.specs.declared.Block.TheVariants.{Good}
use Rattle.flash.specs.Cells.{content_good, content_damaged}
use Rattle.flash.proofs.MarkedCell.block.Goals as goal

pub returns-then-part-ne-WRITTEN-clause-room : goal.returns-then-part-ne-WRITTEN-clause-room
returns-then-part-ne-WRITTEN-clause-room c room =
    let part : List ℕ = c.args.part.now in
    sym (content_damaged (take 33 part) (λ e. c.if-part-ne-WRITTEN.true (sym (get_or-take 33 part 32 0 (omega arith)) ∙ e)))

pub returns-clause-room : goal.returns-clause-room
returns-clause-room c room =
    let part : List ℕ = c.args.part.now in
    ap Good (c.copy_from_slice.ensures.after ∙ sym (take-take 32 33 part (omega arith))) ∙ sym (content_good (take 33 part) (get_or-take 33 part 32 0 (omega arith) ∙ c.if-part-ne-WRITTEN.false))
