-- Front, payload and back of the cell are those of the part.
use Rattle.std.proofs.Common.{◌≡◌, ℕ, ◌<◌, List, get_or, take, drop, sym, ap, ◌∙◌, arith}
use Rattle.std.proofs.lemmas.List.{get_or-take, drop-take, take-take}
use Rattle.device.specs.declared.Block.TheVariants.{Good}
use Rattle.image.specs.Cells.{content_good, content_damaged}
use Rattle.image.proofs.FramedCell.block.Goals as goal

ends : (part : List ℕ) (i : ℕ) → i < 34 → get_or (take 34 part) i 0 ≡ get_or part i 0
ends part i h = get_or-take 34 part i 0 h

pub returns-then-part-clause-room : goal.returns-then-part-clause-room
returns-then-part-clause-room c room =
    let part : List ℕ = c.args.part.now in
    sym (content_damaged (take 34 part) (λ e. c.if-part.true (sym (ends part 0 (omega arith)) ∙ e ∙ ends part 33 (omega arith))))

pub returns-clause-room : goal.returns-clause-room
returns-clause-room c room =
    let part : List ℕ = c.args.part.now in
    let e : get_or (take 34 part) 0 0 ≡ get_or (take 34 part) 33 0 = ends part 0 (omega arith) ∙ c.if-part.false ∙ sym (ends part 33 (omega arith)) in
    ap Good (c.copy_from_slice.ensures.after ∙ sym (ap (take 32) (drop-take 1 33 part) ∙ take-take 32 33 (drop 1 part) (omega arith))) ∙ sym (content_good (take 34 part) e)
