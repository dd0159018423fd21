-- As many blocks as fit.
use Rattle.std.proofs.Common.{◌≡◌, ℕ, ◌/◌, length, vec_items, sym, ap, ◌∙◌, rules}
use Rattle.supply.proofs.Cells.{count_by}
use Rattle.cells.proofs.CellsDevice.block_count.Goals as goal

pub returns-clause-blocks : goal.returns-clause-blocks
returns-clause-blocks g c =
    let n : c.len.result ≡ length (vec_items c.args.self.now.bytes) = search rules in
    ap (λ (m : ℕ). m / c.SIZE.result) n
    ∙ ap (λ (m : ℕ). length (vec_items c.args.self.now.bytes) / m) (c.SIZE.ensures ∙ g.met.C.Cell.sized)
    ∙ sym (count_by g.C.Cell.layout.size g.C.Cell.layout.content (vec_items c.args.self.now.bytes))
