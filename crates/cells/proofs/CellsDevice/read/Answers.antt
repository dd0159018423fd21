-- The block in reach is read from its cell.
use Rattle.std.proofs.Common.{◌+◌, ◌*◌, ◌≤◌, length, refl, ◌∙◌, arith, rules}
use Rattle.cells.proofs.Parts.{fits, found}
use Rattle.cells.proofs.CellsDevice.read.Goals as goal

room : (g : _) (c : goal.After-SIZE g) → c.SIZE.result * c.args.at + c.SIZE.result ≤ length c.deref.result.now
room g c = fits g.C.Cell.layout g.met.C.Cell.lawful c.args.self.now c.args.at (c.SIZE.ensures ∙ g.met.C.Cell.sized) c.deref.ensures.value c.in_ok-admit.ensures

pub overflow_mul-SIZE : goal.overflow_mul-SIZE
overflow_mul-SIZE g c = let h = room g c in search rules

pub slice_bounds-block-count : goal.slice_bounds-block-count
slice_bounds-block-count g c = let h = room g c in omega arith

pub slice_bounds-block-start : goal.slice_bounds-block-start
slice_bounds-block-start g c = let h : c.SIZE.result * c.args.at ≤ length c.deref.result.now = omega (arith, room g c) in search rules

pub returns : goal.returns
returns g c = record { same = refl; answer = found g.C.Cell.layout g.met.C.Cell.lawful c.args.self.now c.args.at (c.SIZE.ensures ∙ g.met.C.Cell.sized) c.deref.ensures.value c.in_ok-admit.ensures c.block.result c.block.ensures.room }
