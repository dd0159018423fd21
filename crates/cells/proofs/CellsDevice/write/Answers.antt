-- The block in reach is written in its cell.
use Rattle.std.proofs.Common.{◌+◌, ◌*◌, ◌≤◌, length, Ok, Err, refl, ◌∙◌, arith, rules}
use Rattle.cells.proofs.Parts.{fits, wrote}
use Rattle.cells.proofs.CellsDevice.write.Goals as goal

room : (g : _) (c : goal.After-SIZE g) → c.SIZE.result * c.args.at + c.SIZE.result ≤ length c.deref_mut.result.now
room g c = fits g.C.Cell.layout g.met.C.Cell.lawful c.args.self.now c.args.at (c.SIZE.ensures ∙ g.met.C.Cell.sized) c.deref_mut.ensures.value c.in_ok-admit.ensures

pub overflow_mul-SIZE : goal.overflow_mul-SIZE
overflow_mul-SIZE g c = let h = room g c in search rules

pub slice_bounds-write-count : goal.slice_bounds-write-count
slice_bounds-write-count g c = let h = room g c in omega arith

pub slice_bounds-write-start : goal.slice_bounds-write-start
slice_bounds-write-start g c = let h : c.SIZE.result * c.args.at ≤ length c.deref_mut.result.now = omega (arith, room g c) in search rules

pub returns-then-write : goal.returns-then-write
returns-then-write g c =
    wrote g.C.Cell.layout g.met.C.Cell.lawful c.args.self.now c.args.at (c.SIZE.ensures ∙ g.met.C.Cell.sized) c.deref_mut.ensures.value c.in_ok-admit.ensures
    (Ok tt) refl (search rules) (search rules) c.write.auto.part c.deref_mut.ensures.len c.if-write.ensures.room

pub returns-else-write : goal.returns-else-write
returns-else-write g c =
    wrote g.C.Cell.layout g.met.C.Cell.lawful c.args.self.now c.args.at (c.SIZE.ensures ∙ g.met.C.Cell.sized) c.deref_mut.ensures.value c.in_ok-admit.ensures
    (Err _) refl (search rules) (search rules) c.write.auto.part c.deref_mut.ensures.len c.if-write.ensures.room
