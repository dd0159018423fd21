use Rattle.std.proofs.Common.{◌≡◌, ℕ, ◌<◌, List, [], ◌∷◌, length, Err, sym, refl, ap, ◌∙◌, arith, rules}
use Rattle.device.specs.Accesses.{write, all}
use Rattle.device.proofs.Carrying.{carried_then, carried_ends}
use Rattle.journal.specs.Layout.{Pages, header_of}
use Rattle.journal.specs.Plans.{closed}
use Rattle.journal.specs.Restart.{paired}
use Rattle.store.specs.Targets.{listed}
use Rattle.table.specs.Slots.{items}
use Rattle.store.proofs.Made.{one_write, closed_paired}
use Rattle.store.proofs.access.complete.Goals as goal

nothing : (ts : List ℕ) (rows : Pages) → length rows ≡ 0 → closed (paired ts rows) ≡ []
nothing [] rows e = refl
nothing (t ∷ ts) [] e = refl
nothing (t ∷ ts) (p ∷ rows) e = absurd (omega arith)

pub returns-then-is_empty : goal.returns-then-is_empty
returns-then-is_empty g c =
    let cs = c.args.changes.now in
    let none : length c.as_slice.result.now ≡ 0 = search rules in
    rw (nothing (listed cs.targets) (items cs.rows) (sym (ap length c.as_slice.ensures.items) ∙ none)) all

pub returns-in_err-write_home : goal.returns-in_err-write_home
returns-in_err-write_home g c =
    let cs = c.args.changes.now in
    let lost : c.from_residual.result ≡ Err c.in_err-write_home.field-0.0 = search rules in
    let some : 0 < length c.as_slice.result.now = search rules in
    let rows : 0 < length (items cs.rows) = omega (arith, ap length c.as_slice.ensures.items) in
    rw lost (closed_paired (listed cs.targets) (items cs.rows) (omega (arith, cs.whole)) rows (carried_ends (write 0 (header_of []) ∷ []) c.in_err-write_home.ensures))

pub returns : goal.returns
returns g c =
    let cs = c.args.changes.now in
    let some : 0 < length c.as_slice.result.now = search rules in
    let rows : 0 < length (items cs.rows) = omega (arith, ap length c.as_slice.ensures.items) in
    closed_paired (listed cs.targets) (items cs.rows) (omega (arith, cs.whole)) rows (carried_then c.in_ok-write_home.ensures (one_write c.write.result c.write.ensures))
