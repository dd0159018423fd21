use Rattle.std.proofs.Common.{◌≡◌, ℕ, ◌<◌, List, [], ◌∷◌, length, Err, sym, refl, ap, ◌∙◌, arith, rules}
use Rattle.device.specs.Accesses.{write, all, write_on, write_fails}
use Rattle.device.proofs.Carrying.{carried_then, carried_ends}
use Rattle.journal.specs.Layout.{Pages, header_of}
use Rattle.journal.specs.Plans.{as_writes, closed, journalled}
use Rattle.journal.specs.Restart.{paired}
use Rattle.journal.proofs.Steps.{journalled_parts}
use Rattle.store.specs.Targets.{listed, written}
use Rattle.table.specs.Slots.{items}
use Rattle.store.proofs.calls.commit.Goals as goal

nothing : (ts : List ℕ) (rows : Pages) → length rows ≡ 0 → journalled (paired ts rows) ≡ []
nothing [] rows e = refl
nothing (t ∷ ts) [] e = refl
nothing (t ∷ ts) (p ∷ rows) e = absurd (omega arith)

pub returns-then-is_empty : goal.returns-then-is_empty
returns-then-is_empty g c =
    let cs = c.args.changes.now in
    let none : length c.as_slice-rows.result.now ≡ 0 = search rules in
    rw (nothing (listed cs.targets) (items cs.rows) (sym (ap length c.as_slice-rows.ensures.items) ∙ none)) all

pub returns-in_err-write_run : goal.returns-in_err-write_run
returns-in_err-write_run g c =
    let cs = c.args.changes.now in
    let ts = listed cs.targets in
    let lost : c.from_residual.result ≡ Err c.in_err-write_run.field-0.0 = search rules in
    let some : 0 < length c.as_slice-rows.result.now = search rules in
    let targets : 0 < length ts = omega (arith, ap length c.as_slice-rows.ensures.items, cs.whole) in
    rw (journalled_parts ts (items cs.rows) targets cs.whole, lost)
    (carried_ends (write 0 (header_of ts) ∷ as_writes (closed (written cs))) (rw c.as_slice-rows.ensures.items at c.in_err-write_run.ensures))

pub returns-in_err-write : goal.returns-in_err-write
returns-in_err-write g c =
    let cs = c.args.changes.now in
    let ts = listed cs.targets in
    let lost : c.from_residual-in_err-write.result ≡ Err c.in_err-write.field-0.0 = search rules in
    let some : 0 < length c.as_slice-rows.result.now = search rules in
    let targets : 0 < length ts = omega (arith, ap length c.as_slice-rows.ensures.items, cs.whole) in
    rw (journalled_parts ts (items cs.rows) targets cs.whole, lost)
    (carried_then (rw c.as_slice-rows.ensures.items at c.in_ok-write_run.ensures) (write_fails (rw c.header.ensures at c.in_err-write.ensures)))

pub returns : goal.returns
returns g c =
    let cs = c.args.changes.now in
    let ts = listed cs.targets in
    let some : 0 < length c.as_slice-rows.result.now = search rules in
    let targets : 0 < length ts = omega (arith, ap length c.as_slice-rows.ensures.items, cs.whole) in
    rw (journalled_parts ts (items cs.rows) targets cs.whole)
    (carried_then (rw c.as_slice-rows.ensures.items at c.in_ok-write_run.ensures) (write_on (rw c.header.ensures at c.in_ok-write.ensures) c.complete.ensures))
