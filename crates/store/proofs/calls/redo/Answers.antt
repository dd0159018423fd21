use Rattle.std.proofs.Common.{◌≡◌, ℕ, ◌≤◌, List, length, take, Ok, Err, refl, ap, ◌∙◌, rules}
use Rattle.std.proofs.lemmas.List.{length-take-le, take_at}
use Rattle.journal.specs.Layout.{Pages}
use Rattle.store.specs.Targets.{listed}
use Rattle.store.specs.declared.faults.StoreFault.TheVariants.{Device}
use Rattle.store.proofs.Recovery.{redo_unread, redo_done}
use Rattle.store.proofs.calls.redo.Goals as goal

-- as many rows as targets
as_many : (n : ℕ) (rows : Pages) (ts slice : List ℕ) → n ≤ length rows → n ≡ length slice → slice ≡ ts → length (take n rows) ≡ length ts
as_many n rows ts slice h e is = length-take-le n rows h ∙ e ∙ ap length is

pub returns-in_err-read_run : goal.returns-in_err-read_run
returns-in_err-read_run g c =
    let lost : c.from_residual.result ≡ Err c.in_err-read_run.field-0.0 = search rules in
    redo_unread (listed c.args.targets) (as_many _ _ _ _ c.as_slice-count.ensures.few refl c.as_slice-count.ensures.items) c.in_err-read_run.field-0.0 c.in_err-read_run.ensures lost

pub returns-in_err-complete : goal.returns-in_err-complete
returns-in_err-complete g c =
    let lost : c.from_residual-in_err-complete.result ≡ Err (Device c.in_err-complete.field-0.0) = search rules in
    let long : length c.read_run.new.rows ≡ length c.as_slice-count.result.now = c.read_run.auto.rows ∙ length-take-le _ _ c.as_slice-count.ensures.few in
    let rows = c.first-rows.ensures ∙ take_at c.read_run.new.rows _ _ long in
    redo_done (listed c.args.targets) (as_many _ _ _ _ c.as_slice-count.ensures.few refl c.as_slice-count.ensures.items) (Err c.in_err-complete.field-0.0) c.in_ok-read_run.ensures (rw rows at c.in_err-complete.ensures) lost

pub returns : goal.returns
returns g c =
    let long : length c.read_run.new.rows ≡ length c.as_slice-count.result.now = c.read_run.auto.rows ∙ length-take-le _ _ c.as_slice-count.ensures.few in
    let rows = c.first-rows.ensures ∙ take_at c.read_run.new.rows _ _ long in
    redo_done (listed c.args.targets) (as_many _ _ _ _ c.as_slice-count.ensures.few refl c.as_slice-count.ensures.items) (Ok tt) c.in_ok-read_run.ensures (rw rows at c.in_ok-complete.ensures) refl
