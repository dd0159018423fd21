-- Each turn hands its write on to the writes that are left; one that is not done ends them there.
use Rattle.std.proofs.Common.{◌≡◌, length, Err, arith, rules}
use Rattle.device.specs.Accesses.{all, write_on, write_fails}
use Rattle.journal.proofs.Steps.{run_left, run_none}
use Rattle.store.proofs.access.write_run.Goals as goal

pub returns-in_err-write : goal.returns-in_err-write
returns-in_err-write g c =
    let lost : c.from_residual.result ≡ Err c.in_err-write.field-0.0 = search rules in
    c.loop-i.invariant _ _ (rw (run_left c.args.first c.loop-i.i c.args.rows.now c.loop-i-test.true, lost) (write_fails c.in_err-write.ensures))

pub loop-i-preserved : goal.loop-i-preserved
loop-i-preserved g c r e rest =
    c.loop-i.invariant r e (rw (run_left c.args.first c.loop-i.i c.args.rows.now c.loop-i-test.true) (write_on c.in_ok-write.ensures rest))

pub returns : goal.returns
returns g c =
    let end : c.loop-i.i ≡ length c.args.rows.now = omega arith in
    c.loop-i.invariant _ _ (rw (run_none c.args.first c.loop-i.i c.args.rows.now end) all)
