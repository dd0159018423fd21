-- Each way of the code is a way of a mirror's read.
use Rattle.std.proofs.Common.{◌≡◌, Err, rules}
use Rattle.device.proofs.Reach.{made_in}
use Rattle.mirror.specs.Sides as sides
use Rattle.mirror.proofs.MirrorDevice.read.Goals as goal

pub returns-in_err-bytes : goal.returns-in_err-bytes
returns-in_err-bytes g c =
    let lost : c.from_residual-in_err-bytes.result ≡ Err c.in_err-bytes.field-0.0 = search rules in
    rw lost (made_in _ _ c.args.at _ _ _ _ c.in_ok-admit.ensures (sides.MirrorRead.lost c.in_err-bytes.ensures))

pub returns-in-Good : goal.returns-in-Good
returns-in-Good g c =
    made_in _ _ c.args.at _ _ _ _ c.in_ok-admit.ensures (sides.MirrorRead.good (rw c.in-Good.is at c.in_ok-bytes.ensures))

pub returns-in-Damaged : goal.returns-in-Damaged
returns-in-Damaged g c =
    made_in _ _ c.args.at _ _ _ _ c.in_ok-admit.ensures (sides.MirrorRead.damaged (rw c.in-Damaged.is at c.in_ok-bytes.ensures) c.read-in-Damaged.ensures)
