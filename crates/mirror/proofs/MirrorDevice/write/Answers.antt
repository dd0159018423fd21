-- Each way of the code is a way of a mirror's write.
use Rattle.std.proofs.Common.{◌≡◌, Err, rules}
use Rattle.device.proofs.Reach.{made_in}
use Rattle.mirror.specs.Sides as sides
use Rattle.mirror.proofs.MirrorDevice.write.Goals as goal

pub returns-in_err-read : goal.returns-in_err-read
returns-in_err-read g c =
    let lost : c.from_residual-in_err-read.result ≡ Err c.in_err-read.field-0.0 = search rules in
    rw lost (made_in _ _ c.args.at _ _ _ _ c.in_ok-admit.ensures (sides.MirrorWrite.unread c.in_err-read.ensures))

pub returns-in_err-write-in-Good : goal.returns-in_err-write-in-Good
returns-in_err-write-in-Good g c =
    let lost : c.from_residual-in_err-write-in-Good.result ≡ Err c.in_err-write-in-Good.field-0.0 = search rules in
    rw lost (made_in _ _ c.args.at _ _ _ _ c.in_ok-admit.ensures (sides.MirrorWrite.second_cut (rw c.in-Good.is at c.in_ok-read.ensures) c.in_err-write-in-Good.ensures))

pub returns-in_err-write-in-Damaged : goal.returns-in_err-write-in-Damaged
returns-in_err-write-in-Damaged g c =
    let lost : c.from_residual-in_err-write-in-Damaged.result ≡ Err c.in_err-write-in-Damaged.field-0.0 = search rules in
    rw lost (made_in _ _ c.args.at _ _ _ _ c.in_ok-admit.ensures (sides.MirrorWrite.first_cut (rw c.in-Damaged.is at c.in_ok-read.ensures) c.in_err-write-in-Damaged.ensures))

pub returns-in_ok-write-in-Good : goal.returns-in_ok-write-in-Good
returns-in_ok-write-in-Good g c =
    made_in _ _ c.args.at _ _ _ _ c.in_ok-admit.ensures (sides.MirrorWrite.second_first (rw c.in-Good.is at c.in_ok-read.ensures) c.in_ok-write-in-Good.ensures c.write-in-Good.ensures)

pub returns-in_ok-write-in-Damaged : goal.returns-in_ok-write-in-Damaged
returns-in_ok-write-in-Damaged g c =
    made_in _ _ c.args.at _ _ _ _ c.in_ok-admit.ensures (sides.MirrorWrite.first_first (rw c.in-Damaged.is at c.in_ok-read.ensures) c.in_ok-write-in-Damaged.ensures c.write-in-Damaged-2.ensures)
