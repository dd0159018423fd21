use Rattle.device.proofs.Carrying.{seen, off_carried}
use Rattle.device.proofs.laws.accesses_keep_the_rule.Goals as goal

pub returns : goal.returns
returns g c =
    record {
      views = λ d e as' r on near made. seen g.met.D.Device.reading g.met.D.Device.writing on near made;
      off = λ d e a rest r no made. off_carried g.met.D.Device.reading g.met.D.Device.writing g.met.D.Device.unread g.met.D.Device.unwritten no made;
    }
