use Rattle.store.proofs.Standing.{blocks_after, off_replaces, stands}
use Rattle.store.proofs.laws.calls_stand.Goals as goal

pub returns : goal.returns
returns g c =
    let l = g.met.D.Device in
    record {
      blocks = blocks_after l.raised l.reading l.writing l.unread l.unwritten;
      off = off_replaces l.raised l.reading l.writing l.unread l.unwritten;
      stands = stands l.raised l.reading l.writing l.unread l.unwritten;
    }
