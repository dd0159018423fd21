use Rattle.std.proofs.Common.{Result}
use Rattle.journal.specs.Plans.{as_writes}
use Rattle.journal.specs.Restart.{paired}
use Rattle.store.specs.Targets.{written}
use Rattle.device.specs.Accesses.{Carried}
use Rattle.device.specs.declared.DeviceFault.{DeviceFault}
use Rattle.store.proofs.access.write_home.Given as goal

-- what the writes that are left come to, all of them come to
abbrev pub invariant-loop-block : goal.invariant-loop-block
invariant-loop-block g l =
    (r : Result Unit DeviceFault) (e : g.row.D.Denot) → Carried g.D.Device.reads g.D.Device.writes l.device (as_writes (paired l.block-iterator.a.rest.now l.block-iterator.b.rest.now)) r e → Carried g.D.Device.reads g.D.Device.writes l.initial.device (as_writes (written l.changes)) r e
