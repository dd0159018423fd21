use Rattle.std.proofs.Common.{◌+◌, drop, Result}
use Rattle.journal.specs.Plans.{as_writes, run_from}
use Rattle.device.specs.Accesses.{Carried}
use Rattle.device.specs.declared.DeviceFault.{DeviceFault}
use Rattle.store.proofs.access.write_run.Given as goal

-- what the writes that are left come to, all of them come to
abbrev pub invariant-loop-i : goal.invariant-loop-i
invariant-loop-i g l =
    (r : Result Unit DeviceFault) (e : g.row.D.Denot) → Carried g.D.Device.reads g.D.Device.writes l.device (as_writes (run_from (l.first + l.i) (drop l.i l.rows))) r e → Carried g.D.Device.reads g.D.Device.writes l.initial.device (as_writes (run_from l.first l.rows)) r e
