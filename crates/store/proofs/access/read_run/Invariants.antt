use Rattle.std.proofs.Common.{◌≡◌, ◌+◌, ◌-◌, length, Result}
use Rattle.device.specs.Accesses.{Carried}
use Rattle.device.specs.declared.DeviceFault.{DeviceFault}
use Rattle.journal.specs.Restart.{reads_until}
use Rattle.journal.proofs.Steps.{Reading}
use Rattle.store.proofs.access.read_run.Given as goal

-- the first rows are read, no block has changed, and what the reads that are left come to, all of them come to
abbrev pub invariant-loop-i : goal.invariant-loop-i
invariant-loop-i g l =
    (g.D.Device.blocks l.device ≡ g.D.Device.blocks l.initial.device)
    × Reading (g.D.Device.blocks l.initial.device) l.first (length l.initial.rows) l.i l.rows
    × ((r : Result Unit DeviceFault) (e : g.row.D.Denot) → Carried g.D.Device.reads g.D.Device.writes l.device (reads_until (g.D.Device.blocks l.initial.device) (l.first + l.i) (length l.initial.rows - l.i)) r e → Carried g.D.Device.reads g.D.Device.writes l.initial.device (reads_until (g.D.Device.blocks l.initial.device) l.first (length l.initial.rows)) r e)
