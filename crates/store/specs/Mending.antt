-- The first part of a recovery: what the journal asks for is done.
use Rattle.std.specs.Prelude.{◌≡◌, ℕ, List, [], ◌∷◌, ◌++◌, length, Ok, Err, Result, slice_index_or}
use Rattle.device.specs.Accesses.{Access, read, Carried}
use Rattle.device.specs.declared.Block.{Block}
use Rattle.device.specs.declared.Block.TheVariants.{Damaged}
use Rattle.device.specs.declared.Device.{Ghosts}
use Rattle.device.specs.declared.DeviceFault.{DeviceFault}
use Rattle.journal.specs.Plans.{Write, as_writes, closed}
use Rattle.journal.specs.Restart.{pending, read_run, reads_until, record_reads, with_records}
use Rattle.store.specs.declared.faults.StoreFault.{StoreFault}
use Rattle.store.specs.declared.faults.StoreFault.TheVariants.{Device, Corrupt}

-- the writes home and the empty header, unless a block is at fault
abbrev pub mends : Result (List Write) ℕ → List Access
mends (Err k) = []
mends (Ok ws) = as_writes (closed ws)

-- what is answered: the device's fault, the block at fault, or done
abbrev pub EndedBy : Result (List Write) ℕ → Result Unit DeviceFault → Result Unit StoreFault → Type 0
EndedBy asked (Err f) r = r ≡ Err (Device f)
EndedBy (Ok ws) (Ok done) r = r ≡ Ok tt
EndedBy (Err k) (Ok done) r = r ≡ Err (Corrupt k)

module _ {D : Type 0} (blocks : D → List Block) (reads : D → ℕ → Result Block DeviceFault → D → Type 0) (writes : D → ℕ → List ℕ → Result Unit DeviceFault → D → Type 0) where
  -- the records of some targets are read, and the writes home done
  pub record Redone (ts : List ℕ) (d : D) (r : Result Unit StoreFault) (e : D) : Type 0 where
    pub ended : Result Unit DeviceFault
    pub carried : Carried reads writes d (reads_until (blocks d) 1 (length ts) ++ mends (with_records ts (read_run (blocks d) 1 (length ts)))) ended e
    pub answer : EndedBy (with_records ts (read_run (blocks d) 1 (length ts))) ended r

  -- the header is read, and what it asks for is done
  pub record Mended (d : D) (r : Result Unit StoreFault) (e : D) : Type 0 where
    pub ended : Result Unit DeviceFault
    pub carried : Carried reads writes d (read 0 ∷ (record_reads (blocks d) (slice_index_or (blocks d) 0 Damaged) ++ mends (pending (blocks d)))) ended e
    pub answer : EndedBy (pending (blocks d)) ended r

-- the same of a device, by the record of its members
module _ {D : Type 0} (dev : Ghosts D) where
  abbrev pub RedoneOn : List ℕ → D → Result Unit StoreFault → D → Type 0
  RedoneOn = Redone dev.blocks dev.reads dev.writes

  abbrev pub MendedOn : D → Result Unit StoreFault → D → Type 0
  MendedOn = Mended dev.blocks dev.reads dev.writes
