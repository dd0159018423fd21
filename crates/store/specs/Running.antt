-- Accesses of a device in a row, and consecutive blocks read into rows.
use Rattle.std.specs.Prelude.{◌≡◌, ℕ, List, length, Ok, Err, Result}
use Rattle.device.specs.Accesses.{Access, Carried}
use Rattle.device.specs.declared.Block.{Block}
use Rattle.device.specs.declared.Device.{Ghosts}
use Rattle.device.specs.declared.DeviceFault.{DeviceFault}
use Rattle.journal.specs.Layout.{Pages}
use Rattle.journal.specs.Restart.{read_run, reads_until}
use Rattle.store.specs.declared.faults.StoreFault.{StoreFault}
use Rattle.store.specs.declared.faults.StoreFault.TheVariants.{Device, Corrupt}

-- what reading answers and leaves in the rows, by what the blocks hold and how the accesses ended
abbrev pub RanTo : Result Pages ℕ → Result Unit DeviceFault → Result Unit StoreFault → Pages → Type 0
RanTo s (Err f) r rows = r ≡ Err (Device f)
RanTo (Ok ps) (Ok done) r rows = (r ≡ Ok tt) × (rows ≡ ps)
RanTo (Err k) (Ok done) r rows = r ≡ Err (Corrupt k)

module _ {D : Type 0} (blocks : D → List Block) (reads : D → ℕ → Result Block DeviceFault → D → Type 0) (writes : D → ℕ → List ℕ → Result Unit DeviceFault → D → Type 0) where
  pub record Ran (d : D) (first : ℕ) (rows : Pages) (r : Result Unit StoreFault) (rows' : Pages) (e : D) : Type 0 where
    pub ended : Result Unit DeviceFault
    pub made : Carried reads writes d (reads_until (blocks d) first (length rows)) ended e
    pub answer : RanTo (read_run (blocks d) first (length rows)) ended r rows'

-- what is made of a device, by the record of its members
module _ {D : Type 0} (dev : Ghosts D) where
  abbrev pub CarriedOn : D → List Access → Result Unit DeviceFault → D → Type 0
  CarriedOn = Carried dev.reads dev.writes

  abbrev pub RanOn : D → ℕ → Pages → Result Unit StoreFault → Pages → D → Type 0
  RanOn = Ran dev.blocks dev.reads dev.writes
