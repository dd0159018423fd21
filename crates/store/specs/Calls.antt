-- What the calls of the store answer, and which accesses they make. `blocks`, `raises`, `reads` and `writes` are the device's.
use Rattle.std.specs.Prelude.{◌≡◌, ℕ, Bool, List, length, Ok, Err, MatchBool, Result, nat_lt}
use Rattle.device.specs.Accesses.{Access, Carried}
use Rattle.device.specs.declared.Block.{Block}
use Rattle.device.specs.declared.Device.{Ghosts}
use Rattle.device.specs.declared.DeviceFault.{DeviceFault}
use Rattle.schema.specs.declared.nodes.Node.{Node}
use Rattle.config.specs.Configs.{used}
use Rattle.config.specs.declared.config.Config.{Config}
use Rattle.config.specs.declared.entry.Entry.{Entry}
use Rattle.journal.specs.Plans.{as_writes, format_plan, commit_plan}
use Rattle.journal.specs.Restart.{Restores, restart_plan}
use Rattle.store.specs.Faults.{told}
use Rattle.store.specs.declared.faults.StoreFault.{StoreFault}
use Rattle.store.specs.declared.faults.StoreFault.TheVariants.{TooSmall, Device, Corrupt}

-- What a recovery answers, by how its accesses ended: the device's fault whole, else what the blocks restore to by the schema.
abbrev pub Given : List Node → List Block → Result Unit DeviceFault → Result Config StoreFault → Type 0
Given ns bs (Err f) r = r ≡ Err (Device f)
Given ns bs (Ok done) (Ok c) = Restores ns bs (Ok (used c))
Given ns bs (Ok done) (Err TooSmall) = ⊥
Given ns bs (Ok done) (Err (Device f)) = ⊥
Given ns bs (Ok done) (Err (Corrupt k)) = Restores ns bs (Err k)

-- fewer than 51 blocks
abbrev pub small : List Block → Bool
small bs = nat_lt (length bs) 51

-- a device that is too small is refused, and stays as it is
abbrev pub UnlessSmall : {D T : Type 0} → List Block → Type 0 → Result T StoreFault → D → D → Type 0
UnlessSmall bs made r d e = MatchBool (small bs) ((r ≡ Err TooSmall) × (e ≡ d)) made

module _ {D : Type 0} (reads : D → ℕ → Result Block DeviceFault → D → Type 0) (writes : D → ℕ → List ℕ → Result Unit DeviceFault → D → Type 0) where
  -- exactly these accesses were made, up to the end or to the first that was not done; its fault is answered
  pub record Made (d : D) (accesses : List Access) (r : Result Unit StoreFault) (e : D) : Type 0 where
    pub ended : Result Unit DeviceFault
    pub carried : Carried reads writes d accesses ended e
    pub answer : r ≡ told ended

module _ {D : Type 0} (blocks : D → List Block) (raises : D → D → Type 0) (reads : D → ℕ → Result Block DeviceFault → D → Type 0) (writes : D → ℕ → List ℕ → Result Unit DeviceFault → D → Type 0) where
  -- one power-up, the home blocks, an empty header
  pub record Formats (d : D) (es : List Entry) (r : Result Unit StoreFault) (e : D) : Type 0 where
    pub raised : D
    pub up : raises d raised
    pub made : Made reads writes raised (as_writes (format_plan es)) r e

  abbrev pub Formatted : D → List Entry → Result Unit StoreFault → D → Type 0
  Formatted d es r e = UnlessSmall (blocks d) (Formats d es r e) r d e

  -- the accesses of a commit, and no power-up; none where nothing changes
  abbrev pub Replaced : D → List Entry → List Entry → Result Unit StoreFault → D → Type 0
  Replaced d old new r e = UnlessSmall (blocks d) (Made reads writes d (as_writes (commit_plan old new)) r e) r d e

  -- one power-up, and the accesses that the blocks ask for
  pub record Recovers (ns : List Node) (d : D) (r : Result Config StoreFault) (e : D) : Type 0 where
    pub raised : D
    pub up : raises d raised
    pub ended : Result Unit DeviceFault
    pub carried : Carried reads writes raised (restart_plan (blocks d)) ended e
    pub answer : Given ns (blocks d) ended r

  abbrev pub Recovered : List Node → D → Result Config StoreFault → D → Type 0
  Recovered ns d r e = UnlessSmall (blocks d) (Recovers ns d r e) r d e

-- the same of a device, by the record of its members
module _ {D : Type 0} (dev : Ghosts D) where
  abbrev pub FormattedOn : D → List Entry → Result Unit StoreFault → D → Type 0
  FormattedOn = Formatted dev.blocks dev.raises dev.reads dev.writes

  abbrev pub ReplacedOn : D → List Entry → List Entry → Result Unit StoreFault → D → Type 0
  ReplacedOn = Replaced dev.blocks dev.raises dev.reads dev.writes

  abbrev pub RecoveredOn : List Node → D → Result Config StoreFault → D → Type 0
  RecoveredOn = Recovered dev.blocks dev.raises dev.reads dev.writes
