-- What the calls of the store make of what stands, on any device that keeps the power rule.
use Rattle.std.specs.Prelude.{◌≡◌, ℕ, ◌≤◌, Bool, true, false, List, [], length, Ok, Err, Result, ◌≢◌}
use Rattle.device.specs.declared.Block.{Block}
use Rattle.device.specs.declared.Device.{Ghosts}
use Rattle.device.specs.declared.DeviceFault.{DeviceFault}
use Rattle.device.specs.declared.DeviceFault.TheVariants.{PowerLost, Refused}
use Rattle.device.specs.View.{Executed, Torn}
use Rattle.schema.specs.declared.nodes.Node.{Node}
use Rattle.config.specs.Configs.{used}
use Rattle.config.specs.Lawful.{Lawful}
use Rattle.config.specs.declared.config.Config.{Config}
use Rattle.config.specs.declared.entry.Entry.{Entry}
use Rattle.journal.specs.Plans.{as_writes, format_plan, commit_plan}
use Rattle.journal.specs.Restart.{Restores, restart_plan, Idle}
use Rattle.journal.specs.Laws as journal
use Rattle.store.specs.Calls.{Formatted, Recovered, Replaced, Given}
use Rattle.store.specs.Faults.{told}
use Rattle.store.specs.declared.faults.StoreFault.{StoreFault}
use Rattle.store.specs.declared.faults.StoreFault.TheVariants.{Device}

-- power was lost in the call, at this block
abbrev pub lost_at : {T : Type 0} → ℕ → Result T StoreFault
lost_at at = Err (Device (PowerLost at))

-- a format is done and its configuration stands, or it is cut off
pub data FormatOutcome (es : List Entry) (before : List Block) : Result Unit StoreFault → List Block → Bool → Type 0 where
  done : {bs : List Block} → Idle bs es → FormatOutcome es before (Ok tt) bs true
  cut : {at : ℕ} {bs : List Block} → Torn (as_writes (format_plan es)) before at bs → FormatOutcome es before (lost_at at) bs false

-- a replacement is done and the new configuration stands, or it is cut off and the old or the new stands, by the block of the cut
pub data ReplaceOutcome (ns : List Node) (old new : List Entry) : Result Unit StoreFault → List Block → Bool → Type 0 where
  done : {bs : List Block} → Idle bs new → ReplaceOutcome ns old new (Ok tt) bs true
  cut : {at : ℕ} {bs : List Block} → journal.Recovered ns old new at bs → ReplaceOutcome ns old new (lost_at at) bs false

-- a recovery gives what stands, or it is cut off and the same stands
pub data RecoverOutcome (ns : List Node) (es : List Entry) : Result Config StoreFault → List Block → Bool → Type 0 where
  done : {c : Config} {bs : List Block} → used c ≡ es → Idle bs es → RecoverOutcome ns es (Ok c) bs true
  cut : {at : ℕ} {bs : List Block} → 51 ≤ length bs → Restores ns bs (Ok es) → RecoverOutcome ns es (lost_at at) bs false

module _ {D : Type 0} (blocks : D → List Block) (powered : D → Bool) (raises : D → D → Type 0) (reads : D → ℕ → Result Block DeviceFault → D → Type 0) (writes : D → ℕ → List ℕ → Result Unit DeviceFault → D → Type 0) where
  -- every block after each call: the accesses of its plan are all done, or power failed at one of them
  pub record BlocksAfter : Type 0 where
    pub format : (d : D) (es : List Entry) (r : Result Unit StoreFault) (e : D) → 51 ≤ length (blocks d) → Formatted blocks raises reads writes d es r e → (q : Result Unit DeviceFault) × Executed (as_writes (format_plan es)) (blocks d) q (blocks e) (powered e) × (r ≡ told q)
    pub replace : (d : D) (old new : List Entry) (r : Result Unit StoreFault) (e : D) → 51 ≤ length (blocks d) → powered d ≡ true → Replaced blocks raises reads writes d old new r e → (q : Result Unit DeviceFault) × Executed (as_writes (commit_plan old new)) (blocks d) q (blocks e) (powered e) × (r ≡ told q)
    pub recover : (ns : List Node) (d : D) (r : Result Config StoreFault) (e : D) → 51 ≤ length (blocks d) → Recovered blocks raises reads writes ns d r e → (q : Result Unit DeviceFault) × Executed (restart_plan (blocks d)) (blocks d) q (blocks e) (powered e) × Given ns (blocks d) q r

  -- with power off a replacement is refused exactly where something changes, and the device stays as it is
  pub record OffReplaces : Type 0 where
    pub unchanged : (d : D) (old new : List Entry) (r : Result Unit StoreFault) (e : D) → 51 ≤ length (blocks d) → commit_plan old new ≡ [] → Replaced blocks raises reads writes d old new r e → (r ≡ Ok tt) × (e ≡ d)
    pub refused : (d : D) (old new : List Entry) (r : Result Unit StoreFault) (e : D) → 51 ≤ length (blocks d) → powered d ≡ false → (commit_plan old new ≢ []) → Replaced blocks raises reads writes d old new r e → (r ≡ Err (Device Refused)) × (e ≡ d)

  -- what stands after each call
  pub record Stands : Type 0 where
    pub format : (d : D) (es : List Entry) (r : Result Unit StoreFault) (e : D) → 51 ≤ length (blocks d) → Formatted blocks raises reads writes d es r e → FormatOutcome es (blocks d) r (blocks e) (powered e)
    pub replace : (ns : List Node) (d : D) (old new : List Entry) (r : Result Unit StoreFault) (e : D) → Lawful ns old → Lawful ns new → Idle (blocks d) old → powered d ≡ true → Replaced blocks raises reads writes d old new r e → ReplaceOutcome ns old new r (blocks e) (powered e)
    pub recover : (ns : List Node) (d : D) (es : List Entry) (r : Result Config StoreFault) (e : D) → 51 ≤ length (blocks d) → Restores ns (blocks d) (Ok es) → Recovered blocks raises reads writes ns d r e → RecoverOutcome ns es r (blocks e) (powered e)

-- the same of a device, by the record of its members
module _ {D : Type 0} (dev : Ghosts D) where
  abbrev pub BlocksAfterOn : Type 0
  BlocksAfterOn = BlocksAfter dev.blocks dev.powered dev.raises dev.reads dev.writes

  abbrev pub OffReplacesOn : Type 0
  OffReplacesOn = OffReplaces dev.blocks dev.powered dev.raises dev.reads dev.writes

  abbrev pub StandsOn : Type 0
  StandsOn = Stands dev.blocks dev.powered dev.raises dev.reads dev.writes
