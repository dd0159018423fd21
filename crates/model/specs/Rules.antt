-- The rules over a run: which answers and which next models a call may have, and what it asks of the device.
-- `ns` are the nodes of the schema, `verdict` is the validator's meaning.
use Rattle.std.specs.Prelude.{◌≡◌, ℕ, ◌<◌, ◌≤◌, false, ◌⊎◌, List, Some, None, Ok, Err, Option, Result, ◌≢◌}
use Rattle.device.specs.Accesses.{Carried}
use Rattle.device.specs.declared.Block.{Block}
use Rattle.device.specs.declared.DeviceFault.{DeviceFault}
use Rattle.device.specs.declared.DeviceFault.TheVariants.{PowerLost}
use Rattle.schema.specs.declared.nodes.Node.{Node}
use Rattle.config.specs.declared.entry.Entry.{Entry}
use Rattle.journal.specs.Plans.{as_writes, commit_plan}
use Rattle.journal.specs.Restart.{restart_plan}
use Rattle.validate.specs.declared.broken.Broken.{Broken}
use Rattle.store.specs.declared.faults.StoreFault.TheVariants.{Device}
use Rattle.calls.specs.declared.call.Answer.{Answer}
use Rattle.calls.specs.declared.call.Answer.TheVariants.{Done, Refused}
use Rattle.calls.specs.declared.call.Call.{Call}
use Rattle.calls.specs.declared.call.Call.TheVariants.{Open, Close, Lock, Unlock, Edit, Discard, Validate, Get, Commit, Cancel, Elapse, Restart}
use Rattle.calls.specs.declared.call.CommitKind.TheVariants.{Plain as plain_kind, Confirmed as confirmed_kind}
use Rattle.calls.specs.declared.faults.EngineFault.{EngineFault}
use Rattle.calls.specs.declared.faults.EngineFault.TheVariants.{Store}
use Rattle.model.specs.Model.{Model, fresh, with_on, with_standing}
use Rattle.model.specs.Refusals.{first, or_invalid, commit_refusals}
use Rattle.model.specs.Steps.{Opens, Closes, Locks, Unlocks, Edits, Discards, Validates, Gets, Tries, Cancels, Elapses}
use Rattle.model.specs.Acts.{committed}

-- power was lost in this call, at this block
abbrev pub power_lost : ℕ → Answer
power_lost at = Refused (Store (Device (PowerLost at)))

-- ---- what a call does to the model
-- A plain commit that nothing refuses is done; or, if the candidate differs from the standing configuration, power is lost in it: then
-- the engine is off, and the standing configuration is the one before or the candidate, whole, by the block where it was lost.
pub data StandsAfter (m : Model) : Answer → Model → Type 0 where
  stored : StandsAfter m Done (committed m)
  before : {at : ℕ} → (m.standing ≢ m.candidate) → at < 26 → StandsAfter m (power_lost at) (with_on m false)
  after : {at : ℕ} → (m.standing ≢ m.candidate) → (at ≡ 0) ⊎ (26 ≤ at) → StandsAfter m (power_lost at) (with_on (with_standing m m.candidate) false)

abbrev pub StandsUnless : Option EngineFault → Model → Answer → Model → Type 0
StandsUnless (Some f) m a m' = (a ≡ Refused f) × (m' ≡ m)
StandsUnless None m a m' = StandsAfter m a m'

-- a restart gives the standing configuration, or power is lost in it
pub data ComesBack (m : Model) : Answer → Model → Type 0 where
  back : ComesBack m Done (fresh m.standing)
  lost : {at : ℕ} → ComesBack m (power_lost at) (with_on m false)

module _ (ns : List Node) (verdict : List Entry → Result Unit Broken) where
  -- one call with its answer: the answer is settled by model and call, but for power
  abbrev pub Step : Model → Call → Answer → Model → Type 0
  Step m (Open s) a m' = Opens m s a m'
  Step m (Close s) a m' = Closes m s a m'
  Step m (Lock s n) a m' = Locks m s n a m'
  Step m (Unlock s n) a m' = Unlocks m s n a m'
  Step m (Edit s o items) a m' = Edits ns m s o items.now a m'
  Step m (Discard s) a m' = Discards m s a m'
  Step m (Validate s n) a m' = Validates verdict m s n a m'
  Step m (Get s n room) a m' = Gets m s n room a m'
  Step m (Commit s plain_kind timeout persist id) a m' = StandsUnless (or_invalid (first (commit_refusals m s plain_kind timeout persist id)) (verdict m.candidate)) m a m'
  Step m (Commit s confirmed_kind timeout persist id) a m' = Tries verdict m s timeout persist id a m'
  Step m (Cancel s id) a m' = Cancels m s id a m'
  Step m (Elapse n) a m' = Elapses m n a m'
  Step m Restart a m' = ComesBack m a m'

-- ---- what a call asks of the device
-- an answer by how the accesses ended: power lost at a block is answered exactly where one of them lost it there
abbrev pub ToldBy : Result Unit DeviceFault → Answer → Type 0
ToldBy (Ok done) a = a ≡ Done
ToldBy (Err f) a = a ≡ Refused (Store (Device f))

module _ {D : Type 0} (blocks : D → List Block) (raises : D → D → Type 0) (reads : D → ℕ → Result Block DeviceFault → D → Type 0) (writes : D → ℕ → List ℕ → Result Unit DeviceFault → D → Type 0) where
  -- the accesses of a commit
  pub record Writes (m : Model) (a : Answer) (d d' : D) : Type 0 where
    pub ended : Result Unit DeviceFault
    pub carried : Carried reads writes d (as_writes (commit_plan m.standing m.candidate)) ended d'
    pub told : ToldBy ended a

  -- one power-up, and the accesses of a restart
  pub record Repairs (a : Answer) (d d' : D) : Type 0 where
    pub raised : D
    pub up : raises d raised
    pub ended : Result Unit DeviceFault
    pub carried : Carried reads writes raised (restart_plan (blocks d)) ended d'
    pub told : ToldBy ended a

  abbrev pub WritesUnless : Option EngineFault → Model → Answer → D → D → Type 0
  WritesUnless (Some f) m a d d' = d' ≡ d
  WritesUnless None m a d d' = Writes m a d d'

  -- nothing, and the device is equal; or exactly the accesses of a commit or of a restart
  abbrev pub Asks : (List Entry → Result Unit Broken) → Model → Call → Answer → D → D → Type 0
  Asks verdict m (Open s) a d d' = d' ≡ d
  Asks verdict m (Close s) a d d' = d' ≡ d
  Asks verdict m (Lock s n) a d d' = d' ≡ d
  Asks verdict m (Unlock s n) a d d' = d' ≡ d
  Asks verdict m (Edit s o items) a d d' = d' ≡ d
  Asks verdict m (Discard s) a d d' = d' ≡ d
  Asks verdict m (Validate s n) a d d' = d' ≡ d
  Asks verdict m (Get s n room) a d d' = d' ≡ d
  Asks verdict m (Commit s plain_kind timeout persist id) a d d' = WritesUnless (or_invalid (first (commit_refusals m s plain_kind timeout persist id)) (verdict m.candidate)) m a d d'
  Asks verdict m (Commit s confirmed_kind timeout persist id) a d d' = d' ≡ d
  Asks verdict m (Cancel s id) a d d' = d' ≡ d
  Asks verdict m (Elapse n) a d d' = d' ≡ d
  Asks verdict m Restart a d d' = Repairs a d d'
