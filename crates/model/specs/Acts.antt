-- What the calls do on any engine: the answer, the model afterwards, and what was asked of the device. `schema` is what checking the
-- schema's rows gave, `verdict` the validator's meaning; `blocks`, `powered`, `raises`, `reads` and `writes` are the device's.
use Rattle.std.specs.Prelude.{◌≡◌, ℕ, Bool, false, List, [], Some, None, Ok, Err, MatchBool, Option, Result, ◌≢◌}
use Rattle.device.specs.declared.Block.{Block}
use Rattle.device.specs.declared.DeviceFault.{DeviceFault}
use Rattle.schema.specs.Nodes.{nodes}
use Rattle.schema.specs.declared.nodes.Node.{Node}
use Rattle.schema.specs.declared.typed.Schema.{Schema}
use Rattle.schema.specs.declared.typed.SchemaFault.{SchemaFault}
use Rattle.config.specs.Configs.{used}
use Rattle.config.specs.Images.{image}
use Rattle.config.specs.Lawful.{Lawful}
use Rattle.config.specs.declared.config.Config.{Config}
use Rattle.config.specs.declared.entry.Entry.{Entry}
use Rattle.session.specs.Trials.{confirm, trial_after}
use Rattle.validate.specs.declared.broken.Broken.{Broken}
use Rattle.store.specs.Calls.{small, Formats, Recovers, Replaced}
use Rattle.store.specs.declared.faults.StoreFault.{StoreFault}
use Rattle.store.specs.declared.faults.StoreFault.TheVariants.{TooSmall}
use Rattle.calls.specs.declared.call.Answer.{Answer}
use Rattle.calls.specs.declared.call.Answer.TheVariants.{Done, Refused}
use Rattle.calls.specs.declared.call.Call.{Call}
use Rattle.calls.specs.declared.call.Call.TheVariants.{Open, Close, Lock, Unlock, Edit, Discard, Validate, Get, Commit, Cancel, Elapse, Restart}
use Rattle.calls.specs.declared.call.CommitKind.TheVariants.{Plain as plain_kind, Confirmed as confirmed_kind}
use Rattle.calls.specs.declared.faults.EngineFault.{EngineFault}
use Rattle.calls.specs.declared.faults.EngineFault.TheVariants.{Plain, Schema as bad_schema, Invalid, Store}
use Rattle.calls.specs.declared.faults.Refusal.TheVariants.{InitialImage}
use Rattle.model.specs.Model.{Model, fresh, with_on, with_running, with_standing, with_trial}
use Rattle.model.specs.Refusals.{first, or_invalid, commit_refusals}
use Rattle.model.specs.Steps.{Opens, Closes, Locks, Unlocks, Edits, Discards, Validates, Gets, Tries, Cancels, Elapses}

-- refused by this fault, and nothing changes
abbrev pub Refuses : {D : Type 0} → EngineFault → Model → D → Answer → Model → D → Type 0
Refuses f m d a m' d' = (a ≡ Refused f) × (m' ≡ m) × (d' ≡ d)

-- the nodes of the schema
abbrev pub nodes_of : Result Schema SchemaFault → List Node
nodes_of (Ok s) = nodes s
nodes_of (Err f) = []

-- ---- plain commit
-- running becomes the candidate and stands, and a trial ends confirmed
abbrev pub committed : Model → Model
committed m = with_trial (with_running (with_standing m m.candidate) m.candidate) (trial_after m.trial confirm)

-- done if it was stored; else the store's fault, whole, and only power may have changed: `power` is whether it is on now
abbrev pub StoredAs : Model → Result Unit StoreFault → Bool → Answer → Model → Type 0
StoredAs m (Ok done) power a m' = (a ≡ Done) × (m' ≡ with_on (committed m) power)
StoredAs m (Err f) power a m' = (a ≡ Refused (Store f)) × (m' ≡ with_on m power)

-- ---- restart
-- the configuration found is in all places; else the store's fault, whole, and the engine is off
abbrev pub RestartedAs : Model → Result Config StoreFault → Bool → Answer → Model → Type 0
RestartedAs m (Ok c) power a m' = (a ≡ Done) × (m' ≡ with_on (fresh (used c)) power)
RestartedAs m (Err f) power a m' = (a ≡ Refused (Store f)) × (m' ≡ with_on m false)

-- ---- format
-- bytes are the image of this configuration that the schema allows, or of none
abbrev pub ImageOf : List Node → List ℕ → Option (List Entry) → Type 0
ImageOf ns bytes (Some es) = Lawful ns es × (bytes ≡ image es)
ImageOf ns bytes None = (es : List Entry) → Lawful ns es → bytes ≢ image es

abbrev pub FormattedAs : Model → List Entry → Result Unit StoreFault → Bool → Answer → Model → Type 0
FormattedAs m es (Ok done) power a m' = (a ≡ Done) × (m' ≡ with_on (fresh es) power)
FormattedAs m es (Err f) power a m' = (a ≡ Refused (Store f)) × (m' ≡ with_on m false)

module _ {D : Type 0} (blocks : D → List Block) (powered : D → Bool) (raises : D → D → Type 0) (reads : D → ℕ → Result Block DeviceFault → D → Type 0) (writes : D → ℕ → List ℕ → Result Unit DeviceFault → D → Type 0) where
  -- the standing configuration is replaced by the candidate
  pub record Stores (m : Model) (d : D) (a : Answer) (m' : Model) (d' : D) : Type 0 where
    pub result : Result Unit StoreFault
    pub stored : Replaced blocks raises reads writes d m.standing m.candidate result d'
    pub answer : StoredAs m result (powered d') a m'

  abbrev pub StoresUnless : Option EngineFault → Model → D → Answer → Model → D → Type 0
  StoresUnless (Some f) m d a m' d' = Refuses f m d a m' d'
  StoresUnless None m d a m' d' = Stores m d a m' d'

  abbrev pub Commits : (List Entry → Result Unit Broken) → Model → ℕ → ℕ → ℕ → ℕ → D → Answer → Model → D → Type 0
  Commits verdict m s timeout persist id d a m' d' =
      StoresUnless (or_invalid (first (commit_refusals m s plain_kind timeout persist id)) (verdict m.candidate)) m d a m' d'

  -- a device of at least 51 blocks is recovered
  pub record RecoversTo (ns : List Node) (m : Model) (d : D) (a : Answer) (m' : Model) (d' : D) : Type 0 where
    pub result : Result Config StoreFault
    pub recovered : Recovers blocks raises reads writes ns d result d'
    pub answer : RestartedAs m result (powered d') a m'

  abbrev pub Restarts : Result Schema SchemaFault → Model → D → Answer → Model → D → Type 0
  Restarts (Err f) m d a m' d' = Refuses (bad_schema f) m d a m' d'
  Restarts (Ok s) m d a m' d' = MatchBool (small (blocks d)) (Refuses (Store TooSmall) m d a m' d') (RecoversTo (nodes s) m d a m' d')

  -- a device of at least 51 blocks is written the first time
  pub record FormatsTo (m : Model) (es : List Entry) (d : D) (a : Answer) (m' : Model) (d' : D) : Type 0 where
    pub result : Result Unit StoreFault
    pub formatted : Formats blocks raises reads writes d es result d'
    pub answer : FormattedAs m es result (powered d') a m'

  -- the first of: schema, image, validator, number of blocks
  abbrev pub FormatsValid : Result Unit Broken → Model → List Entry → D → Answer → Model → D → Type 0
  FormatsValid (Err b) m es d a m' d' = Refuses (Invalid b) m d a m' d'
  FormatsValid (Ok done) m es d a m' d' = MatchBool (small (blocks d)) (Refuses (Store TooSmall) m d a m' d') (FormatsTo m es d a m' d')

  abbrev pub FormatsImage : (List Entry → Result Unit Broken) → Option (List Entry) → Model → D → Answer → Model → D → Type 0
  FormatsImage verdict None m d a m' d' = Refuses (Plain InitialImage) m d a m' d'
  FormatsImage verdict (Some es) m d a m' d' = FormatsValid (verdict es) m es d a m' d'

  pub record FormatsRead (s : Schema) (verdict : List Entry → Result Unit Broken) (bytes : List ℕ) (m : Model) (d : D) (a : Answer) (m' : Model) (d' : D) : Type 0 where
    pub entries : Option (List Entry)
    pub are : ImageOf (nodes s) bytes entries
    pub answer : FormatsImage verdict entries m d a m' d'

  abbrev pub Formatting : Result Schema SchemaFault → (List Entry → Result Unit Broken) → List ℕ → Model → D → Answer → Model → D → Type 0
  Formatting (Err f) verdict bytes m d a m' d' = Refuses (bad_schema f) m d a m' d'
  Formatting (Ok s) verdict bytes m d a m' d' = FormatsRead s verdict bytes m d a m' d'

  -- ---- every call
  module _ (schema : Result Schema SchemaFault) (verdict : List Entry → Result Unit Broken) where
    abbrev pub Acts : Model → D → Call → Answer → Model → D → Type 0
    Acts m d (Open s) a m' d' = Opens m s a m' × (d' ≡ d)
    Acts m d (Close s) a m' d' = Closes m s a m' × (d' ≡ d)
    Acts m d (Lock s n) a m' d' = Locks m s n a m' × (d' ≡ d)
    Acts m d (Unlock s n) a m' d' = Unlocks m s n a m' × (d' ≡ d)
    Acts m d (Edit s o items) a m' d' = Edits (nodes_of schema) m s o items.now a m' × (d' ≡ d)
    Acts m d (Discard s) a m' d' = Discards m s a m' × (d' ≡ d)
    Acts m d (Validate s n) a m' d' = Validates verdict m s n a m' × (d' ≡ d)
    Acts m d (Get s n room) a m' d' = Gets m s n room a m' × (d' ≡ d)
    Acts m d (Commit s plain_kind timeout persist id) a m' d' = Commits verdict m s timeout persist id d a m' d'
    Acts m d (Commit s confirmed_kind timeout persist id) a m' d' = Tries verdict m s timeout persist id a m' × (d' ≡ d)
    Acts m d (Cancel s id) a m' d' = Cancels m s id a m' × (d' ≡ d)
    Acts m d (Elapse n) a m' d' = Elapses m n a m' × (d' ≡ d)
    Acts m d Restart a m' d' = Restarts schema m d a m' d'
