-- Numbers that are checked, and events of the trial.
use Rattle.std.specs.Prelude.{◌≡◌, ℕ, ◌≤◌, Bool, true, ◌&&◌, List, [], ◌∷◌, is_ok, Some, None, Ok, Err, MatchBool, Option, Result}
use Rattle.session.specs.Locks.{locked_elsewhere}
use Rattle.session.specs.Numbers.{datastore_number, number_of}
use Rattle.session.specs.Trials.{Happening}
use Rattle.session.specs.declared.numbers.Datastore.{Datastore}
use Rattle.session.specs.declared.session.Session.{Session}
use Rattle.calls.specs.declared.faults.EngineFault.{EngineFault}
use Rattle.calls.specs.declared.faults.EngineFault.TheVariants.{Plain, Store}
use Rattle.calls.specs.declared.faults.Refusal.{Refusal}
use Rattle.calls.specs.declared.faults.Refusal.TheVariants.{EngineOff, LockedElsewhere}
use Rattle.calls.specs.declared.call.Answer.{Answer}
use Rattle.calls.specs.declared.call.Answer.TheVariants.{Refused}
use Rattle.schema.specs.Nodes.{nodes}
use Rattle.schema.specs.declared.typed.Schema.{Schema}
use Rattle.schema.specs.declared.typed.SchemaFault.{SchemaFault}
use Rattle.edit.specs.declared.item.Item.{Item}
use Rattle.edit.specs.declared.option.ErrorOption.{ErrorOption}
use Rattle.model.specs.Model.{Model, fresh, with_on}
use Rattle.model.specs.Acts.{Stores, FormatsValid, RecoversTo, Refuses}
use Rattle.store.specs.Calls.{small}
use Rattle.store.specs.declared.faults.StoreFault.TheVariants.{TooSmall}
use Rattle.model.specs.Refusals.{first, or_invalid, unless_open, of_kind, option_at, edit_refusals, get_refusals, commit_refusals}
use Rattle.calls.specs.declared.call.CommitKind.{CommitKind}
use Rattle.config.specs.declared.entry.Entry.{Entry}
use Rattle.device.specs.declared.Block.{Block}
use Rattle.device.specs.declared.Device as device
use Rattle.device.specs.declared.DeviceFault.{DeviceFault}
use Rattle.validate.specs.declared.broken.Broken.{Broken}
use Rattle.validate.specs.declared.validator.Validator as validator
use Rattle.model.specs.Steps.{after_event, EditsItems}
use Rattle.engine.specs.declared.engine.Engine.{Engine}
use Rattle.engine.specs.Seen.{device_of, schema_of, seen, validator_of}

-- what a check refuses, if anything
abbrev pub refusal_of : Result Unit Refusal → Option EngineFault
refusal_of (Ok done) = None
refusal_of (Err r) = Some (Plain r)

-- why a session may make no call, or none that changes the candidate
abbrev pub open_refusal : Model → ℕ → Option EngineFault
open_refusal m s = first (unless_open m s [])

abbrev pub candidate_refusal : Model → ℕ → Option EngineFault
candidate_refusal m s = first (unless_open m s ((locked_elsewhere m.held s 2, LockedElsewhere) ∷ []))

-- what items do to the candidate, unless the schema is unlawful
abbrev pub ItemsBy : Result Schema SchemaFault → ErrorOption → List Item → Model → Answer → Model → Type 0
ItemsBy (Err f) o is m a m' = (a ≡ Refused (Plain EngineOff)) × (m' ≡ m)
ItemsBy (Ok s) o is m a m' = EditsItems (nodes s) m (Some o) (Some is) a m'

-- an edit is refused, or goes by this error option
abbrev pub EditChecked : Model → ℕ → ℕ → Bool → Result ErrorOption EngineFault → Type 0
EditChecked m s o listed (Ok way) = (first (edit_refusals m s o listed) ≡ None) × (option_at o ≡ Some way)
EditChecked m s o listed (Err f) = first (edit_refusals m s o listed) ≡ Some f

-- a commit is refused, or made by this session
abbrev pub CommitChecked : (List Entry → Result Unit Broken) → Model → ℕ → CommitKind → ℕ → ℕ → ℕ → Result Session EngineFault → Type 0
CommitChecked verdict m s kind timeout persist id (Ok by) =
    (or_invalid (first (commit_refusals m s kind timeout persist id)) (verdict m.candidate) ≡ None) × (number_of by ≡ s) × (m.on ≡ true) × (of_kind kind timeout persist ≡ true)
CommitChecked verdict m s kind timeout persist id (Err f) =
    or_invalid (first (commit_refusals m s kind timeout persist id)) (verdict m.candidate) ≡ Some f

-- a get is refused, or of this datastore
abbrev pub GetChecked : Model → ℕ → ℕ → ℕ → Result Datastore EngineFault → Type 0
GetChecked m s d room (Ok of) = (first (get_refusals m s d room) ≡ None) × (datastore_number of ≡ d) × (769 ≤ room)
GetChecked m s d room (Err f) = first (get_refusals m s d room) ≡ Some f

module _ {D V : Type 0} (powered : D → Bool) where
  -- an event of the trial does what the rules say, and nothing else changes
  pub record Happened (h : Happening) (e e' : Engine D V) : Type 0 where
    pub model : seen powered e' ≡ after_event (seen powered e) h
    pub device : device_of e' ≡ device_of e
    pub validator : validator_of e' ≡ validator_of e
    pub schema : schema_of e' ≡ schema_of e

  pub record ItemsEdited (o : ErrorOption) (is : List Item) (e : Engine D V) (a : Answer) (e' : Engine D V) : Type 0 where
    pub items : ItemsBy (schema_of e) o is (seen powered e) a (seen powered e')
    pub device : device_of e' ≡ device_of e
    pub validator : validator_of e' ≡ validator_of e
    pub schema : schema_of e' ≡ schema_of e

-- the candidate is stored and becomes running, while the engine is on; validator and schema stay
module _ {D V : Type 0} (blocks : D → List Block) (powered : D → Bool) (raises : D → D → Type 0) (reads : D → ℕ → Result Block DeviceFault → D → Type 0) (writes : D → ℕ → List ℕ → Result Unit DeviceFault → D → Type 0) where
  pub record StoresTo (e : Engine D V) (a : Answer) (e' : Engine D V) : Type 0 where
    pub stores : (seen powered e).on ≡ true → Stores blocks powered raises reads writes (seen powered e) (device_of e) a (seen powered e') (device_of e')
    pub validator : validator_of e' ≡ validator_of e
    pub schema : schema_of e' ≡ schema_of e

  -- a format of a configuration that was read, of an engine with a lawful schema
  pub record FirstWritten (verdict : V → List Entry → Result Unit Broken) (es : List Entry) (e : Engine D V) (a : Answer) (e' : Engine D V) : Type 0 where
    pub formats : is_ok (schema_of e) ≡ true → FormatsValid blocks powered raises reads writes (verdict (validator_of e) es) (seen powered e) es (device_of e) a (seen powered e') (device_of e')
    pub validator : validator_of e' ≡ validator_of e
    pub schema : schema_of e' ≡ schema_of e

  -- a restart of an engine with this schema
  pub record RecoveredWith (s : Schema) (e : Engine D V) (a : Answer) (e' : Engine D V) : Type 0 where
    pub restarts : is_ok (schema_of e) ≡ true → MatchBool (small (blocks (device_of e))) (Refuses (Store TooSmall) (seen powered e) (device_of e) a (seen powered e') (device_of e')) (RecoversTo blocks powered raises reads writes (nodes s) (seen powered e) (device_of e) a (seen powered e') (device_of e'))
    pub validator : validator_of e' ≡ validator_of e
    pub schema : schema_of e' ≡ schema_of e

-- the same by all that a device and a validator mean
module _ {D V : Type 0} (d : device.Ghosts D) where
  abbrev pub StoresOn : Engine D V → Answer → Engine D V → Type 0
  StoresOn e a e' = StoresTo d.blocks d.powered d.raises d.reads d.writes e a e'

  abbrev pub FirstWrittenOn : validator.Ghosts V → List Entry → Engine D V → Answer → Engine D V → Type 0
  FirstWrittenOn v es e a e' = FirstWritten d.blocks d.powered d.raises d.reads d.writes v.verdict es e a e'

  abbrev pub RecoveredOn : Schema → Engine D V → Answer → Engine D V → Type 0
  RecoveredOn s e a e' = RecoveredWith d.blocks d.powered d.raises d.reads d.writes s e a e'

-- one configuration is in all places, and the engine's flag is set; nothing else changes
module _ {D V : Type 0} (powered : D → Bool) where
  pub record Loaded (es : List Entry) (e e' : Engine D V) : Type 0 where
    pub model : seen powered e' ≡ with_on (fresh es) (powered (device_of e) && is_ok (schema_of e))
    pub device : device_of e' ≡ device_of e
    pub validator : validator_of e' ≡ validator_of e
    pub schema : schema_of e' ≡ schema_of e
