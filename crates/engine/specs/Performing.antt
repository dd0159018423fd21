-- What a call of an engine promises, on any engine.
use Rattle.std.specs.Prelude.{◌≡◌, ℕ, Bool, false, List, [], ◌++◌, length, drop, Some, None, Ok, Err, Option, Result}
use Rattle.device.specs.declared.Block.{Block}
use Rattle.device.specs.declared.Device as device
use Rattle.device.specs.declared.DeviceFault.{DeviceFault}
use Rattle.config.specs.Images.{image}
use Rattle.config.specs.declared.entry.Entry.{Entry}
use Rattle.validate.specs.declared.broken.Broken.{Broken}
use Rattle.validate.specs.declared.validator.Validator as validator
use Rattle.calls.specs.declared.call.Answer.{Answer}
use Rattle.calls.specs.declared.call.Call.{Call}
use Rattle.calls.specs.declared.faults.EngineFault.{EngineFault}
use Rattle.schema.specs.Checks.{Answered}
use Rattle.schema.specs.declared.nodes.NodeRow.{NodeRow}
use Rattle.model.specs.Acts.{Acts, Formatting}
use Rattle.model.specs.Model.{Model, contents, fresh, with_on}
use Rattle.model.specs.Refusals.{first, get_refusals}
use Rattle.engine.specs.declared.engine.Engine.{Engine}
use Rattle.engine.specs.Seen.{device_of, schema_of, seen, validator_of}

module _ {D V : Type 0} (blocks : D → List Block) (powered : D → Bool) (raises : D → D → Type 0) (reads : D → ℕ → Result Block DeviceFault → D → Type 0) (writes : D → ℕ → List ℕ → Result Unit DeviceFault → D → Type 0) (verdict : V → List Entry → Result Unit Broken) where
  -- answer, state and device are those of the rules; validator and schema stay
  pub record Performs (e : Engine D V) (c : Call) (a : Answer) (e' : Engine D V) : Type 0 where
    pub acts : Acts blocks powered raises reads writes (schema_of e) (verdict (validator_of e)) (seen powered e) (device_of e) c a (seen powered e') (device_of e')
    pub validator : validator_of e' ≡ validator_of e
    pub schema : schema_of e' ≡ schema_of e

  -- a format, likewise
  pub record FormattedBy (e : Engine D V) (bytes : List ℕ) (a : Answer) (e' : Engine D V) : Type 0 where
    pub formats : Formatting blocks powered raises reads writes (schema_of e) (verdict (validator_of e)) bytes (seen powered e) (device_of e) a (seen powered e') (device_of e')
    pub validator : validator_of e' ≡ validator_of e
    pub schema : schema_of e' ≡ schema_of e

-- the same by all that a device and a validator mean
module _ {D V : Type 0} (d : device.Ghosts D) (v : validator.Ghosts V) where
  abbrev pub PerformsOn : Engine D V → Call → Answer → Engine D V → Type 0
  PerformsOn e c a e' = Performs d.blocks d.powered d.raises d.reads d.writes v.verdict e c a e'

  abbrev pub FormattedOn : Engine D V → List ℕ → Answer → Engine D V → Type 0
  FormattedOn e bytes a e' = FormattedBy d.blocks d.powered d.raises d.reads d.writes v.verdict e bytes a e'

-- a new engine is off, its datastores are empty, and it has its device, its validator and what checking its schema's rows gave
module _ {D V : Type 0} (powered : D → Bool) where
  pub record New (d : D) (v : V) (rows : List NodeRow) (e : Engine D V) : Type 0 where
    pub device : device_of e ≡ d
    pub validator : validator_of e ≡ v
    pub schema : Answered rows (schema_of e)
    pub model : seen powered e ≡ with_on (fresh []) false

-- A get writes the image of a datastore to the front of the output; a refused one leaves the output as it was.
abbrev pub GotUnless : Option EngineFault → List Entry → List ℕ → Result ℕ EngineFault → List ℕ → Type 0
GotUnless (Some f) es before r after = (r ≡ Err f) × (after ≡ before)
GotUnless None es before r after = (r ≡ Ok (length (image es))) × (after ≡ image es ++ drop (length (image es)) before)

abbrev pub Got : Model → ℕ → ℕ → List ℕ → Result ℕ EngineFault → List ℕ → Type 0
Got m s d before r after = GotUnless (first (get_refusals m s d (length before))) (contents m d) before r after
