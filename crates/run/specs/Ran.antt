-- A format and a list of calls on one engine.
use Rattle.std.specs.Prelude.{◌≡◌, ℕ, min, Bool, List, map, length, take, drop, Ok, Err, Result}
use Rattle.device.specs.declared.Block.{Block}
use Rattle.device.specs.declared.Device as device
use Rattle.device.specs.declared.DeviceFault.{DeviceFault}
use Rattle.schema.specs.Nodes.{nodes}
use Rattle.schema.specs.declared.typed.Schema.{Schema}
use Rattle.config.specs.Images.{image}
use Rattle.config.specs.Lawful.{Lawful}
use Rattle.config.specs.declared.entry.Entry.{Entry}
use Rattle.validate.specs.declared.broken.Broken.{Broken}
use Rattle.validate.specs.declared.validator.Validator as validator
use Rattle.calls.specs.declared.call.Answer.{Answer}
use Rattle.calls.specs.declared.call.Answer.TheVariants.{Done, Refused}
use Rattle.calls.specs.declared.call.Call.{Call}
use Rattle.calls.specs.declared.faults.EngineFault.{EngineFault}
use Rattle.engine.specs.declared.engine.Engine.{Engine}
use Rattle.engine.specs.Performing.{FormattedBy}
use Rattle.engine.specs.Seen.{device_of, schema_of, seen, validator_of}
use Rattle.model.specs.Link.{Linked, Tied}
use Rattle.model.specs.Model.{Model, fresh}
use Rattle.model.specs.Promise.{AtAll, Follows, Point, Promise, left_with, reached}

module _ {D V : Type 0} (blocks : D → List Block) (powered : D → Bool) (raises : D → D → Type 0) (reads : D → ℕ → Result Block DeviceFault → D → Type 0) (writes : D → ℕ → List ℕ → Result Unit DeviceFault → D → Type 0) (verdict : V → List Entry → Result Unit Broken) where
  -- points from one engine to another, from a model that the first is tied to
  pub record Points (s : Schema) (m : Model) (e : Engine D V) (calls : List Call) (answers : List Answer) (e' : Engine D V) : Type 0 where
    pub points : List (Point D)
    pub calls_are : map (λ (p : Point D). p.call) points ≡ calls
    pub answers_are : map (λ (p : Point D). p.answer) points ≡ answers
    pub follows : Follows blocks powered raises reads writes (nodes s) (verdict (validator_of e)) m (device_of e) points
    pub everywhere : AtAll (Linked blocks powered (nodes s) (verdict (validator_of e))) m (device_of e) points
    pub device_is : left_with (device_of e) points ≡ device_of e'
    pub tied : Tied blocks powered (nodes s) (verdict (validator_of e)) (seen powered e') (reached m points) (device_of e')

  -- whatever model the engine is tied to, the calls go on from it by the rules
  abbrev pub Chain : Engine D V → List Call → List Answer → Engine D V → Type 0
  Chain e calls answers e' = (s : Schema) (m : Model) → schema_of e ≡ Ok s → Tied blocks powered (nodes s) (verdict (validator_of e)) (seen powered e) m (device_of e) → Points s m e calls answers e'

  -- the format was done, and n calls were performed
  pub record RanOn (e : Engine D V) (bytes : List ℕ) (calls : List Call) (before : List Answer) (n : ℕ) (after : List Answer) (e' : Engine D V) : Type 0 where
    -- the engine that format left, by exactly the accesses of a format
    pub formatted : Engine D V
    pub format : FormattedBy blocks powered raises reads writes verdict e bytes Done formatted
    pub schema : Schema
    pub schema_is : schema_of e ≡ Ok schema
    pub entries : List Entry
    pub lawful : Lawful (nodes schema) entries
    pub image_is : bytes ≡ image entries
    pub started : seen powered formatted ≡ fresh entries
    -- as many calls as there are slots; further slots stay
    pub count : n ≡ min (length calls) (length before)
    pub rest : drop n after ≡ drop n before
    -- validator and schema are those at entry
    pub validator_stays : validator_of e' ≡ validator_of e
    pub schema_stays : schema_of e' ≡ schema_of e
    pub promise : Promise blocks powered raises reads writes (nodes schema) (verdict (validator_of e)) entries (device_of formatted) (take n calls) (take n after) (seen powered e') (device_of e')

  -- Where the format is refused, all is as that refusal leaves it, and no slot is touched.
  abbrev pub Ran : Engine D V → List ℕ → List Call → List Answer → Result ℕ EngineFault → List Answer → Engine D V → Type 0
  Ran e bytes calls before (Err f) after e' = FormattedBy blocks powered raises reads writes verdict e bytes (Refused f) e' × (after ≡ before)
  Ran e bytes calls before (Ok n) after e' = RanOn e bytes calls before n after e'

-- the same by all that a device and a validator mean
module _ {D V : Type 0} (d : device.Ghosts D) (v : validator.Ghosts V) where
  abbrev pub ChainOn : Engine D V → List Call → List Answer → Engine D V → Type 0
  ChainOn e calls answers e' = Chain d.blocks d.powered d.raises d.reads d.writes v.verdict e calls answers e'

  abbrev pub RunOn : Engine D V → List ℕ → List Call → List Answer → Result ℕ EngineFault → List Answer → Engine D V → Type 0
  RunOn e bytes calls before r after e' = Ran d.blocks d.powered d.raises d.reads d.writes v.verdict e bytes calls before r after e'
