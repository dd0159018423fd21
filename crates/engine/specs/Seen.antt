-- What an engine means: the model that it stands for, and its device, validator and schema.
use Rattle.std.specs.Prelude.{Bool, ◌&&◌, is_ok, Result}
use Rattle.schema.specs.declared.typed.Schema.{Schema}
use Rattle.schema.specs.declared.typed.SchemaFault.{SchemaFault}
use Rattle.config.specs.Configs.{used}
use Rattle.session.specs.Meaning.{held_of, trial_of}
use Rattle.model.specs.Model.{Model}
use Rattle.engine.specs.declared.engine.Engine.{Engine}

module _ {D V : Type 0} where
  abbrev pub device_of : Engine D V → D
  device_of e = e.device

  abbrev pub validator_of : Engine D V → V
  validator_of e = e.validator

  -- what checking the schema's rows gave
  abbrev pub schema_of : Engine D V → Result Schema SchemaFault
  schema_of e = e.schema

module _ {D V : Type 0} (powered : D → Bool) where
  abbrev pub seen : Engine D V → Model
  seen e =
      record { on = e.on && (powered e.device && is_ok e.schema); standing = used e.standing; running = used e.running; candidate = used e.candidate; held = held_of e.sessions; trial = trial_of e.trial }
