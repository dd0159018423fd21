-- What ties a model to a device, a schema and a validator.
use Rattle.std.specs.Prelude.{◌≡◌, ◌≤◌, Bool, true, false, List, length, Ok, Result}
use Rattle.device.specs.declared.Block.{Block}
use Rattle.schema.specs.declared.nodes.Node.{Node}
use Rattle.config.specs.Lawful.{Lawful}
use Rattle.config.specs.declared.entry.Entry.{Entry}
use Rattle.journal.specs.Restart.{Restores, Idle}
use Rattle.session.specs.Trials.{is_pending}
use Rattle.validate.specs.declared.broken.Broken.{Broken}
use Rattle.model.specs.Model.{Model, with_standing}

-- what an engine knows of a model: all but, while off, the standing configuration
pub record Agrees (x m : Model) : Type 0 where
  pub known : List Entry
  pub same : x ≡ with_standing m known
  pub knows : m.on ≡ true → known ≡ m.standing

module _ {D : Type 0} (blocks : D → List Block) (powered : D → Bool) (ns : List Node) (verdict : List Entry → Result Unit Broken) where
  pub record Linked (m : Model) (d : D) : Type 0 where
    pub room : 51 ≤ length (blocks d)
    -- a restart now gives the standing configuration, from blocks and schema alone
    pub restores : Restores ns (blocks d) (Ok m.standing)
    -- while on, power is on and nothing is journalled
    pub live : m.on ≡ true → (powered d ≡ true) × Idle (blocks d) m.standing
    pub running_lawful : Lawful ns m.running
    pub candidate_lawful : Lawful ns m.candidate
    -- the validator accepts running, on or off, and the standing configuration
    pub running_valid : verdict m.running ≡ Ok tt
    pub standing_valid : verdict m.standing ≡ Ok tt
    -- while on and without a trial, running is the standing configuration
    pub settled : m.on ≡ true → is_pending m.trial ≡ false → m.running ≡ m.standing

  -- an engine's view, a model and a device belong together
  pub record Tied (x m : Model) (d : D) : Type 0 where
    pub agrees : Agrees x m
    pub linked : Linked m d
