-- What a change does to a configuration.
use Rattle.std.specs.Prelude.{◌≡◌, ◌-◌, ◌<◌, List, ◌++◌, length, replicate, Ok, Err, Result}
use Rattle.schema.specs.Paths.{entry_answer}
use Rattle.schema.specs.declared.nodes.Node.{Node}
use Rattle.config.specs.Configs.{found, used, with_entry, without_entry}
use Rattle.config.specs.Images.{image}
use Rattle.config.specs.declared.config.Config.{Config}
use Rattle.amend.specs.declared.Amended.{Amended}
use Rattle.amend.specs.declared.Change.{Change}
use Rattle.amend.specs.declared.ChangeFault.{ChangeFault}
use Rattle.amend.specs.declared.ChangeFault.TheVariants.{Entry, Full}

-- the configuration with the entry put in, and then without the one that goes
pub record Made (ns : List Node) (c : Config) (x : Change) (a : Amended) : Type 0 where
  pub fits : entry_answer ns x.put.path x.put.value ≡ Ok tt
  pub taken : a.taken ≡ found (with_entry (used c) x.put) x.gone
  pub entries : used a.config ≡ without_entry (with_entry (used c) x.put) x.gone
  pub size : a.length ≡ length (image (used a.config))
  pub bytes : a.image ≡ image (used a.config) ++ replicate (769 - a.length) 0

-- A change is made, or refused because its entry is unlawful or a 49th.
abbrev pub Answered : List Node → Config → Change → Result Amended ChangeFault → Type 0
Answered ns c x (Ok a) = Made ns c x a
Answered ns c x (Err (Entry f)) = entry_answer ns x.put.path x.put.value ≡ Err f
Answered ns c x (Err Full) =
    (entry_answer ns x.put.path x.put.value ≡ Ok tt) × (48 < length (with_entry (used c) x.put))
