-- What performing one item answers and leaves.
use Rattle.std.specs.Prelude.{◌≡◌, List, Ok, Err, Result}
use Rattle.schema.specs.declared.nodes.Node.{Node}
use Rattle.schema.specs.declared.path.Path.{Path}
use Rattle.config.specs.Configs.{found, used}
use Rattle.config.specs.declared.config.Config.{Config}
use Rattle.config.specs.declared.entry.Entry.{Entry}
use Rattle.edit.specs.declared.faults.ItemFault.{ItemFault}
use Rattle.edit.specs.declared.item.Item.{Item}
use Rattle.edit.specs.declared.item.Operation.{Operation}
use Rattle.edit.specs.Does.{after_at, changed, judged}

-- The item was performed: at every path what its operation says is found.
pub record Performed (ns : List Node) (es : List Entry) (i : Item) (fs : List Entry) : Type 0 where
  pub operation : Operation
  pub node : Node
  pub lawful : judged ns es i ≡ Ok (operation, node)
  pub finds : (q : Path) → found fs q ≡ after_at ns es operation node i q
  pub entries : fs ≡ changed ns es operation node i

-- An item is performed, or refused by its first fault, and then nothing changes.
abbrev pub Applied : List Node → Config → Item → Config → Result Unit ItemFault → Type 0
Applied ns c i d (Ok fine) = Performed ns (used c) i (used d)
Applied ns c i d (Err f) = (judged ns (used c) i ≡ Err f) × (d ≡ c)
