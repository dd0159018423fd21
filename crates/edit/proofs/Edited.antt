-- An edit list from what its items come to.
use Rattle.std.proofs.Common.{◌≡◌, List, None, Ok, sym, ◌∙◌}
use Rattle.schema.specs.declared.nodes.Node.{Node}
use Rattle.config.specs.Configs.{used}
use Rattle.config.specs.declared.config.Config.{Config}
use Rattle.edit.specs.declared.item.Item.{Item}
use Rattle.edit.specs.declared.option.ErrorOption.{ErrorOption}
use Rattle.edit.specs.Does.{does}
use Rattle.edit.specs.Edited.{Edited}
use Rattle.edit.specs.Options.{first_refused, until}
use Rattle.edit.proofs.Judged.{never}
use Rattle.edit.proofs.Steps.{all_done, none_refused}

module _ (ns : List Node) (o : ErrorOption) (c d : Config) (is : List Item) where
  pub all_performed : used d ≡ until (does ns) (used c) is → first_refused (does ns) (used c) is ≡ None → Edited ns o c is d (Ok tt)
  all_performed l r =
      record {
        left_is = l ∙ sym ((none_refused (does ns) (used c) is (until (does ns) (used c) is) (all_done (does ns) 0 (used c) is r)).lefts o);
        done = λ _. r;
        refused = λ f e. absurd (never (sym e));
        rolled_back = λ f e _. absurd (never (sym e));
      }
