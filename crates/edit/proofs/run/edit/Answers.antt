use Rattle.schema.specs.Nodes.{nodes}
use Rattle.edit.specs.Lists.{items}
use Rattle.edit.proofs.Edited.{all_performed}
use Rattle.edit.proofs.run.edit.Goals as goal

pub returns-in_default : goal.returns-in_default
returns-in_default c =
    all_performed (nodes c.args.schema.now) c.args.option c.args.config.now c.perform_until.new.config (items c.args.list.now) c.in_default.ensures.left c.in_default.ensures.first
