use Rattle.config.proofs.Order.{rises}
use Rattle.config.proofs.config.Config.get.Goals as goal

pub returns : goal.returns
returns c = c.get.ensures (rises _ c.args.self.now.rises)
