use Rattle.validate.proofs.Records.{rises}
use Rattle.validate.proofs.required.Required.get.Goals as goal

pub returns : goal.returns
returns c = c.get.ensures (rises _ c.args.self.now.lawful)
