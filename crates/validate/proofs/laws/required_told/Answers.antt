use Rattle.validate.specs.Required.{bounds}
use Rattle.validate.proofs.Records.{rises}
use Rattle.validate.proofs.Unmet.{unmet_told}
use Rattle.validate.proofs.Alone.{only}
use Rattle.validate.proofs.laws.required_told.Goals as goal

pub returns : goal.returns
returns c = λ s es. only _ _ (unmet_told es (bounds s) (rises (bounds s) s.lawful))
