use Rattle.schema.specs.Nodes.{nodes}
use Rattle.validate.proofs.Schemas.{few_nodes, verdict_told}
use Rattle.validate.proofs.Alone.{only}
use Rattle.validate.proofs.laws.schema_told.Goals as goal

pub returns : goal.returns
returns c = λ s es. only _ _ (verdict_told (nodes s) (few_nodes s) es)
