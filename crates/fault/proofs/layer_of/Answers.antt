use Rattle.std.proofs.Common.{refl}
use Rattle.fault.proofs.Rows.{layers}
use Rattle.fault.proofs.layer_of.Goals as goal

pub returns : goal.returns
returns c = layers _ _ c.look_up.ensures refl
