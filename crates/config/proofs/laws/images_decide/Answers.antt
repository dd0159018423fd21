use Rattle.config.proofs.Images.{image_same}
use Rattle.config.proofs.laws.images_decide.Goals as goal

pub returns : goal.returns
returns c = image_same
