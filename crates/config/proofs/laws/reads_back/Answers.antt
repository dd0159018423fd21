use Rattle.std.proofs.Common.{Ok, Err, sym, refl}
use Rattle.config.specs.Laws.{ReadsBack}
use Rattle.config.specs.Configs.{used}
use Rattle.config.proofs.Images.{image_same}
use Rattle.config.proofs.laws.reads_back.Goals as goal

back : ReadsBack
back ns es (Ok c) lawful read = sym (image_same es (used c) read.1)
back ns es (Err f) lawful read = read es lawful refl

pub returns : goal.returns
returns c = back
