-- As large as the smaller side.
use Rattle.std.proofs.Common.{arith}
use Rattle.mirror.specs.Merged.{length_merged}
use Rattle.mirror.proofs.MirrorDevice.block_count.Goals as goal

pub returns : goal.returns
returns g c = omega (arith, length_merged (g.A.Device.blocks c.args.self.now.first) (g.B.Device.blocks c.args.self.now.second))
