use Rattle.std.proofs.Common.{◌≡◌, ◌≤◌, drop}
use Rattle.journal.specs.Layout.{rising}
use Rattle.store.proofs.header.rise.Given as goal

-- all blocks rise exactly if those that are left do
abbrev pub invariant-loop-block : goal.invariant-loop-block
invariant-loop-block l = (l.least ≤ 51) × (rising 26 l.blocks ≡ rising l.least (drop l.block-index l.blocks))
