-- The keys before `low` are lesser and those from `high` on greater.
use Rattle.std.proofs.Common.{◌-◌, ◌≤◌, length}
use Rattle.table.specs.Table.{Rising, Lesser, Greater}
use Rattle.table.proofs.find.Given as goal

abbrev pub invariant-loop-low : goal.invariant-loop-low
invariant-loop-low g l =
    (l.low ≤ l.high) × (l.high ≤ length l.rows) × (Rising g.R.Record.key g.R.Record.less l.rows → Lesser g.R.Record.key g.R.Record.less l.rows l.sought l.low × Greater g.R.Record.key g.R.Record.less l.rows l.sought l.high)

abbrev pub decreases-loop-low : goal.decreases-loop-low
decreases-loop-low g l = l.high - l.low
