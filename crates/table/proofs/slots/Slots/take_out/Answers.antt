use Rattle.table.proofs.Lists.{none_taken}
use Rattle.table.proofs.slots.Slots.take_out.Goals as goal

pub returns-in_err-row : goal.returns-in_err-row
returns-in_err-row g c =
    none_taken g.R.Record.key g.R.Record.less
    (record { irreflexive = g.met.R.Record.irreflexive; transitive = g.met.R.Record.transitive; connected = g.met.R.Record.connected })
    c.args.self.now c.args.sought c.from_residual.result c.from_residual.ensures c.in_err-row.ensures.takes
