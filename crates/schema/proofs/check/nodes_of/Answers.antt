use Rattle.schema.proofs.Small.{small}
use Rattle.schema.proofs.check.nodes_of.Goals as goal

pub node_of-requires : goal.node_of-requires
node_of-requires c = small c.args.rows.now c.requires c.loop-row.row-index _ c.loop-row-test.true
