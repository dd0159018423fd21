use Rattle.std.proofs.Common.{ap, ◌∙◌}
use Rattle.schema.specs.Depth.{two_deep}
use Rattle.schema.proofs.Depth.{nests}
use Rattle.schema.proofs.typed.Schema.check.Goals as goal

pub invariant_of-result : goal.invariant_of-result
invariant_of-result c = record { nested = ap two_deep c.nodes_of.ensures ∙ nests c.args.rows.now c.in_ok-check_rows.ensures }
