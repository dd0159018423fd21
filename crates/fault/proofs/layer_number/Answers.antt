use Rattle.std.proofs.Common.{rules}
use borrow.Author.Rules.{of_calls}
use Rattle.fault.proofs.Rows.{layer_told}
use Rattle.fault.proofs.layer_number.Goals as goal

pub returns : goal.returns
returns c = layer_told _ _ _ c.layer_of.ensures (search (rules, of_calls, c.map_or.ensures))
