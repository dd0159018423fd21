use Rattle.std.proofs.Common.{rules, sym, append_assoc}
use Rattle.std.proofs.Output.{has_written_append, has_written_of_eq}
use Rattle.sample.proofs.Growing.{one_more}
use Rattle.sample.proofs.listed.ListedDisplay.fmt.Goals as goal

pub loop-entry-preserved : goal.loop-entry-preserved
loop-entry-preserved g c p =
    has_written_of_eq _ _ _ _ _ (sym (one_more c.entries-entry-items.result.now c.loop-entry.entry-index (record { path = record { node = 0; k1 = 0; k2 = 0 }; value = 0 }) (search rules))) (has_written_append _ _ _ _ _ _ (c.loop-entry.invariant p) (search (rules, append_assoc)))
