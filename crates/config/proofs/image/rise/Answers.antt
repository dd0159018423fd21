use Rattle.std.proofs.Common.{rules}
use Rattle.std.proofs.lemmas.Fn.{always_returns_same}
use Rattle.config.specs.Order.{path_sooner}
use Rattle.config.specs.declared.entry.Entry.{Entry}
use Rattle.config.proofs.Images.{rising_answer}
use Rattle.config.proofs.image.rise.Goals as goal

pub returns : goal.returns
returns c =
    rising_answer c.args.entries.now c.is_sorted_by.result
    (c.is_sorted_by.ensures.cases (λ (a b : Entry). path_sooner a.path b.path) (always_returns_same _ _ _ (λ a r f k. search rules)))
