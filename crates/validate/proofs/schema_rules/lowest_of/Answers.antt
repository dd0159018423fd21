use Rattle.std.proofs.Common.{◌+◌, drop, sym, ap, ◌∙◌}
use Rattle.validate.specs.Search.{lowest_from}
use Rattle.validate.proofs.Turns.{from_turn, from_done}
use Rattle.validate.proofs.schema_rules.lowest_of.Goals as goal

pub loop-keyed-preserved : goal.loop-keyed-preserved
loop-keyed-preserved g c = λ t h.
    let es = c.args.entries.now in
    let i = c.loop-keyed.keyed-index in
    c.loop-keyed.invariant t h
    ∙ from_turn t c.args.node c.loop-keyed.lowest es i c.loop-keyed-test.true
    ∙ ap (λ o. lowest_from t c.args.node o (drop (i + 1) es)) (sym (c.lower-lowest-in-loop-keyed.ensures t h))

pub returns : goal.returns
returns g c = λ t h.
    let es = c.args.entries.now in
    sym (ap (λ o. lowest_from t c.args.node o es) (sym (c.lower-lowest.ensures t h))
    ∙ c.loop-keyed.invariant t h
    ∙ from_done t c.args.node c.loop-keyed.lowest es c.loop-keyed.keyed-index c.loop-keyed-test.false)
