use Rattle.std.proofs.Common.{sym, ◌∙◌}
use Rattle.std.proofs.lemmas.List.{at_drop_more, at_drop_all}
use Rattle.std.proofs.lemmas.Bool.{cond-true, cond-false, eq-eqb, ne_eqb}
use Rattle.fault.specs.Rows.{looked_up}
use Rattle.fault.specs.declared.Layer.TheVariants.{Session}
use Rattle.fault.proofs.look_up.Goals as goal

pub loop-row-preserved : goal.loop-row-preserved
unfolding looked_up
loop-row-preserved c =
    c.loop-row.invariant
    ∙ at_drop_more (λ rows. looked_up rows c.args.number) c.args.rows.now c.loop-row.row-index (0, Session) c.loop-row-test.true
    ∙ cond-false _ _ _ (ne_eqb _ _ c.if-row-number.false)

pub returns-then-row-number : goal.returns-then-row-number
unfolding looked_up
returns-then-row-number c =
    sym (c.loop-row.invariant
    ∙ at_drop_more (λ rows. looked_up rows c.args.number) c.args.rows.now c.loop-row.row-index (0, Session) c.loop-row-test.true
    ∙ cond-true _ _ _ (eq-eqb _ _ c.if-row-number.true))

pub returns : goal.returns
unfolding looked_up
returns c =
    sym (c.loop-row.invariant ∙ at_drop_all (λ rows. looked_up rows c.args.number) c.args.rows.now c.loop-row.row-index c.loop-row-test.false)
