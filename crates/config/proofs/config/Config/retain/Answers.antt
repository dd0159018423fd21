use Rattle.std.proofs.Common.{◌+◌, length, take, sym, ap, ◌∙◌, arith, length-set}
use Rattle.config.specs.Order.{rising}
use Rattle.config.specs.Configs.{used}
use Rattle.config.proofs.Kept.{kept_all, kept_no, kept_rises, kept_yes, retained}
use Rattle.config.proofs.Places.{used_few}
use Rattle.config.proofs.config.Config.retain.Goals as goal
use Rattle.config.proofs.config.Config.retain.Goals.{then-keeps, else-keeps}

pub loop-entry-preserved : goal.loop-entry-preserved
loop-entry-preserved g c =
    let f = g.C.Choice.chosen c.args.choice.now in
    let self = c.args.self.now in
    let i = c.loop-entry.entry-index in
    let kept = c.loop-entry.kept in
    let n = c.loop-entry.count in
    let inv = c.loop-entry.invariant in
    let lt = c.loop-entry-test.true in
    let few = used_few self in
    let long = ap length inv.0 in
    elim c.if-keeps.branch [
      | then-keeps w ↦ (inv.0, omega (arith, inv.1, w.count-is), ap length w.kept-is ∙ length-set kept n _ ∙ inv.2, ap (λ k. take k c.if-keeps.kept) w.count-is ∙ ap (take (n + 1)) w.kept-is ∙ kept_yes f self _ i _ kept n inv.0 lt (sym c.keeps.ensures ∙ w.if-keeps.true) (omega (arith, inv.1, inv.2, few, long, lt)) inv.3)
      | else-keeps w ↦ (inv.0, omega (arith, inv.1, w.count-is), ap length w.kept-is ∙ inv.2, ap (λ k. take k c.if-keeps.kept) w.count-is ∙ ap (take n) w.kept-is ∙ kept_no f self _ i _ (take n kept) inv.0 lt (sym c.keeps.ensures ∙ w.if-keeps.false) inv.3)
    ]

pub invariant_of-self : goal.invariant_of-self
invariant_of-self g c =
    let f = g.C.Choice.chosen c.args.choice.now in
    let self = c.args.self.now in
    let inv = c.loop-entry.invariant in
    record { rises = ap rising (c.first-table.ensures ∙ kept_all f self _ _ _ inv.0 c.loop-entry-test.false inv.3) ∙ kept_rises f (used self) self.rises }

pub returns : goal.returns
returns g c =
    let f = g.C.Choice.chosen c.args.choice.now in
    let inv = c.loop-entry.invariant in
    retained f (used c.args.self.now) _ (c.first-table.ensures ∙ kept_all f c.args.self.now _ _ _ inv.0 c.loop-entry-test.false inv.3)
