use Rattle.std.proofs.Common.{sym, ap, ◌∙◌, ◌≡◌, arith}
use Rattle.schema.specs.Rows.{at}
use Rattle.schema.proofs.Numbered.{at_zero, at_read}
use Rattle.schema.proofs.nodes.numbered.Goals as goal

pub returns-in_err-place : goal.returns-in_err-place
returns-in_err-place g c =
    let none : c.args.number ≡ 0 = omega (arith, c.in_err-place.ensures) in
    c.from_residual.ensures ∙ sym (ap (at c.args.items.now) none ∙ at_zero c.args.items.now)

pub returns : goal.returns
returns g c =
    let place = c.in_ok-place.ensures in
    c.copied.ensures ∙ at_read c.args.items.now c.args.number c.in_ok-place.place c.get.result place.0 place.1 c.get.ensures.lookup.3
