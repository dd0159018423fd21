use Rattle.std.proofs.Common.{◌≡◌, ◌≤◌, length, ap, ◌∙◌, arith}
use Rattle.std.proofs.lemmas.List.{take_all}
use Rattle.std.proofs.lemmas.Bool.{false≢true}
use Rattle.table.specs.Slots.{items}
use Rattle.validate.proofs.Lists.{at_most}
use Rattle.validate.proofs.Records.{lawful_from, listed}
use Rattle.validate.proofs.required.Required.new.Goals as goal

pub returns-then-not-lawful : goal.returns-then-not-lawful
returns-then-not-lawful c = λ h. false≢true (c.if-not-lawful.ensures ∙ lawful_from _ h.rises h.ranges)

pub returns : goal.returns
returns c =
    let bs = c.args.records.now in
    let held = c.loop-record.held in
    let all : items held ≡ bs = c.loop-record.invariant.1 ∙ take_all _ bs c.loop-record-test.false in
    let few : length bs ≤ 8 = omega (arith, ap length all, at_most held) in
    (listed bs few c.loop-record.invariant.0, all)
