use Rattle.std.proofs.Common.{◌<◌, [], length, get_or, take, refl, ◌∙◌, arith, drop-set-lt, rules}
use Rattle.std.proofs.lemmas.List.{take_more, take_more_set}
use Rattle.calls.specs.declared.call.Call.TheVariants.{Open}
use Rattle.model.specs.Promise.{none}
use Rattle.run.proofs.Steps.{chain_push}
use Rattle.run.proofs.perform_all.Goals as goal

pub loop-i-init : goal.loop-i-init
loop-i-init g c =
    (λ k h. refl, refl, refl, λ s m e t. record { points = []; calls_are = refl; answers_are = refl; follows = none; everywhere = t.linked; device_is = refl; tied = t })

pub loop-i-preserved : goal.loop-i-preserved
loop-i-preserved g c =
    let in-calls : c.loop-i.i < length c.args.calls.now = search rules in
    let in-answers : c.loop-i.i < length c.loop-i.answers = search rules in
    let inv = c.loop-i.invariant in
    let d = g.met.D.Device in
    let dev = g.D.Device in
    let did = c.perform.ensures in (
      λ k h. drop-set-lt k c.loop-i.answers c.loop-i.i c.perform.result (omega arith) ∙ inv.0 k (omega arith),
      did.validator ∙ inv.1,
      did.schema ∙ inv.2,
      rw (take_more c.args.calls.now c.loop-i.i (Open 0) in-calls, take_more_set c.loop-i.answers c.loop-i.i c.perform.result in-answers) (chain_push dev.blocks dev.powered dev.raises dev.reads dev.writes g.V.Validator.verdict d.raised d.reading d.writing d.unread d.unwritten c.args.engine.now c.loop-i.engine (take c.loop-i.i c.args.calls.now) (take c.loop-i.i c.loop-i.answers) (get_or c.args.calls.now c.loop-i.i (Open 0)) c.perform.result c.perform.new.self inv.1 inv.2 inv.3 did),
    )
