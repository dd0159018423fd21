use Rattle.std.proofs.Common.{◌≡◌, Err, Option, Some, sym, refl, ap, ◌∙◌, subst, rules}
use Rattle.session.specs.Trials.{cancel}
use Rattle.calls.specs.declared.call.Answer.TheVariants.{Refused}
use Rattle.calls.specs.declared.faults.EngineFault.{EngineFault}
use Rattle.calls.specs.declared.faults.EngineFault.TheVariants.{Plain}
use Rattle.model.specs.Refusals.{first, cancel_refusals}
use Rattle.model.specs.Steps.{Judged, after_event}
use Rattle.engine.specs.Checks.{open_refusal}
use Rattle.engine.specs.Seen.{seen}
use Rattle.engine.proofs.Refusing.{cancel_refused}
use Rattle.engine.proofs.engine.Engine.cancel.Goals as goal

pub returns-in_err-check_open : goal.returns-in_err-check_open
returns-in_err-check_open g c =
    let m = seen g.D.Device.powered c.args.self.now in
    let f = Plain c.in_err-check_open.field-0.0 in
    let by = c.in_ok-by.ensures in
    let lost : c.from_residual-in_err-check_open.result ≡ Err f = search rules in
    let e : first (cancel_refusals m c.args.session c.args.id) ≡ Some f = cancel_refused m c.args.session c.args.id f (sym by.1) (c.in_err-check_open.ensures ∙ ap (open_refusal m) by.0) in
    rw lost (record {
      acts = (subst (λ (x : Option EngineFault). Judged x m (after_event m cancel) (Refused f) m) (sym e) (refl, refl), refl);
      validator = refl;
      schema = refl;
    })
