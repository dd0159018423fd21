use Rattle.std.proofs.Common.{◌≡◌, true, Err, sym, ap, ◌∙◌, rules}
use Rattle.calls.specs.declared.faults.EngineFault.TheVariants.{Plain}
use Rattle.model.specs.Refusals.{of_kind}
use Rattle.engine.specs.Checks.{open_refusal}
use Rattle.engine.specs.Seen.{seen}
use Rattle.engine.proofs.Refusing.{commit_refused}
use Rattle.engine.proofs.engine.Engine.may_commit.Goals as goal

pub returns-in_err-check_open : goal.returns-in_err-check_open
returns-in_err-check_open g c =
    let m = seen g.D.Device.powered c.args.self.now in
    let f = Plain c.in_err-check_open.field-0.0 in
    let by = c.in_ok-by.ensures in
    let lost : c.from_residual-in_err-check_open.result ≡ Err f = search rules in
    let kind : of_kind c.args.kind c.args.timeout c.args.persist ≡ true = search rules in
    rw lost (commit_refused m c.args.session c.args.kind c.args.timeout c.args.persist c.args.id (g.V.Validator.verdict c.args.self.now.validator m.candidate) f (sym by.1) kind (c.in_err-check_open.ensures ∙ ap (open_refusal m) by.0))
