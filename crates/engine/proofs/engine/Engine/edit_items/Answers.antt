use Rattle.std.proofs.Common.{◌≡◌, Ok, Err, Result, sym, refl, ap, subst, rules}
use Rattle.schema.specs.declared.typed.Schema.{Schema}
use Rattle.schema.specs.declared.typed.SchemaFault.{SchemaFault}
use Rattle.edit.specs.Lists.{items}
use Rattle.config.specs.Configs.{used}
use Rattle.calls.specs.declared.call.Answer.TheVariants.{Refused}
use Rattle.calls.specs.declared.faults.EngineFault.TheVariants.{Item as at_item}
use Rattle.model.specs.Model.{with_candidate}
use Rattle.engine.specs.Checks.{ItemsBy}
use Rattle.engine.specs.Seen.{seen}
use Rattle.calls.specs.declared.faults.Refusal.{Refusal}
use Rattle.engine.proofs.Editing.{item_refused}
use Rattle.engine.proofs.Refusing.{kept_ok}
use Rattle.engine.proofs.engine.Engine.edit_items.Goals as goal

pub returns-in_err-edit : goal.returns-in_err-edit
returns-in_err-edit g c =
    let e = c.in_err-edit.ensures in
    let f = c.in_err-edit.field-0.0 in
    let m = seen g.D.Device.powered c.args.self.now in
    let schema = c.args.self.now.schema in
    let kept : schema ≡ Ok c.in_ok-schema.schema = kept_ok Refusal schema _ c.in_ok-schema.schema c.in_ok-schema.ensures.variant c.in_ok-schema.ensures.cases in
    let lost : c.from_residual-in_err-edit.result ≡ Err (at_item f) = search rules in
    rw lost (record {
      items = subst (λ (x : Result Schema SchemaFault). ItemsBy x c.args.way (items c.args.list.now) m (Refused (at_item f)) (with_candidate m (used c.edit.new.config))) (sym kept) (item_refused _ _ _ _ _ f e, ap (with_candidate m) e.left_is);
      device = refl;
      validator = refl;
      schema = refl;
    })
