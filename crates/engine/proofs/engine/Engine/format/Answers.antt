use Rattle.std.proofs.Common.{◌≡◌, is_ok, Some, Ok, Result, sym, ap, subst}
use Rattle.schema.specs.Nodes.{nodes}
use Rattle.schema.specs.declared.typed.Schema.{Schema}
use Rattle.schema.specs.declared.typed.SchemaFault.{SchemaFault}
use Rattle.config.specs.Configs.{used}
use Rattle.config.specs.Images.{Read}
use Rattle.model.specs.Acts.{Formatting}
use Rattle.calls.specs.Answers.{answered}
use Rattle.engine.specs.Seen.{seen}
use Rattle.calls.specs.declared.faults.Refusal.{Refusal}
use Rattle.engine.proofs.Refusing.{kept_ok}
use Rattle.engine.proofs.engine.Engine.format.Goals as goal

pub returns : goal.returns
returns g c =
    let e = c.args.self.now in
    let e' = c.write_first.new.self in
    let w = c.write_first.ensures in
    let s = c.in_ok-schema.schema in
    let config = c.in_ok-config.config in
    let kept : c.read.result ≡ Ok config = kept_ok Refusal c.read.result _ config c.in_ok-config.ensures.variant c.in_ok-config.ensures.cases in
    let was : e.schema ≡ Ok s = c.in_ok-schema.was in
    record {
      formats =
          subst (λ (x : Result Schema SchemaFault). Formatting g.D.Device.blocks g.D.Device.powered g.D.Device.raises g.D.Device.reads g.D.Device.writes x (g.V.Validator.verdict e.validator) c.args.image.now (seen g.D.Device.powered e) e.device (answered c.write_first.result) (seen g.D.Device.powered e') e'.device)
          (sym was)
          (record { entries = Some (used config); are = subst (Read (nodes s) c.args.image.now) kept c.read.ensures; answer = w.formats (ap is_ok was) });
      validator = w.validator;
      schema = w.schema;
    }
