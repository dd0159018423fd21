use Rattle.std.proofs.Common.{◌≡◌, Ok, Err, refl, subst, rules}
use Rattle.edit.specs.Lists.{ListRead}
use Rattle.model.specs.Acts.{nodes_of}
use Rattle.engine.specs.Seen.{seen}
use Rattle.engine.proofs.Editing.{edits_refused, edits_done, edit_on, items_of}
use Rattle.calls.specs.declared.faults.Refusal.{Refusal}
use Rattle.engine.proofs.Refusing.{kept_ok}
use Rattle.engine.proofs.engine.Engine.edit.Goals as goal

pub returns-in_err-way : goal.returns-in_err-way
returns-in_err-way g c =
    let e = c.args.self.now in
    let m = seen g.D.Device.powered e in
    let f = c.in_err-way.field-0.0 in
    let l = c.in_ok-list.list in
    let kept : c.read.result ≡ Ok l = kept_ok Refusal c.read.result _ l c.in_ok-list.ensures.variant c.in_ok-list.ensures.cases in
    let lost : c.from_residual-in_err-way.result ≡ Err f = search rules in
    rw lost (record {
      acts = (edits_refused (nodes_of e.schema) m c.args.session c.args.option c.args.items.now l f (subst (ListRead c.args.items.now) kept c.read.ensures) c.in_err-way.ensures, refl);
      validator = refl;
      schema = refl;
    })

pub returns : goal.returns
returns g c =
    let e = c.args.self.now in
    let m = seen g.D.Device.powered e in
    let l = c.in_ok-list.list in
    let kept : c.read.result ≡ Ok l = kept_ok Refusal c.read.result _ l c.in_ok-list.ensures.variant c.in_ok-list.ensures.cases in
    let way = c.in_ok-way.ensures in
    let did = c.edit_items.ensures in
    record {
      acts = (
        edits_done (nodes_of e.schema) m c.args.session c.args.option c.args.items.now l c.in_ok-way.way _ _ (subst (ListRead c.args.items.now) kept c.read.ensures) way.0 way.1
            (items_of e.on (g.D.Device.powered e.device) e.schema c.in_ok-way.way _ m _ _ (edit_on m c.args.session c.args.option way.0) did.items),
        did.device,
      );
      validator = did.validator;
      schema = did.schema;
    }
