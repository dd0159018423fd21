-- An edit by the parts of its call.
use Rattle.std.proofs.Common.{◌≡◌, ℕ, ◌-◌, ◌≤◌, Bool, true, false, cond, ◌&&◌, eqb, List, length, get_or, is_ok, Some, None, Ok, Err, Option, Result, sym, refl, ap, ◌∙◌, subst, arith}
use Rattle.std.proofs.lemmas.List.{length-take-le}
use Rattle.std.proofs.lemmas.Bool.{and_parts, eqb-true}
use Rattle.schema.specs.declared.nodes.Node.{Node}
use Rattle.schema.specs.declared.path.Path.{Path}
use Rattle.schema.specs.declared.typed.Schema.{Schema}
use Rattle.schema.specs.declared.typed.SchemaFault.{SchemaFault}
use Rattle.config.specs.Configs.{used}
use Rattle.config.specs.declared.config.Config.{Config}
use Rattle.edit.specs.Does.{does}
use Rattle.edit.specs.Edited.{Edited}
use Rattle.edit.specs.Lists.{ListRead, items}
use Rattle.edit.specs.Options.{option_number, first_refused, kept}
use Rattle.edit.specs.declared.faults.ItemFault.{ItemFault}
use Rattle.edit.specs.declared.held.EditList.{EditList}
use Rattle.edit.specs.declared.item.Item.{Item}
use Rattle.edit.specs.declared.list.ListFault.{ListFault}
use Rattle.edit.specs.declared.option.ErrorOption.{ErrorOption}
use Rattle.edit.specs.declared.option.ErrorOption.TheVariants.{Stop, Continue, Rollback}
use Rattle.edit.specs.declared.run.EditFault.{EditFault}
use Rattle.calls.specs.declared.call.Answer.{Answer}
use Rattle.calls.specs.declared.call.Answer.TheVariants.{Refused}
use Rattle.calls.specs.declared.faults.EngineFault.{EngineFault}
use Rattle.calls.specs.declared.faults.EngineFault.TheVariants.{Item as at_item}
use Rattle.model.specs.Acts.{nodes_of}
use Rattle.model.specs.Model.{Model}
use Rattle.model.specs.Refusals.{first, option_at, edit_refusals}
use Rattle.model.specs.Steps.{Edits, EditsItems, EditsUnless, edit_answer, no_item}
use Rattle.engine.specs.Checks.{ItemsBy}

fault_made : ItemFault → ℕ → ℕ → Path → EditFault
fault_made f i k p = record { fault = f; item = i; kept = k; path = p }

-- the answer to a refused item
pub item_refused : (ns : List Node) (o : ErrorOption) (c d : Config) (is : List Item) (f : EditFault) → Edited ns o c is d (Err f) → Refused (at_item f) ≡ edit_answer ns o (used c) is (first_refused (does ns) (used c) is)
unfolding fault_made
item_refused ns o c d is f e =
    let r = e.refused f refl in
    let k : f.kept ≡ kept (does ns) o (used c) is f.item = r.kept_is in
    let p : f.path ≡ (get_or is (f.item - 1) no_item).path = r.path_is no_item in
    let same : fault_made f.fault f.item f.kept f.path ≡ fault_made f.fault f.item (kept (does ns) o (used c) is f.item) (get_or is (f.item - 1) no_item).path = cc in
    ap (λ (x : EditFault). Refused (at_item x)) same ∙ sym (ap (edit_answer ns o (used c) is) r.first)

few_items : (l : EditList) → length (items l) ≤ 16
few_items l = let t = l.items in omega (arith, length-take-le t.count t.slots (omega (arith, t.few, t.whole)), t.few)

pub edits_refused : (ns : List Node) (m : Model) (s o : ℕ) (bytes : List ℕ) (l : EditList) (f : EngineFault) → ListRead {F = ListFault} bytes (Ok l) → first (edit_refusals m s o true) ≡ Some f → Edits ns m s o bytes (Refused f) m
edits_refused ns m s o bytes l f read e =
    record {
      items = Some (items l);
      are = (few_items l, read);
      answer = subst (λ (x : Option EngineFault). EditsUnless x ns m o (Some (items l)) (Refused f) m) (sym e) (refl, refl);
    }

pub edits_done : (ns : List Node) (m : Model) (s o : ℕ) (bytes : List ℕ) (l : EditList) (way : ErrorOption) (a : Answer) (m' : Model) → ListRead {F = ListFault} bytes (Ok l) → first (edit_refusals m s o true) ≡ None → option_at o ≡ Some way → EditsItems ns m (Some way) (Some (items l)) a m' → Edits ns m s o bytes a m'
edits_done ns m s o bytes l way a m' read e ow did =
    record {
      items = Some (items l);
      are = (few_items l, read);
      answer = subst (λ (x : Option EngineFault). EditsUnless x ns m o (Some (items l)) a m') (sym e) (subst (λ (x : Option ErrorOption). EditsItems ns m x (Some (items l)) a m') (sym ow) did);
    }

-- an edit that nothing refuses is of an engine that is on
pub edit_on : (m : Model) (s o : ℕ) → first (edit_refusals m s o true) ≡ None → m.on ≡ true
edit_on m s o e = grind arith

-- an engine that is on has a lawful schema
pub items_of : (p q : Bool) (schema : Result Schema SchemaFault) (o : ErrorOption) (is : List Item) (m : Model) (a : Answer) (m' : Model) → (p && (q && is_ok schema)) ≡ true → ItemsBy schema o is m a m' → EditsItems (nodes_of schema) m (Some o) (Some is) a m'
items_of p q (Ok s) o is m a m' on i = i
items_of p q (Err f) o is m a m' on i =
    let x = and_parts p (q && false) on in
    let y = and_parts q false x.1 in
    absurd (let f≡t : false ≡ true = y.1 in let z : ◌≡◌ {A = ℕ} 0 1 = cc in omega arith)

-- ---- error options by their numbers
pub option_some : (o : ErrorOption) (n : ℕ) → option_number o ≡ n → option_at n ≡ Some o
option_some Stop n e = subst (λ (k : ℕ). option_at k ≡ Some Stop) e refl
option_some Continue n e = subst (λ (k : ℕ). option_at k ≡ Some Continue) e refl
option_some Rollback n e = subst (λ (k : ℕ). option_at k ≡ Some Rollback) e refl

pub option_none : (n : ℕ) → ((o : ErrorOption) → option_number o ≡ n → ⊥) → option_at n ≡ None
option_none n h = go (eqb n 1) refl (eqb n 2) refl (eqb n 3) refl
  where
    go : (a : Bool) → eqb n 1 ≡ a → (b : Bool) → eqb n 2 ≡ b → (c : Bool) → eqb n 3 ≡ c → cond (eqb n 1) (Some Stop) (cond (eqb n 2) (Some Continue) (cond (eqb n 3) (Some Rollback) None)) ≡ None
    go true p b q c r = absurd (h Stop (sym (eqb-true n 1 p)))
    go false p true q c r = absurd (h Continue (sym (eqb-true n 2 q)))
    go false p false q true r = absurd (h Rollback (sym (eqb-true n 3 r)))
    go false p false q false r = rw (p, q, r)
