-- What an item that is not refused fulfils.
use Rattle.std.proofs.Common.{◌≡◌, ℕ, ◌<◌, Bool, true, false, not, leb, List, [], ◌∷◌, length, Some, None, Ok, Err, Option, Result, sym, refl, ap, ◌∙◌, subst, ⊎_elim, arith}
use Rattle.std.proofs.lemmas.Bool.{and_from, both_ways, cases_Bool, cond-true, cond-false, leb-false, or_right}
use Rattle.schema.specs.Paths.{path_answer}
use Rattle.schema.specs.declared.nodes.Node.{Node}
use Rattle.schema.specs.declared.path.PathFault.{PathFault}
use Rattle.config.specs.Lawful.{held}
use Rattle.config.specs.declared.entry.Entry.{Entry}
use Rattle.edit.specs.declared.faults.ItemFault.{ItemFault}
use Rattle.edit.specs.declared.item.Item.{Item}
use Rattle.edit.specs.declared.item.Operation.{Operation}
use Rattle.edit.specs.Numbers.{operation_at}
use Rattle.edit.specs.Does.{checked, first_of, judged, judged_operation, judged_path, judged_value, moment, needs_present, present, puts, value_lawful}

pub never : {A B : Type 0} {x : A} {y : B} → Err x ≡ Ok y → ⊥
never e = let z : ◌≡◌ {A = ℕ} 0 1 = cc in omega arith

-- no condition of a list holds
abbrev AllFalse : {F : Type 0} → List (Bool × F) → Type 0
AllFalse [] = Unit {0}
AllFalse (x ∷ xs) = (x.0 ≡ false) × AllFalse xs

none_holds : {F : Type 0} (xs : List (Bool × F)) → first_of xs ≡ Ok tt → AllFalse xs
none_holds [] e = tt
none_holds (x ∷ xs) e =
    ⊎_elim
    (λ (h : x.0 ≡ true). absurd (never (sym (cond-true _ _ _ h) ∙ e)))
    (λ (h : x.0 ≡ false). (h, none_holds xs (sym (cond-false _ _ _ h) ∙ e)))
    (cases_Bool x.0)

pub record Passed (ns : List Node) (es : List Entry) (i : Item) (op : Operation) (n : Node) : Type 0 where
  pub path : path_answer ns i.path ≡ Ok n
  pub value : value_lawful op n i.value ≡ true
  pub moments : first_of (moment ns es op i.path) ≡ Ok tt

module _ (ns : List Node) (es : List Entry) (i : Item) (op : Operation) (n : Node) where
  from_checked : (op' : Operation) (n' : Node) (r : Result Unit ItemFault) → first_of (moment ns es op' i.path) ≡ r → path_answer ns i.path ≡ Ok n' → value_lawful op' n' i.value ≡ true → checked r op' n' ≡ Ok (op, n) → Passed ns es i op n
  from_checked op' n' (Err f) m p v e = absurd (never e)
  from_checked op' n' (Ok done) m p v e =
      let pair : ◌≡◌ {A = Operation × Node} (op', n') (op, n) = cc in
      let same_op : op' ≡ op = ap (λ (x : Operation × Node). x.0) pair in
      let same-node : n' ≡ n = ap (λ (x : Operation × Node). x.1) pair in
      subst (λ o. Passed ns es i o n) same_op (subst (λ x. Passed ns es i op' x) same-node (record { path = p; value = v; moments = m }))

  from_judged_value : (op' : Operation) (n' : Node) → path_answer ns i.path ≡ Ok n' → judged_value ns es i op' n' ≡ Ok (op, n) → Passed ns es i op n
  from_judged_value op' n' p e =
      ⊎_elim
      (λ (v : value_lawful op' n' i.value ≡ true). from_checked op' n' (first_of (moment ns es op' i.path)) refl p v (sym (cond-true _ _ _ v) ∙ e))
      (λ (v : value_lawful op' n' i.value ≡ false). absurd (never (sym (cond-false _ _ _ v) ∙ e)))
      (cases_Bool (value_lawful op' n' i.value))

  from_judged_path : (op' : Operation) (r : Result Node PathFault) → path_answer ns i.path ≡ r → judged_path ns es i op' r ≡ Ok (op, n) → Passed ns es i op n
  from_judged_path op' (Err f) p e = absurd (never e)
  from_judged_path op' (Ok n') p e = from_judged_value op' n' p e

  from_operation : (o : Option Operation) → judged_operation ns es i o ≡ Ok (op, n) → Passed ns es i op n
  from_operation None e = absurd (never e)
  from_operation (Some op') e = from_judged_path op' (path_answer ns i.path) refl e

  pub judged_passes : judged ns es i ≡ Ok (op, n) → Passed ns es i op n
  unfolding judged
  judged_passes e = from_operation (operation_at i.operation) e

  module _ (p : Passed ns es i op n) where
    none : AllFalse (moment ns es op i.path)
    none = none_holds (moment ns es op i.path) p.moments

    -- an absent target that is put in has room, and the entry of the list around it is there
    pub has_room : puts op ≡ true → present es i.path ≡ false → length es < 48
    has_room h absent =
        ⊎_elim
        (λ (full : leb 48 (length es) ≡ true). absurd (both_ways _ none.1.1.0 (and_from _ _ (ap not absent) (and_from _ _ h full))))
        (λ (few : leb 48 (length es) ≡ false). leb-false 48 (length es) few)
        (cases_Bool (leb 48 (length es)))

    pub has_list : puts op ≡ true → present es i.path ≡ false → held ns es i.path ≡ true
    has_list h absent =
        ⊎_elim
        (λ (there : held ns es i.path ≡ true). there)
        (λ (gone : held ns es i.path ≡ false). absurd (both_ways _ none.1.0 (and_from _ _ (ap not absent) (or_right (needs_present op) _ (and_from _ _ h (ap not gone))))))
        (cases_Bool (held ns es i.path))
