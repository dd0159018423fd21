-- The laws of edits.
use Rattle.std.proofs.Common.{◌≡◌, ◌≤◌, true, List, [], ◌∷◌, length, is_some, Ok, Err, Result, sym, refl, subst, arith, rules}
use Rattle.std.proofs.lemmas.Bool.{cond_both}
use Rattle.encoding.proofs.Lists.{counted_same}
use Rattle.table.proofs.Rows.{rising_kept, rising_with}
use Rattle.schema.specs.Depth.{two_deep}
use Rattle.schema.specs.Nodes.{nodes}
use Rattle.schema.specs.declared.nodes.Node.{Node}
use Rattle.config.specs.Configs.{path_of, used, with_entry}
use Rattle.config.specs.Lawful.{Lawful}
use Rattle.config.specs.Order.{path_sooner, rising}
use Rattle.config.specs.declared.entry.Entry.{Entry}
use Rattle.config.proofs.Order.{rises, rising_from, total}
use Rattle.edit.specs.declared.faults.ItemFault.{ItemFault}
use Rattle.edit.specs.declared.item.Item.{Item}
use Rattle.edit.specs.declared.item.Operation.{Operation}
use Rattle.schema.specs.declared.typed.Schema.{Schema}
use Rattle.edit.specs.declared.option.ErrorOption.{ErrorOption}
use Rattle.edit.specs.declared.option.ErrorOption.TheVariants.{Stop, Continue, Rollback}
use Rattle.edit.specs.Does.{changed, cleared, does, done, entry_of, judged, present, puts, stays}
use Rattle.edit.specs.Items.{item_form}
use Rattle.edit.specs.Laws.{ItemsDecide, ListsReadBack, OptionsOf, StaysLawful}
use Rattle.edit.specs.Lists.{items}
use Rattle.edit.specs.Options.{first_refused, left, through, until}
use Rattle.edit.proofs.Changed.{cleared_few, performed, room}
use Rattle.edit.proofs.Judged.{has_room, judged_passes, never}
use Rattle.edit.proofs.Stays.{lawful_after}
use Rattle.edit.proofs.Steps.{none_refused, one_refused, through_err, through_ok, until_err, until_ok}

pub options_of : {C I F : Type 0} (does : C → I → Result C F) → OptionsOf does
options_of does = record { all = none_refused does; one = λ c before d i f rest. one_refused does i f rest c before d }

-- ---- items by their bytes
item_known : (i j : Item) → item_form i ≡ item_form j → i ≡ j
item_known i j h = search rules

pub items_decide : ItemsDecide
items_decide is js h = counted_same item_form item_known is js h

pub lists_read_back : ListsReadBack
lists_read_back is (Ok l) few read = sym (items_decide is (items l) read)
lists_read_back is (Err f) few read = read is few refl

-- ---- lawful configurations stay lawful
module _ (ns : List Node) (deep : two_deep ns ≡ true) where
  module _ (es : List Entry) (i : Item) (lawful : Lawful ns es) (op : Operation) (n : Node) (ok : judged ns es i ≡ Ok (op, n)) where
    cleared_rises : rising (cleared ns es op i.path) ≡ true
    cleared_rises = rising_from _ (rising_kept path_of path_sooner total _ es (rises es lawful.rises))

    with_rises : rising (with_entry (cleared ns es op i.path) (entry_of i)) ≡ true
    with_rises = rising_from _ (rising_with path_of path_sooner total (cleared ns es op i.path) (entry_of i) (rises _ cleared_rises))

    changed_rises : rising (changed ns es op n i) ≡ true
    unfolding changed
    changed_rises =
        cond_both (puts op) _ _ (λ (l : List Entry). rising l ≡ true)
        (λ _. cond_both (stays n (present es i.path)) _ _ (λ (l : List Entry). rising l ≡ true) (λ _. cleared_rises) (λ _. with_rises))
        (λ _. cleared_rises)

    changed_few : length (changed ns es op n i) ≤ 48
    unfolding changed
    changed_few =
        let few = lawful.few in
        let fewer = cleared_few ns es op i.path in
        let kept = cleared ns es op i.path in
        let few-kept : length kept ≤ 48 = omega arith in
        cond_both (puts op) _ _ (λ (l : List Entry). length l ≤ 48)
        (λ h. cond_both (stays n (present es i.path)) _ _ (λ (l : List Entry). length l ≤ 48) (λ _. few-kept)
        (λ _. room ns deep es op n i lawful.rises h (has_room ns es i op n (judged_passes ns es i op n ok) h) few))
        (λ _. few-kept)

    changed_lawful : Lawful ns (changed ns es op n i)
    changed_lawful =
        lawful_after ns deep es (changed ns es op n i) i lawful (performed ns deep es op n i (changed ns es op n i) ok refl) changed_few changed_rises

  does_lawful : (es : List Entry) (i : Item) (fs : List Entry) → Lawful ns es → does ns es i ≡ Ok fs → Lawful ns fs
  does_lawful es i fs lawful h = go (judged ns es i) refl h
    where
      go : (r : Result (Operation × Node) ItemFault) → judged ns es i ≡ r → done ns es i r ≡ Ok fs → Lawful ns fs
      go (Ok x) ok e = let same : changed ns es x.0 x.1 i ≡ fs = cc in subst (λ l. Lawful ns l) same (changed_lawful es i lawful x.0 x.1 ok)
      go (Err f) ok e = absurd (never e)

  until_lawful : (es : List Entry) (is : List Item) → Lawful ns es → Lawful ns (until (does ns) es is)
  until_lawful es [] lawful = lawful
  until_lawful es (i ∷ is) lawful = go (does ns es i) refl (λ d h. until_lawful d is h)
    where
      go : (r : Result (List Entry) ItemFault) → does ns es i ≡ r → ((d : List Entry) → Lawful ns d → Lawful ns (until (does ns) d is)) → Lawful ns (until (does ns) es (i ∷ is))
      go (Ok d) h ih = subst (λ l. Lawful ns l) (sym (until_ok (does ns) es i is d h)) (ih d (does_lawful es i d lawful h))
      go (Err f) h ih = subst (λ l. Lawful ns l) (sym (until_err (does ns) es i is f h)) lawful

  through_lawful : (es : List Entry) (is : List Item) → Lawful ns es → Lawful ns (through (does ns) es is)
  through_lawful es [] lawful = lawful
  through_lawful es (i ∷ is) lawful = go (does ns es i) refl (λ d h. through_lawful d is h)
    where
      go : (r : Result (List Entry) ItemFault) → does ns es i ≡ r → ((d : List Entry) → Lawful ns d → Lawful ns (through (does ns) d is)) → Lawful ns (through (does ns) es (i ∷ is))
      go (Ok d) h ih = subst (λ l. Lawful ns l) (sym (through_ok (does ns) es i is d h)) (ih d (does_lawful es i d lawful h))
      go (Err f) h ih = subst (λ l. Lawful ns l) (sym (through_err (does ns) es i is f h)) (ih es lawful)

-- whatever the option, a lawful configuration is left lawful
pub left_lawful : (s : Schema) (o : ErrorOption) (es : List Entry) (is : List Item) → Lawful (nodes s) es → Lawful (nodes s) (left (does (nodes s)) o es is)
left_lawful s Stop es is lawful = until_lawful (nodes s) s.nested es is lawful
left_lawful s Continue es is lawful = through_lawful (nodes s) s.nested es is lawful
left_lawful s Rollback es is lawful =
    cond_both (is_some (first_refused (does (nodes s)) es is)) _ _ (λ l. Lawful (nodes s) l) (λ _. lawful) (λ _. until_lawful (nodes s) s.nested es is lawful)

pub stays_lawful : StaysLawful
stays_lawful s o c is d r lawful e = subst (λ l. Lawful (nodes s) l) (sym e.left_is) (left_lawful s o (used c) is lawful)
