-- A lawful configuration stays lawful.
use Rattle.std.proofs.Common.{◌≡◌, ℕ, ◌<◌, ◌≤◌, true, false, not, ◌&&◌, ◌||◌, List, length, get_or, is_some, Some, None, Ok, Option, sym, refl, ap, ◌∙◌, subst, ⊎_elim}
use Rattle.std.proofs.lemmas.Bool.{and_from, and_left, and_parts, both_ways, cases_Bool, cond-false, cond-true, or_left, or_from, and_right}
use Rattle.std.proofs.lemmas.Option.{none-some}
use Rattle.table.proofs.Rows.{found_key, found_place, place_found}
use Rattle.schema.specs.Depth.{two_deep}
use Rattle.schema.specs.Paths.{around, entry_answer, value_answer}
use Rattle.schema.specs.declared.nodes.Node.{Node}
use Rattle.schema.specs.declared.path.Path.{Path}
use Rattle.config.specs.Configs.{found, path_of}
use Rattle.config.specs.Lawful.{EntryLawful, Lawful, held, held_at}
use Rattle.config.specs.Order.{equal_paths, path_sooner, rising}
use Rattle.config.specs.declared.entry.Entry.{Entry}
use Rattle.config.proofs.Order.{total, rises}
use Rattle.edit.specs.declared.item.Item.{Item}
use Rattle.edit.specs.Applied.{Performed}
use Rattle.edit.specs.Does.{clears, entry_of, present, puts, stays, taken_out, target_after, under}
use Rattle.edit.proofs.Under.{around_not_under, around_other, around_outside, equal_is, equal_self, not_equal, under_one}
use Rattle.edit.proofs.Changed.{clears_unless_puts}
use Rattle.edit.proofs.Judged.{Passed, has_list, judged_passes}

-- an entry that is found is lawful
lawful_at : (ns : List Node) (es : List Entry) (q : Path) (e : Entry) → Lawful ns es → found es q ≡ Some e → EntryLawful ns es e
lawful_at ns es q e lawful h =
    let place = found_place path_of path_sooner total es q e h in
    subst (λ x. EntryLawful ns es x) (place.2 e) (lawful.each place.0 e place.1)

module _ (ns : List Node) (deep : two_deep ns ≡ true) (es fs : List Entry) (i : Item) (lawful : Lawful ns es) (done : Performed ns es i fs) where
  passes : Passed ns es i done.operation done.node
  passes = judged_passes ns es i done.operation done.node done.lawful

  -- what is found outside is found afterwards
  kept : (a : Path) → equal_paths a i.path ≡ false → taken_out ns done.operation i.path a ≡ false → found fs a ≡ found es a
  kept a ne out = done.finds a ∙ cond-false _ _ _ ne ∙ cond-false _ _ _ out

  -- at the target
  at_target : found fs i.path ≡ target_after done.operation done.node i (found es i.path)
  at_target = done.finds i.path ∙ cond-true _ _ _ (equal_self i.path)

  target_there : puts done.operation ≡ true → is_some (found fs i.path) ≡ true
  target_there h =
      ap is_some (at_target ∙ cond-true _ _ _ h)
      ∙ ⊎_elim
      (λ (s : stays done.node (present es i.path) ≡ true). ap is_some (cond-true _ _ _ s) ∙ (and_parts _ (present es i.path) s).1)
      (λ (s : stays done.node (present es i.path) ≡ false). ap is_some (cond-false _ _ _ s))
      (cases_Bool (stays done.node (present es i.path)))

  -- the list around the target is there
  list_there : puts done.operation ≡ true → held ns es i.path ≡ true
  list_there h =
      ⊎_elim
      (λ (here : present es i.path ≡ true). from_some (found es i.path) refl here)
      (λ (absent : present es i.path ≡ false). has_list ns es i done.operation done.node passes h absent)
      (cases_Bool (present es i.path))
    where
      from_some : (o : Option Entry) → found es i.path ≡ o → is_some o ≡ true → held ns es i.path ≡ true
      from_some None e s = absurd (both_ways false refl s)
      from_some (Some x) e s =
          subst (λ q. held ns es q ≡ true) (found_key path_of path_sooner total es i.path x e) (lawful_at ns es i.path x lawful e).inside

  held_target : puts done.operation ≡ true → held ns fs i.path ≡ true
  held_target h = go (around ns i.path) refl (list_there h)
    where
      go : (o : Option Path) → around ns i.path ≡ o → held_at es o ≡ true → held_at fs o ≡ true
      go None e t = refl
      go (Some a) e t =
          let ne : equal_paths a i.path ≡ false = not_equal a i.path (around_other ns deep i.path a e) in
          let out : taken_out ns done.operation i.path a ≡ false =
          ap (λ b. clears done.operation && (b || (not (puts done.operation) && equal_paths a i.path))) (around_not_under ns deep i.path a e)
          ∙ and_right (clears done.operation) _ (and_right (not (puts done.operation)) _ ne) in
          ap is_some (kept a ne out) ∙ t

  -- the list around another path that is kept is there
  held_other : (q : Path) → taken_out ns done.operation i.path q ≡ false → held ns es q ≡ true → held ns fs q ≡ true
  held_other q out t = go (around ns q) refl t
    where
      outside : clears done.operation ≡ true → under ns i.path q ≡ false
      outside c =
          ⊎_elim
          (λ (u : under ns i.path q ≡ true). absurd (both_ways _ out (and_from (clears done.operation) _ c (or_left (under ns i.path q) _ u))))
          (λ u. u)
          (cases_Bool (under ns i.path q))

      go : (o : Option Path) → around ns q ≡ o → held_at es o ≡ true → held_at fs o ≡ true
      go None e t = refl
      go (Some a) e t =
          ⊎_elim
          (λ (same : equal_paths a i.path ≡ true).
          let is : a ≡ i.path = equal_is a i.path same in
          subst (λ x. is_some (found fs x) ≡ true) (sym is) (⊎_elim
          (λ (h : puts done.operation ≡ true). target_there h)
          (λ (h : puts done.operation ≡ false). absurd (both_ways _ (outside (clears_unless_puts done.operation h)) (under_one ns i.path q (e ∙ ap (λ x. Some x) is))))
          (cases_Bool (puts done.operation))))
          (λ (ne : equal_paths a i.path ≡ false).
          let gone : taken_out ns done.operation i.path a ≡ false =
          ⊎_elim
          (λ (c : clears done.operation ≡ true). and_right (clears done.operation) _ (or_from (under ns i.path a) _ (around_outside ns deep i.path q a e (outside c)) (and_right (not (puts done.operation)) _ ne)))
          (λ (c : clears done.operation ≡ false). and_left (clears done.operation) _ c)
          (cases_Bool (clears done.operation)) in
          ap is_some (kept a ne gone) ∙ t)
          (cases_Bool (equal_paths a i.path))

  -- ---- each entry afterwards
  new_fits : puts done.operation ≡ true → entry_answer ns i.path i.value ≡ Ok tt
  new_fits h =
      ap (λ r. value_answer r i.value) passes.path
      ∙ cond-true _ _ _ (sym (cond-true _ _ _ h) ∙ passes.value)

  target_lawful : (e : Entry) → found fs i.path ≡ Some e → EntryLawful ns fs e
  target_lawful e h =
      ⊎_elim
      (λ (p : puts done.operation ≡ true). ⊎_elim
      (λ (s : stays done.node (present es i.path) ≡ true).
      let was : found es i.path ≡ Some e = sym (at_target ∙ cond-true _ _ _ p ∙ cond-true _ _ _ s) ∙ h in
      let key = found_key path_of path_sooner total es i.path e was in
      record { fits = (lawful_at ns es i.path e lawful was).fits; inside = subst (λ q. held ns fs q ≡ true) (sym key) (held_target p) })
      (λ (s : stays done.node (present es i.path) ≡ false).
      let is : ◌≡◌ {A = Option Entry} (Some (entry_of i)) (Some e) = sym (at_target ∙ cond-true _ _ _ p ∙ cond-false _ _ _ s) ∙ h in
      let one : entry_of i ≡ e = cc in
      subst (λ x. EntryLawful ns fs x) one (record { fits = new_fits p; inside = held_target p }))
      (cases_Bool (stays done.node (present es i.path))))
      (λ (p : puts done.operation ≡ false). absurd (none-some e (sym (at_target ∙ cond-false _ _ _ p) ∙ h)))
      (cases_Bool (puts done.operation))

  other_lawful : (q : Path) (e : Entry) → equal_paths q i.path ≡ false → found fs q ≡ Some e → EntryLawful ns fs e
  other_lawful q e ne h =
      ⊎_elim
      (λ (out : taken_out ns done.operation i.path q ≡ true). absurd (none-some e (sym (done.finds q ∙ cond-false _ _ _ ne ∙ cond-true _ _ _ out) ∙ h)))
      (λ (out : taken_out ns done.operation i.path q ≡ false).
      let was : found es q ≡ Some e = sym (kept q ne out) ∙ h in
      let key = found_key path_of path_sooner total es q e was in
      let before = lawful_at ns es q e lawful was in
      record { fits = before.fits; inside = subst (λ x. held ns fs x ≡ true) (sym key) (held_other q out (subst (λ x. held ns es x ≡ true) key before.inside)) })
      (cases_Bool (taken_out ns done.operation i.path q))

  pub lawful_after : length fs ≤ 48 → rising fs ≡ true → Lawful ns fs
  lawful_after few up = record { few = few; rises = up; each = go }
    where
      go : (j : ℕ) (d : Entry) → j < length fs → EntryLawful ns fs (get_or fs j d)
      go j d lt =
          let e = get_or fs j d in
          let h : found fs e.path ≡ Some e = place_found path_of path_sooner total fs j d (rises fs up) lt in
          ⊎_elim
          (λ (same : equal_paths e.path i.path ≡ true). target_lawful e (subst (λ q. found fs q ≡ Some e) (equal_is e.path i.path same) h))
          (λ (ne : equal_paths e.path i.path ≡ false). other_lawful e.path e ne h)
          (cases_Bool (equal_paths e.path i.path))
