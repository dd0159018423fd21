-- The entries after an item: what is found at every path, and how many there are.
use Rattle.std.proofs.Common.{◌≡◌, ◌<◌, ◌≤◌, Bool, true, false, cond, not, ◌&&◌, ◌||◌, List, length, is_some, Some, None, Ok, Option, sym, refl, ap, ◌∙◌, subst, ⊎_elim, arith, rules}
use Rattle.std.proofs.lemmas.Bool.{and_from, both_ways, cases_Bool, cond-false, cond-true, or_right}
use Rattle.std.proofs.lemmas.List.Filters.{length-filter_both}
use Rattle.table.proofs.Rows.{lookup_kept, lookup_put, lookup_put_other, rising_kept, with_length, with_length_present}
use Rattle.schema.specs.Depth.{two_deep}
use Rattle.schema.specs.declared.nodes.Node.{Node}
use Rattle.schema.specs.declared.path.Path.{Path}
use Rattle.config.specs.Configs.{found, path_of, with_entry}
use Rattle.config.specs.Order.{equal_paths, path_sooner, rising}
use Rattle.config.specs.declared.entry.Entry.{Entry}
use Rattle.config.proofs.Order.{total, rises}
use Rattle.edit.specs.declared.item.Item.{Item}
use Rattle.edit.specs.declared.item.Operation.{Operation}
use Rattle.edit.specs.declared.item.Operation.TheVariants.{Merge, Replace, Create, Delete, Remove}
use Rattle.edit.specs.Applied.{Performed}
use Rattle.edit.specs.Does.{after_at, changed, cleared, clears, entry_of, judged, present, put_in, puts, stays, taken_out, under}
use Rattle.edit.proofs.Under.{equal_is, equal_self, under_self}

-- an operation that does not put clears
pub clears_unless_puts : (op : Operation) → puts op ≡ false → clears op ≡ true
clears_unless_puts Merge h = absurd (both_ways true h refl)
clears_unless_puts Replace h = refl
clears_unless_puts Create h = absurd (both_ways true h refl)
clears_unless_puts Delete h = refl
clears_unless_puts Remove h = refl

cond_not : {A : Type 0} (b : Bool) (x y : A) → cond (not b) x y ≡ cond b y x
cond_not b x y = search rules

module _ (ns : List Node) (es : List Entry) (op : Operation) (p : Path) where
  pub found_cleared : (q : Path) → found (cleared ns es op p) q ≡ cond (taken_out ns op p q) None (found es q)
  found_cleared q = lookup_kept path_of path_sooner total (λ x. not (taken_out ns op p x)) es q ∙ cond_not (taken_out ns op p q) (found es q) None

  pub cleared_few : length (cleared ns es op p) ≤ length es
  cleared_few =
      let parts = length-filter_both (λ (e : Entry). not (taken_out ns op p e.path)) (λ e. not (not (taken_out ns op p e.path))) (λ e. refl) es in
      omega (arith, parts)

  module _ (deep : two_deep ns ≡ true) where
    -- an operation that puts leaves its target
    pub target_left : puts op ≡ true → taken_out ns op p p ≡ false
    target_left h =
        ap (λ b. clears op && (b || (not (puts op) && equal_paths p p))) (under_self ns deep p)
        ∙ ap (λ b. clears op && (not b && equal_paths p p)) h
        ∙ ⊎_elim (λ (c : clears op ≡ true). ap (λ b. b && false) c) (λ (c : clears op ≡ false). ap (λ b. b && false) c) (cases_Bool (clears op))

    pub found_target : puts op ≡ true → found (cleared ns es op p) p ≡ found es p
    found_target h = found_cleared p ∙ cond-false _ _ _ (target_left h)

  -- another operation takes it out
  target_gone : puts op ≡ false → found (cleared ns es op p) p ≡ None
  target_gone h =
      found_cleared p
      ∙ cond-true _ _ _ (and_from (clears op) _ (clears_unless_puts op h) (or_right (under ns p p) _ (and_from (not (puts op)) (equal_paths p p) (ap not h) (equal_self p))))

module _ (ns : List Node) (deep : two_deep ns ≡ true) (es : List Entry) (op : Operation) (n : Node) (i : Item) where
  -- ---- how many
  pub room : rising es ≡ true → puts op ≡ true → (present es i.path ≡ false → length es < 48) → length es ≤ 48 → length (with_entry (cleared ns es op i.path) (entry_of i)) ≤ 48
  room up h free few =
      let fewer = cleared_few ns es op i.path in
      ⊎_elim
      (λ (here : present es i.path ≡ true). some_found (found es i.path) refl here)
      (λ (none : present es i.path ≡ false).
      let lt = free none in
      let more = with_length path_of path_sooner total (cleared ns es op i.path) (entry_of i) in
      omega arith)
      (cases_Bool (present es i.path))
    where
      some_found : (o : Option Entry) → found es i.path ≡ o → is_some o ≡ true → length (with_entry (cleared ns es op i.path) (entry_of i)) ≤ 48
      some_found None e s = absurd (both_ways false refl s)
      some_found (Some x) e s =
          let fewer = cleared_few ns es op i.path in
          let same = with_length_present path_of path_sooner total (cleared ns es op i.path) (entry_of i) x (rising_kept path_of path_sooner total _ es (rises es up)) (found_target ns es op i.path deep h ∙ e) in
          omega arith

  -- ---- what is found
  pub found_changed : (q : Path) → found (changed ns es op n i) q ≡ after_at ns es op n i q
  unfolding changed
  found_changed q =
      ⊎_elim
      (λ (h : puts op ≡ true).
      ap (λ l. found l q) (cond-true _ _ _ h) ∙ ⊎_elim
      (λ (s : stays n (present es i.path) ≡ true).
      ap (λ l. found l q) (cond-true _ _ _ s) ∙ found_cleared ns es op i.path q ∙ ⊎_elim
      (λ (e : equal_paths q i.path ≡ true).
      subst (λ x. cond (taken_out ns op i.path x) None (found es x) ≡ after_at ns es op n i x) (sym (equal_is q i.path e))
      (cond-false _ _ _ (target_left ns es op i.path deep h) ∙ sym (cond-true _ _ _ (equal_self i.path) ∙ cond-true _ _ _ h ∙ cond-true _ _ _ s)))
      (λ (ne : equal_paths q i.path ≡ false). sym (cond-false _ _ _ ne))
      (cases_Bool (equal_paths q i.path)))
      (λ (s : stays n (present es i.path) ≡ false).
      ap (λ l. found l q) (cond-false _ _ _ s) ∙ ⊎_elim
      (λ (e : equal_paths q i.path ≡ true).
      subst (λ x. found (with_entry (cleared ns es op i.path) (entry_of i)) x ≡ after_at ns es op n i x) (sym (equal_is q i.path e))
      (lookup_put path_of path_sooner total (cleared ns es op i.path) (entry_of i) ∙ sym (cond-true _ _ _ (equal_self i.path) ∙ cond-true _ _ _ h ∙ cond-false _ _ _ s)))
      (λ (ne : equal_paths q i.path ≡ false).
      lookup_put_other path_of path_sooner total (cleared ns es op i.path) (entry_of i) q (λ same. both_ways (equal_paths q i.path) ne (ap (λ x. equal_paths x i.path) same ∙ equal_self i.path))
      ∙ found_cleared ns es op i.path q ∙ sym (cond-false _ _ _ ne))
      (cases_Bool (equal_paths q i.path)))
      (cases_Bool (stays n (present es i.path))))
      (λ (h : puts op ≡ false).
      ap (λ l. found l q) (cond-false _ _ _ h) ∙ ⊎_elim
      (λ (e : equal_paths q i.path ≡ true).
      subst (λ x. found (cleared ns es op i.path) x ≡ after_at ns es op n i x) (sym (equal_is q i.path e))
      (target_gone ns es op i.path h ∙ sym (cond-true _ _ _ (equal_self i.path) ∙ cond-false _ _ _ h)))
      (λ (ne : equal_paths q i.path ≡ false). found_cleared ns es op i.path q ∙ sym (cond-false _ _ _ ne))
      (cases_Bool (equal_paths q i.path)))
      (cases_Bool (puts op))

pub performed : (ns : List Node) → two_deep ns ≡ true → (es : List Entry) (op : Operation) (n : Node) (i : Item) (fs : List Entry) → judged ns es i ≡ Ok (op, n) → fs ≡ changed ns es op n i → Performed ns es i fs
performed ns deep es op n i fs ok is =
    record {
      operation = op;
      node = n;
      lawful = ok;
      finds = λ q. ap (λ l. found l q) is ∙ found_changed ns deep es op n i q;
      entries = is;
    }

-- the entries afterwards, by whether the operation puts
pub changed_puts : (ns : List Node) (es : List Entry) (op : Operation) (n : Node) (i : Item) → puts op ≡ true → put_in (cleared ns es op i.path) n i (present es i.path) ≡ changed ns es op n i
unfolding changed
changed_puts ns es op n i h = sym (cond-true _ _ _ h)

pub changed_else : (ns : List Node) (es : List Entry) (op : Operation) (n : Node) (i : Item) → puts op ≡ false → cleared ns es op i.path ≡ changed ns es op n i
unfolding changed
changed_else ns es op n i h = sym (cond-false _ _ _ h)
