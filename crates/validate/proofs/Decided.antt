-- The tests of the schema rules decide whether a rule is broken at a path, and where they can pass.
use Rattle.std.proofs.Common.{◌≡◌, ℕ, zero, suc, ◌<◌, ◌≤◌, true, false, not, ◌&&◌, eqb, List, [], ◌∷◌, length, is_some, Some, None, count_by, Option, sym, refl, ap, ◌∙◌, subst, inl, inr, ⊎_elim, arith}
use Rattle.std.specs.Option.{option_map}
use Rattle.std.specs.List.{ContainsAt as Has}
use Rattle.std.proofs.lemmas.Bool.{and_parts, and_from, or_cases, or_left, or_right, both_ways, cases_Bool, cases_lt, cond-true, cond-false, eqb-true, eq-eqb, ltb-true, lt-ltb, not-true, not_from_false, false≢true}
use Rattle.table.specs.Table.{same}
use Rattle.table.proofs.Rows.{same_is}
use Rattle.schema.specs.Rows.{at}
use Rattle.schema.specs.Paths.{around_node}
use Rattle.schema.specs.declared.nodes.LeafNode.{LeafNode}
use Rattle.schema.specs.declared.nodes.ListNode.{ListNode}
use Rattle.schema.specs.declared.nodes.Node.{Node}
use Rattle.schema.specs.declared.nodes.Node.TheVariants.{List as list_node, Leaf}
use Rattle.schema.specs.declared.path.Path.{Path}
use Rattle.schema.proofs.Numbered.{at_zero, at_past}
use Rattle.config.specs.declared.entry.Entry.{Entry}
use Rattle.config.specs.Order.{path_sooner}
use Rattle.config.specs.Configs.{found, path_of}
use Rattle.config.specs.Lawful.{held, held_at}
use Rattle.config.proofs.Order.{total}
use Rattle.validate.specs.Schemas.{Missing, Dangling, Crowded, in_parent, keyless, missing_node, missing, has_key, no_target, dangling_node, dangling, list_place, over, crowded_node, crowded}
use Rattle.validate.proofs.Lists.{has_none, has_first, has_later, has_cases}
use Rattle.validate.proofs.Low.{KeysOf}

-- ---- options
module _ {X : Type 0} where
  none_since : (o : Option X) → not (is_some o) ≡ true → o ≡ None
  none_since None h = refl
  none_since (Some x) h = absurd (false≢true h)

  some_never : (x : X) → Some x ≡ None → ⊥
  some_never x e = cc

-- the node of a number is one of the nodes
pub numbered : (ns : List Node) (n : ℕ) (x : Node) → at ns n ≡ Some x → (1 ≤ n) × (n ≤ length ns)
numbered ns zero x h = absurd (some_never x (sym h ∙ at_zero ns))
numbered ns (suc n) x h =
    ⊎_elim
    (λ (past : length ns < suc n). absurd (some_never x (sym h ∙ at_past ns (suc n) past)))
    (λ (within : suc n ≤ length ns). (omega arith, within))
    (cases_lt (length ns) (suc n))

-- ---- entries
-- what is found at a path is an entry of that path
pub found_has : (es : List Entry) (p : Path) (e : Entry) → found es p ≡ Some e → Has es e × (e.path ≡ p)
found_has [] p e h = absurd (some_never e (sym h))
found_has (x ∷ es) p e h =
    ⊎_elim
    (λ (s : same path_of path_sooner x.path p ≡ true).
    let is : ◌≡◌ {A = Option Entry} (Some x) (Some e) = sym (cond-true _ _ _ s) ∙ h in
    let one : x ≡ e = cc in
    (subst (λ y. Has (x ∷ es) y) one (has_first x es), subst (λ (y : Entry). y.path ≡ p) one (same_is path_of path_sooner total x.path p s)))
    (λ (s : same path_of path_sooner x.path p ≡ false).
    let rest = found_has es p e (sym (cond-false _ _ _ s) ∙ h) in
    (has_later x e es rest.0, rest.1))
    (cases_Bool (same path_of path_sooner x.path p))

some_found : (es : List Entry) (p : Path) → is_some (found es p) ≡ true → (e : Entry) × Has es e × (e.path ≡ p)
some_found es p h = go (found es p) refl h
  where
    go : (o : Option Entry) → found es p ≡ o → is_some o ≡ true → (e : Entry) × Has es e × (e.path ≡ p)
    go None is h = absurd (false≢true h)
    go (Some e) is h = let f = found_has es p e is in (e, f.0, f.1)

-- the keys of a list entry that is present
keys_there : (es : List Entry) (p q : Path) → is_some (found es q) ≡ true → q.k1 ≡ p.k1 → q.k2 ≡ p.k2 → KeysOf es p
keys_there es p q h a b =
    let f = some_found es q h in
    inr (f.0, f.1, ap (λ (x : Path). x.k1) f.2 ∙ a, ap (λ (x : Path). x.k2) f.2 ∙ b)

key_decides : (es : List Entry) (list key : ℕ) → has_key es list key ≡ true → ((e : Entry) → Has es e → e.path.node ≡ list → e.path.k1 ≡ key → ⊥) → ⊥
key_decides [] list key h none = false≢true h
key_decides (x ∷ es) list key h none =
    ⊎_elim
    (λ t. let t2 = and_parts _ _ t in none x (has_first x es) (eqb-true _ _ t2.0) (eqb-true _ _ t2.1))
    (λ t. key_decides es list key t (λ e has. none e (has_later x e es has)))
    (or_cases (eqb x.path.node list && eqb x.path.k1 key) (has_key es list key) h)

key_there : (es : List Entry) (list key : ℕ) (e : Entry) → Has es e → e.path.node ≡ list → e.path.k1 ≡ key → has_key es list key ≡ true
key_there [] list key e has a b = absurd (has_none e has)
key_there (x ∷ es) list key e has a b =
    ⊎_elim
    (λ (one : x ≡ e). or_left _ _ (and_from _ _ (eq-eqb _ _ (ap (λ (y : Entry). y.path.node) one ∙ a)) (eq-eqb _ _ (ap (λ (y : Entry). y.path.k1) one ∙ b))))
    (λ later. or_right _ _ (key_there es list key e later a b))
    (has_cases x e es has)

module _ (ns : List Node) (es : List Entry) (p : Path) where
  -- ---- rule 1
  keyless_from : (o : Option ℕ) → keyless o p ≡ true → o ≡ None → (p.k1 ≡ 0) × (p.k2 ≡ 0)
  keyless_from None h e = let t = and_parts _ _ h in (eqb-true _ _ t.0, eqb-true _ _ t.1)
  keyless_from (Some list) h e = absurd (some_never list e)

  keyless_to : (o : Option ℕ) → (o ≡ None → (p.k1 ≡ 0) × (p.k2 ≡ 0)) → keyless o p ≡ true
  keyless_to None h = let t = h refl in and_from _ _ (eq-eqb _ _ t.0) (eq-eqb _ _ t.1)
  keyless_to (Some list) h = refl

  missing_from : (o : Option Node) → at ns p.node ≡ o → missing_node ns es p o ≡ true → Missing ns es p
  missing_from None is h = absurd (false≢true h)
  missing_from (Some (list_node l)) is h = absurd (false≢true h)
  missing_from (Some (Leaf l)) is h =
      let a = and_parts l.mandatory _ h in
      let b = and_parts (keyless l.parent p) _ a.1 in
      let c = and_parts (held ns es p) _ b.1 in
      record {
        leaf = l;
        is_leaf = is;
        mandatory = a.0;
        at_top = keyless_from l.parent b.0;
        inside = c.0;
        absent = none_since (found es p) c.1;
      }

  pub is_missing : missing ns es p ≡ true → Missing ns es p
  is_missing h = missing_from (at ns p.node) refl h

  pub missing_is : Missing ns es p → missing ns es p ≡ true
  missing_is m =
      ap (missing_node ns es p) m.is_leaf
      ∙ and_from _ _ m.mandatory (and_from _ _ (keyless_to m.leaf.parent m.at_top) (and_from _ _ m.inside (ap (λ (o : Option Entry). not (is_some o)) m.absent)))

  leaf_inside : (l : LeafNode) → at ns p.node ≡ Some (Leaf l) → held ns es p ≡ held_at es (option_map (λ n. record { node = n; k1 = p.k1; k2 = p.k2 }) l.parent)
  leaf_inside l is = ap (λ o. held_at es (around_node p o)) is

  pub missing_keys : Missing ns es p → KeysOf es p
  missing_keys m = go m.leaf.parent m.at_top (sym (leaf_inside m.leaf m.is_leaf) ∙ m.inside)
    where
      go : (o : Option ℕ) → (o ≡ None → (p.k1 ≡ 0) × (p.k2 ≡ 0)) → held_at es (option_map (λ n. record { node = n; k1 = p.k1; k2 = p.k2 }) o) ≡ true → KeysOf es p
      go None top h = inl (top refl)
      go (Some list) top h = keys_there es p (record { node = list; k1 = p.k1; k2 = p.k2 }) h refl refl

  -- ---- rule 2
  target_from : (l : LeafNode) → at ns p.node ≡ Some (Leaf l) → (r : Option ℕ) → l.reference ≡ r → (o : Option Entry) → found es p ≡ o → no_target es r o ≡ true → Dangling ns es p
  target_from l is None ref o at_p h = absurd (false≢true h)
  target_from l is (Some list) ref None at_p h = absurd (false≢true h)
  target_from l is (Some list) ref (Some e) at_p h =
      record {
        leaf = l;
        is_leaf = is;
        list = list;
        refers = ref;
        entry = e;
        present = at_p;
        no_key = λ x has a b. both_ways (has_key es list e.value) (not-true _ h) (key_there es list e.value x has a b);
      }

  dangling_from : (o : Option Node) → at ns p.node ≡ o → dangling_node es p o ≡ true → Dangling ns es p
  dangling_from None is h = absurd (false≢true h)
  dangling_from (Some (list_node l)) is h = absurd (false≢true h)
  dangling_from (Some (Leaf l)) is h = target_from l is l.reference refl (found es p) refl h

  pub is_dangling : dangling ns es p ≡ true → Dangling ns es p
  is_dangling h = dangling_from (at ns p.node) refl h

  pub dangling_is : Dangling ns es p → dangling ns es p ≡ true
  dangling_is d =
      ap (dangling_node es p) d.is_leaf
      ∙ ap (λ r. no_target es r (found es p)) d.refers
      ∙ ap (no_target es (Some d.list)) d.present
      ∙ not_from_false _ (⊎_elim (λ t. absurd (key_decides es d.list d.entry.value t d.no_key)) (λ f. f) (cases_Bool (has_key es d.list d.entry.value)))

  pub dangling_keys : Dangling ns es p → KeysOf es p
  dangling_keys d =
      let f = found_has es p d.entry d.present in
      inr (d.entry, f.0, ap (λ (x : Path). x.k1) f.1, ap (λ (x : Path). x.k2) f.1)

  -- ---- rule 3
  place_from : (o : Option ℕ) → list_place o p ≡ true → (o ≡ None → p.k1 ≡ 0) × (p.k2 ≡ 0)
  place_from None h = let t = and_parts _ _ h in ((λ e. eqb-true _ _ t.0), eqb-true _ _ t.1)
  place_from (Some outer) h = ((λ e. absurd (some_never outer e)), eqb-true _ _ h)

  place_to : (o : Option ℕ) → (o ≡ None → p.k1 ≡ 0) → p.k2 ≡ 0 → list_place o p ≡ true
  place_to None top k = and_from _ _ (eq-eqb _ _ (top refl)) (eq-eqb _ _ k)
  place_to (Some outer) top k = eq-eqb _ _ k

  over_from : (l : ListNode) → at ns p.node ≡ Some (list_node l) → (m : Option ℕ) → l.maximum ≡ m → (l.parent ≡ None → p.k1 ≡ 0) × (p.k2 ≡ 0) → held ns es p ≡ true → over m (count_by (in_parent l.parent p) es) ≡ true → Crowded ns es p
  over_from l is None max place h many = absurd (false≢true many)
  over_from l is (Some most) max place h many =
      record {
        list = l;
        is_list = is;
        most = most;
        maximum = max;
        at_top = place.0;
        of_list = place.1;
        inside = h;
        many = ltb-true _ _ many;
      }

  crowded_from : (o : Option Node) → at ns p.node ≡ o → crowded_node ns es p o ≡ true → Crowded ns es p
  crowded_from None is h = absurd (false≢true h)
  crowded_from (Some (list_node l)) is h =
      let a = and_parts (list_place l.parent p) _ h in
      let b = and_parts (held ns es p) _ a.1 in
      over_from l is l.maximum refl (place_from l.parent a.0) b.0 b.1
  crowded_from (Some (Leaf l)) is h = absurd (false≢true h)

  pub is_crowded : crowded ns es p ≡ true → Crowded ns es p
  is_crowded h = crowded_from (at ns p.node) refl h

  pub crowded_is : Crowded ns es p → crowded ns es p ≡ true
  crowded_is c =
      ap (crowded_node ns es p) c.is_list
      ∙ and_from _ _ (place_to c.list.parent c.at_top c.of_list)
      (and_from _ _ c.inside (ap (λ m. over m (count_by (in_parent c.list.parent p) es)) c.maximum ∙ lt-ltb _ _ c.many))

  list_inside : (l : ListNode) → at ns p.node ≡ Some (list_node l) → held ns es p ≡ held_at es (option_map (λ n. record { node = n; k1 = p.k1; k2 = 0 }) l.parent)
  list_inside l is = ap (λ o. held_at es (around_node p o)) is

  pub crowded_keys : Crowded ns es p → KeysOf es p
  crowded_keys c = go c.list.parent c.at_top (sym (list_inside c.list c.is_list) ∙ c.inside)
    where
      go : (o : Option ℕ) → (o ≡ None → p.k1 ≡ 0) → held_at es (option_map (λ n. record { node = n; k1 = p.k1; k2 = 0 }) o) ≡ true → KeysOf es p
      go None top h = inl (top refl, c.of_list)
      go (Some outer) top h = keys_there es p (record { node = outer; k1 = p.k1; k2 = 0 }) h refl (sym c.of_list)
