-- The nodes of lawful rows nest at most two deep.
use Rattle.std.proofs.Common.{◌≡◌, ℕ, zero, suc, ◌+◌, ◌<◌, Bool, true, false, List, [], ◌∷◌, map, length, get_or, Some, None, Option, sym, refl, ap, ◌∙◌, subst, ⊎_elim, arith}
use Rattle.std.specs.Option.{option_map}
use Rattle.std.proofs.lemmas.List.{get_or-map, length-map}
use Rattle.std.proofs.lemmas.Bool.{and_from, and_parts, both_ways, cases_eq, cond-true, cond-false, eq-eqb, ne_eqb}
use Rattle.schema.specs.declared.nodes.Node.{Node}
use Rattle.schema.specs.declared.nodes.Node.TheVariants.{List as list_node, Leaf}
use Rattle.schema.specs.declared.nodes.NodeRow.{NodeRow}
use Rattle.schema.specs.declared.path.Path.{Path}
use Rattle.schema.specs.Paths.{around, around_node, inner_entry, outer_entry}
use Rattle.schema.specs.Rows.{at, number_in, parent_at}
use Rattle.schema.specs.Rules.{Lawful, NodeLawful, ParentLawful}
use Rattle.schema.specs.Nodes.{node_of, optional}
use Rattle.schema.specs.Depth.{is_list, is_top_list, list_placed, leaf_placed, placed, every, two_deep, no_parent}

at_map : {A B : Type 0} (f : A → B) (xs : List A) (n : ℕ) → at (map f xs) n ≡ option_map f (at xs n)
unfolding at
at_map f [] n = refl
at_map f (x ∷ xs) zero = refl
at_map f (x ∷ xs) (suc zero) = refl
at_map f (x ∷ xs) (suc (suc n)) = at_map f xs (suc n)

pub every_from : {A : Type 0} (f : A → Bool) (xs : List A) → ((i : ℕ) (d : A) → i < length xs → f (get_or xs i d) ≡ true) → every f xs ≡ true
every_from f [] h = refl
every_from f (x ∷ xs) h =
    and_from (f x) (every f xs) (h 0 x (omega arith)) (every_from f xs (λ i d lt. h (suc i) d (omega arith)))

-- a row of kind 1 gives a list, one without parent a list at the top
list_row : (r : NodeRow) → r.kind ≡ 1 → is_list (Some (node_of r)) ≡ true
list_row r k = ap (λ n. is_list (Some n)) (cond-true _ _ _ (eq-eqb _ _ k))

top_row : (r : NodeRow) → r.kind ≡ 1 → r.parent ≡ 0 → is_top_list (Some (node_of r)) ≡ true
top_row r k p =
    ap (λ n. is_top_list (Some n)) (cond-true _ _ _ (eq-eqb _ _ k)) ∙ ap no_parent (cond-true _ _ _ (eq-eqb _ _ p))

found_list : (o : Option NodeRow) → number_in (λ r. r.kind) o ≡ 1 → is_list (option_map node_of o) ≡ true
found_list None k = absurd (omega arith)
found_list (Some r) k = list_row r k

found_top : (o : Option NodeRow) → number_in (λ r. r.kind) o ≡ 1 → number_in (λ r. r.parent) o ≡ 0 → is_top_list (option_map node_of o) ≡ true
found_top None k p = absurd (omega arith)
found_top (Some r) k p = top_row r k p

module _ (rows : List NodeRow) where
  -- a node stands nowhere, or where the rows have what f asks for
  place_ok : (f : Option ℕ → Bool) (g : Option Node → Bool) (p : ℕ) → f None ≡ true → f (Some p) ≡ g (at (map node_of rows) p) → (0 < p → g (option_map node_of (at rows p)) ≡ true) → f (optional p) ≡ true
  place_ok f g p none some there =
      ⊎_elim
      (λ (e : p ≡ 0). ap f (cond-true _ _ _ (eq-eqb _ _ e)) ∙ none)
      (λ (ne : p ≡ 0 → ⊥). ap f (cond-false _ _ _ (ne_eqb _ _ ne)) ∙ some ∙ ap g (at_map node_of rows p) ∙ there (omega arith))
      (cases_eq p 0)

  leaf_ok : (n : ℕ) (r : NodeRow) → ParentLawful rows n r → leaf_placed (map node_of rows) (optional r.parent) ≡ true
  leaf_ok n r p = place_ok (leaf_placed (map node_of rows)) is_list r.parent refl refl (λ above. found_list (at rows r.parent) (p.in_list above))

  list_ok : (n : ℕ) (r : NodeRow) → ParentLawful rows n r → parent_at rows r.parent ≡ 0 → list_placed (map node_of rows) (optional r.parent) ≡ true
  list_ok n r p top = place_ok (list_placed (map node_of rows)) is_top_list r.parent refl refl (λ above. found_top (at rows r.parent) (p.in_list above) top)

  row_ok : (n : ℕ) (r : NodeRow) → NodeLawful rows n r → placed (map node_of rows) (node_of r) ≡ true
  row_ok n r node =
      ⊎_elim
      (λ (k : r.kind ≡ 1). let l = node.list k in ap (placed (map node_of rows)) (cond-true _ _ _ (eq-eqb _ _ k)) ∙ list_ok n r l.place l.two_deep)
      (λ (other : r.kind ≡ 1 → ⊥).
      let k : r.kind ≡ 2 = omega (arith, node.kind_least, node.kind_most) in
      let l = node.leaf k in
      ap (placed (map node_of rows)) (cond-false _ _ _ (ne_eqb _ _ other)) ∙ leaf_ok n r l.place)
      (cases_eq r.kind 1)

  pub nests : Lawful rows → two_deep (map node_of rows) ≡ true
  nests lawful = every_from (placed (map node_of rows)) (map node_of rows) go
    where
      go : (i : ℕ) (d : Node) → i < length (map node_of rows) → placed (map node_of rows) (get_or (map node_of rows) i d) ≡ true
      go i d lt =
          let size = length-map rows node_of in
          let within : i < length rows = omega arith in
          let e : NodeRow = record { kind = 0; parent = 0; lo = 0; hi = 0; mandatory = 0; reference = 0; maximum = 0 } in
          ap (placed (map node_of rows)) (get_or-map node_of rows i e d within) ∙ row_ok (i + 1) (get_or rows i e) (lawful.each i e within)

-- ---- three lists around one another
every_at : {A : Type 0} (f : A → Bool) (xs : List A) (n : ℕ) (x : A) → every f xs ≡ true → at xs n ≡ Some x → f x ≡ true
unfolding at
every_at f [] n x h e = cc
every_at f (y ∷ ys) zero x h e = cc
every_at f (y ∷ ys) (suc zero) x h e = let one : y ≡ x = cc in subst (λ v. f v ≡ true) one (and_parts (f y) (every f ys) h).0
every_at f (y ∷ ys) (suc (suc n)) x h e = every_at f ys (suc n) x (and_parts (f y) (every f ys) h).1 e

module _ (ns : List Node) (deep : two_deep ns ≡ true) where
  -- what stands around a list at the top: nothing
  top_around : (a : Path) (o : Option Node) → at ns a.node ≡ o → is_top_list o ≡ true → around ns a ≡ None
  top_around a None e t = absurd (both_ways false refl t)
  top_around a (Some (Leaf l)) e t = absurd (both_ways false refl t)
  top_around a (Some (list_node l)) e t = ap (around_node a) e ∙ no_list l.parent t
    where
      no_list : (p : Option ℕ) → no_parent p ≡ true → option_map (outer_entry a) p ≡ None
      no_list None h = refl
      no_list (Some p) h = absurd (both_ways false refl h)

  -- around a list stands a list at the top
  list_around : (a b : Path) (o : Option Node) → at ns a.node ≡ o → is_list o ≡ true → around ns a ≡ Some b → around ns b ≡ None
  list_around a b None e t h = absurd (both_ways false refl t)
  list_around a b (Some (Leaf l)) e t h = absurd (both_ways false refl t)
  list_around a b (Some (list_node l)) e t h =
      go l.parent (every_at (placed ns) ns a.node (list_node l) deep e) (sym (ap (around_node a) e) ∙ h)
    where
      go : (p : Option ℕ) → list_placed ns p ≡ true → option_map (outer_entry a) p ≡ Some b → around ns b ≡ None
      go None t h = cc
      go (Some p) t h =
          let is : outer_entry a p ≡ b = cc in
          subst (λ x. around ns x ≡ None) is (top_around (outer_entry a p) (at ns p) refl t)

  pub three : (q a b : Path) → around ns q ≡ Some a → around ns a ≡ Some b → around ns b ≡ None
  three q a b h = from (at ns q.node) refl h
    where
      from : (o : Option Node) → at ns q.node ≡ o → around ns q ≡ Some a → around ns a ≡ Some b → around ns b ≡ None
      from None e h k = cc (sym (ap (around_node q) e) ∙ h)
      from (Some (list_node l)) e h k = go l.parent (every_at (placed ns) ns q.node (list_node l) deep e) (sym (ap (around_node q) e) ∙ h)
        where
          go : (p : Option ℕ) → list_placed ns p ≡ true → option_map (outer_entry q) p ≡ Some a → around ns b ≡ None
          go None t h = cc
          go (Some p) t h =
              let is : outer_entry q p ≡ a = cc in
              let none : around ns a ≡ None = subst (λ x. around ns x ≡ None) is (top_around (outer_entry q p) (at ns p) refl t) in
              cc (sym k ∙ none)
      from (Some (Leaf l)) e h k = go l.parent (every_at (placed ns) ns q.node (Leaf l) deep e) (sym (ap (around_node q) e) ∙ h)
        where
          go : (p : Option ℕ) → leaf_placed ns p ≡ true → option_map (inner_entry q) p ≡ Some a → around ns b ≡ None
          go None t h = cc
          go (Some p) t h =
              let is : inner_entry q p ≡ a = cc in
              list_around a b (at ns a.node) refl (subst (λ x. is_list (at ns x.node) ≡ true) is t) k
