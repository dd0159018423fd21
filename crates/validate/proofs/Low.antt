-- The search for the lowest path finds it.
use Rattle.std.proofs.Common.{◌≡◌, ℕ, zero, suc, ◌+◌, ◌<◌, ◌≤◌, Bool, true, false, ◌⊎◌, List, [], ◌∷◌, Some, None, Option, sym, refl, ap, ◌∙◌, subst, inl, inr, ⊎_elim, arith}
use Rattle.std.specs.Option.{option_or}
use Rattle.std.specs.List.{ContainsAt as Has}
use Rattle.std.proofs.lemmas.Bool.{and_left, both_ways, cases_Bool, cases_eq, cond_both, le-ltb, ne_eqb, or_from}
use Rattle.schema.specs.declared.path.Path.{Path}
use Rattle.config.specs.declared.entry.Entry.{Entry}
use Rattle.config.specs.Order.{path_sooner}
use Rattle.config.proofs.Order.{total, same_path}
use Rattle.validate.specs.Search.{least, lower, without_keys, with_keys, lowest_from, lowest_of, first_at, lowest}
use Rattle.validate.proofs.Lists.{has_none, has_first, has_later, has_cases}

-- the lowest path of which something holds, if there is one
abbrev pub Low : (Path → Type 0) → Option Path → Type 0
Low P None = (p : Path) → P p → ⊥
Low P (Some q) = P q × ((p : Path) → P p → path_sooner p q ≡ false)

pub low_like : (P Q : Path → Type 0) → ((p : Path) → P p → Q p) → ((p : Path) → Q p → P p) → (o : Option Path) → Low P o → Low Q o
low_like P Q f g None l = λ p q. l p (g p q)
low_like P Q f g (Some x) l = (f x l.0, λ p q. l.1 p (g p q))

not_itself : (p q : Path) → p ≡ q → path_sooner p q ≡ false
not_itself p q e = subst (λ x. path_sooner p x ≡ false) e (total.irreflexive p)

not_sooner : (p q b : Path) → path_sooner p b ≡ false → path_sooner q b ≡ true → path_sooner p q ≡ false
not_sooner p q b h s =
    ⊎_elim (λ e. absurd (both_ways (path_sooner p b) h (total.transitive p q b e s))) (λ e. e) (cases_Bool (path_sooner p q))

later_node : (p q : Path) → q.node < p.node → path_sooner p q ≡ false
later_node p q lt =
    or_from _ _ (le-ltb p.node q.node (omega arith)) (and_left _ _ (ne_eqb p.node q.node (λ (e : p.node ≡ q.node). omega arith)))

-- a path of this node with the keys of an entry
abbrev From : ℕ → List Entry → Path → Type 0
From n es p = (e : Entry) × Has es e × (p ≡ with_keys n e)

-- a path has no keys, or those of an entry
abbrev pub KeysOf : List Entry → Path → Type 0
KeysOf es p =
    ((p.k1 ≡ 0) × (p.k2 ≡ 0)) ⊎ ((e : Entry) × Has es e × (e.path.k1 ≡ p.k1) × (e.path.k2 ≡ p.k2))

module _ (test : Path → Bool) where
  -- one more path
  abbrev And : (Path → Type 0) → Path → Path → Type 0
  And S q p = S p ⊎ ((test p ≡ true) × (p ≡ q))

  least_low : (S : Path → Type 0) (so_far : Option Path) (q : Path) → test q ≡ true → Low S so_far → Low (And S q) (Some (least so_far q))
  least_low S None q t l =
      (inr (t, refl), λ p h. ⊎_elim (λ s. absurd (l p s)) (λ u. not_itself p q u.1) h)
  least_low S (Some b) q t l =
      cond_both (path_sooner q b) q b (λ x. Low (And S q) (Some x))
      (λ sooner. (inr (t, refl), λ p h. ⊎_elim (λ s. not_sooner p q b (l.1 p s) sooner) (λ u. not_itself p q u.1) h))
      (λ later. (inl l.0, λ p h. ⊎_elim (λ s. l.1 p s) (λ u. subst (λ x. path_sooner x b ≡ false) (sym u.1) later) h))

  lower_low : (S : Path → Type 0) (so_far : Option Path) (q : Path) → Low S so_far → Low (And S q) (lower test so_far q)
  lower_low S so_far q l =
      cond_both (test q) _ _ (λ o. Low (And S q) o)
      (λ t. least_low S so_far q t l)
      (λ never. low_like S (And S q) (λ p s. inl s)
      (λ p h. ⊎_elim (λ s. s) (λ t. absurd (both_ways (test q) never (subst (λ x. test x ≡ true) t.1 t.0))) h) so_far l)

  from_low : (n : ℕ) (es : List Entry) (S : Path → Type 0) (so_far : Option Path) → Low S so_far → Low (λ p. S p ⊎ ((test p ≡ true) × From n es p)) (lowest_from test n so_far es)
  unfolding lowest_from
  from_low n [] S so_far l =
      low_like S _ (λ p s. inl s) (λ p h. ⊎_elim (λ s. s) (λ t. absurd (has_none t.1.0 t.1.1)) h) so_far l
  from_low n (e ∷ es) S so_far l =
      let q = with_keys n e in
      low_like (λ p. And S q p ⊎ ((test p ≡ true) × From n es p)) _
      (λ p h. ⊎_elim
      (λ a. ⊎_elim (λ s. inl s) (λ t. inr (t.0, (e, has_first e es, t.1))) a)
      (λ t. inr (t.0, (t.1.0, has_later e t.1.0 es t.1.1, t.1.2))) h)
      (λ p h. ⊎_elim
      (λ s. inl (inl s))
      (λ t. ⊎_elim
      (λ (same : e ≡ t.1.0). inl (inr (t.0, t.1.2 ∙ ap (with_keys n) (sym same))))
      (λ h. inr (t.0, (t.1.0, h, t.1.2)))
      (has_cases e t.1.0 es t.1.1)) h)
      _ (from_low n es (And S q) (lower test so_far q) (lower_low S so_far q l))

  of_low : (n : ℕ) (es : List Entry) → ((p : Path) → test p ≡ true → KeysOf es p) → Low (λ p. (test p ≡ true) × (p.node ≡ n)) (lowest_of test es n)
  of_low n es keys =
      low_like (λ p. And (λ _. ⊥) (without_keys n) p ⊎ ((test p ≡ true) × From n es p)) _
      (λ p h. ⊎_elim
      (λ a. ⊎_elim (λ never. absurd never) (λ t. (t.0, ap (λ (x : Path). x.node) t.1)) a)
      (λ t. (t.0, ap (λ (x : Path). x.node) t.1.2)) h)
      (λ p t. ⊎_elim
      (λ k. inl (inr (t.0, same_path p (without_keys n) t.1 k.0 k.1)))
      (λ k. inr (t.0, (k.0, k.1, same_path p (with_keys n k.0) t.1 (sym k.2) (sym k.3))))
      (keys p t.0))
      _ (from_low n es (And (λ _. ⊥) (without_keys n)) (lower test None (without_keys n)) (lower_low (λ _. ⊥) None (without_keys n) (λ p never. never)))

  -- the paths of so many nodes, from n on
  abbrev Among : ℕ → ℕ → Path → Type 0
  Among n many p = (test p ≡ true) × (n ≤ p.node) × (p.node < n + many)

  first_step : (n many : ℕ) (rest : Option Path) → Low (Among (n + 1) many) rest → (o : Option Path) → Low (λ p. (test p ≡ true) × (p.node ≡ n)) o → Low (Among n (suc many)) (option_or o rest)
  first_step n many rest lr None l =
      low_like (Among (n + 1) many) (Among n (suc many))
      (λ p t. let a = t.1 in let b = t.2 in (t.0, omega arith, omega arith))
      (λ p t. let a = t.1 in let b = t.2 in ⊎_elim
      (λ (e : p.node ≡ n). absurd (l p (t.0, e)))
      (λ (ne : p.node ≡ n → ⊥). (t.0, omega arith, omega arith))
      (cases_eq p.node n))
      rest lr
  first_step n many rest lr (Some q) l =
      let here : q.node ≡ n = l.0.1 in (
        (l.0.0, omega arith, omega arith),
        λ p t. let a = t.1 in ⊎_elim
            (λ (e : p.node ≡ n). l.1 p (t.0, e))
            (λ (ne : p.node ≡ n → ⊥). later_node p q (omega arith))
            (cases_eq p.node n),
      )

  first_low : (f : ℕ → Option Path) → ((n : ℕ) → Low (λ p. (test p ≡ true) × (p.node ≡ n)) (f n)) → (many n : ℕ) → Low (Among n many) (first_at f n many)
  unfolding first_at
  first_low f each zero n = λ p t. let a = t.1 in let b = t.2 in omega arith
  first_low f each (suc many) n = first_step n many (first_at f (n + 1) many) (first_low f each many (n + 1)) (f n) (each n)

  pub lowest_low : (es : List Entry) → ((p : Path) → test p ≡ true → KeysOf es p) → ((p : Path) → test p ≡ true → (1 ≤ p.node) × (p.node ≤ 16)) → Low (λ p. test p ≡ true) (lowest test es)
  lowest_low es keys few =
      low_like (Among 1 16) (λ p. test p ≡ true) (λ p t. t.0)
      (λ p t. let a = (few p t).0 in let b = (few p t).1 in (t, a, omega arith)) _
      (first_low (lowest_of test es) (λ n. of_low n es keys) 16 1)
