-- Required values are told by rule 4.
use Rattle.std.proofs.Common.{◌≡◌, ◌<◌, ◌≤◌, true, false, leb, List, [], ◌∷◌, Some, None, Ok, Err, Option, Result, refl, ap, ◌∙◌, subst, ⊎_elim, arith}
use Rattle.std.proofs.lemmas.Bool.{and_parts, and_from, both_ways, cond_both, leb-true, le-leb, false≢true}
use Rattle.table.specs.Table.{Rising}
use Rattle.table.proofs.Order.{asym}
use Rattle.table.proofs.Rows.{rising_head, rising_tail}
use Rattle.schema.specs.declared.path.Path.{Path}
use Rattle.config.specs.declared.entry.Entry.{Entry}
use Rattle.config.specs.Order.{path_sooner}
use Rattle.config.specs.Configs.{found}
use Rattle.config.proofs.Order.{total}
use Rattle.validate.specs.declared.broken.Rule.{Rule}
use Rattle.validate.specs.declared.broken.Rule.TheVariants.{MandatoryMissing, ReferenceDangling, TooManyEntries, ValueRequired}
use Rattle.validate.specs.declared.broken.Broken.{Broken}
use Rattle.validate.specs.declared.bound.Bound.{Bound}
use Rattle.validate.specs.Rules.{rule_number, Told}
use Rattle.validate.specs.Bounds.{bound_path, met_by, met, first_unmet, Unmet, RequiredBreaks}
use Rattle.validate.proofs.Lists.{has_none, has_first, has_later, has_cases}

-- a record that is met has an entry with a value in its range
met_has : (b : Bound) (o : Option Entry) → met_by o b ≡ true → ((e : Entry) → o ≡ Some e → b.values.lo ≤ e.value → e.value ≤ b.values.hi → ⊥) → ⊥
met_has b None h none = false≢true h
met_has b (Some e) h none =
    let p = and_parts (leb b.values.lo e.value) (leb e.value b.values.hi) h in
    none e refl (leb-true _ _ p.0) (leb-true _ _ p.1)

unmet_none : (b : Bound) (o : Option Entry) → met_by o b ≡ false → (e : Entry) → o ≡ Some e → b.values.lo ≤ e.value → e.value ≤ b.values.hi → ⊥
unmet_none b o h e is lo hi = both_ways (met_by o b) h (ap (λ (x : Option Entry). met_by x b) is ∙ and_from _ _ (le-leb _ _ lo) (le-leb _ _ hi))

module _ (es : List Entry) where
  later : (b : Bound) (bs : List Bound) (p : Path) → Unmet bs es p → Unmet (b ∷ bs) es p
  later b bs p u = record { bound = u.bound; asked = has_later b u.bound bs u.asked; there = u.there; none = u.none }

  earlier : (b : Bound) (bs : List Bound) (p : Path) → met es b ≡ true → Unmet (b ∷ bs) es p → Unmet bs es p
  earlier b bs p m u =
      ⊎_elim
      (λ (e : b ≡ u.bound).
      absurd (met_has u.bound (found es p) (subst (λ q. met_by (found es q) u.bound ≡ true) u.there (subst (λ x. met es x ≡ true) e m)) u.none))
      (λ h. record { bound = u.bound; asked = h; there = u.there; none = u.none })
      (has_cases b u.bound bs u.asked)

  earlier_rules : (b : Bound) (bs : List Bound) → met es b ≡ true → (r : Rule) (p : Path) → RequiredBreaks (b ∷ bs) es r p → RequiredBreaks bs es r p
  earlier_rules b bs m MandatoryMissing p u = u
  earlier_rules b bs m ReferenceDangling p u = u
  earlier_rules b bs m TooManyEntries p u = u
  earlier_rules b bs m ValueRequired p u = earlier b bs p m u

  later_rules : (b : Bound) (bs : List Bound) (r : Rule) (p : Path) → RequiredBreaks bs es r p → RequiredBreaks (b ∷ bs) es r p
  later_rules b bs MandatoryMissing p u = u
  later_rules b bs ReferenceDangling p u = u
  later_rules b bs TooManyEntries p u = u
  later_rules b bs ValueRequired p u = later b bs p u

  no_rule : (bs : List Bound) (r : Rule) (p : Path) → rule_number r < 4 → RequiredBreaks bs es r p → ⊥
  no_rule bs MandatoryMissing p lt u = u
  no_rule bs ReferenceDangling p lt u = u
  no_rule bs TooManyEntries p lt u = u
  no_rule bs ValueRequired p lt u = omega arith

  -- the paths of records that rise are not before the first one's
  first_lowest : (b : Bound) (bs : List Bound) (p : Path) → Rising bound_path path_sooner (b ∷ bs) → Unmet (b ∷ bs) es p → path_sooner p b.path ≡ false
  first_lowest b bs p up u =
      subst (λ q. path_sooner q b.path ≡ false) u.there
      (⊎_elim
      (λ (e : b ≡ u.bound). subst (λ (x : Bound). path_sooner x.path b.path ≡ false) e (total.irreflexive b.path))
      (λ h.
      asym bound_path path_sooner total b.path u.bound.path
      (subst (λ (x : Bound). path_sooner b.path x.path ≡ true) (h.2 b) (rising_head bound_path path_sooner total b bs up h.0 b (omega arith) h.1)))
      (has_cases b u.bound bs u.asked))

  onward : (b : Bound) (bs : List Bound) (v : Result Unit Broken) → met es b ≡ true → Told (RequiredBreaks bs es) v → Told (RequiredBreaks (b ∷ bs) es) v
  onward b bs (Ok x) m t = λ r p u. t r p (earlier_rules b bs m r p u)
  onward b bs (Err x) m t =
      record {
        broken = later_rules b bs x.rule x.path t.broken;
        lower_rules = λ r p lt u. t.lower_rules r p lt (earlier_rules b bs m r p u);
        lower_paths = λ p u. t.lower_paths p (earlier_rules b bs m x.rule p u);
      }

  nothing_asked : (r : Rule) (p : Path) → RequiredBreaks [] es r p → ⊥
  nothing_asked MandatoryMissing p u = u
  nothing_asked ReferenceDangling p u = u
  nothing_asked TooManyEntries p u = u
  nothing_asked ValueRequired p u = has_none u.bound u.asked

  pub unmet_told : (bs : List Bound) → Rising bound_path path_sooner bs → Told (RequiredBreaks bs es) (first_unmet bs es)
  unmet_told [] up = nothing_asked
  unmet_told (b ∷ bs) up =
      cond_both (met es b) _ _ (λ v. Told (RequiredBreaks (b ∷ bs) es) v)
      (λ m. onward b bs (first_unmet bs es) m (unmet_told bs (rising_tail bound_path path_sooner total b bs up)))
      (λ m. record {
        broken = record { bound = b; asked = has_first b bs; there = refl; none = unmet_none b (found es b.path) m };
        lower_rules = λ r p lt u. no_rule (b ∷ bs) r p lt u;
        lower_paths = λ p u. first_lowest b bs p up u;
      })
