-- What lies under a list entry.
use Rattle.std.proofs.Common.{◌≡◌, true, false, ◌||◌, List, Some, None, Option, sym, refl, ap, ◌∙◌, subst, ⊎_elim, rules}
use Rattle.std.proofs.lemmas.Bool.{both_ways, cases_Bool, or_cases, or_left, or_right}
use Rattle.std.proofs.lemmas.Option.{none-some}
use Rattle.table.proofs.Rows.{same_is, same_refl, same_apart}
use Rattle.std.specs.Option.{option_eq}
use Rattle.schema.specs.Depth.{two_deep}
use Rattle.schema.specs.Equal.{same_path}
use Rattle.schema.specs.Paths.{around}
use Rattle.schema.specs.declared.nodes.Node.{Node}
use Rattle.schema.specs.declared.path.Path.{Path}
use Rattle.schema.proofs.Depth.{three}
use Rattle.config.specs.Configs.{path_of}
use Rattle.config.specs.Order.{equal_paths, path_sooner}
use Rattle.config.proofs.Order.{total}
use Rattle.edit.specs.Does.{inside, is_at, under}

pub equal_is : (p q : Path) → equal_paths p q ≡ true → p ≡ q
equal_is p q h = same_is path_of path_sooner total p q h

pub equal_self : (p : Path) → equal_paths p p ≡ true
equal_self p = same_refl path_of path_sooner total p

pub not_equal : (p q : Path) → (p ≡ q → ⊥) → equal_paths p q ≡ false
not_equal p q ne = same_apart path_of path_sooner total p q ne

-- the derived equality is that of the order
pub same_equal : (p q : Path) → same_path p q ≡ equal_paths p q
same_equal p q = search rules

is_at_eq : (o : Option Path) (p : Path) → option_eq same_path o (Some p) ≡ is_at o p
is_at_eq None p = refl
is_at_eq (Some q) p = same_equal q p

-- the list around another list's entry says whether a path lies under an entry further out
pub under_further : (ns : List Node) (p q a : Path) → Some a ≡ around ns q → same_path a p ≡ false → option_eq same_path (around ns a) (Some p) ≡ under ns p q
under_further ns p q a e h =
    is_at_eq (around ns a) p ∙ sym (ap (λ b. b || is_at (around ns a) p) (sym (same_equal a p) ∙ h)) ∙ ap (inside ns p) e

module _ (ns : List Node) where
  -- one step or two
  under_steps : (p q : Path) (o : Option Path) → around ns q ≡ o → inside ns p o ≡ true → (a : Path) × (around ns q ≡ Some a) × ((a ≡ p → ⊥) → around ns a ≡ Some p)
  under_steps p q None e h = absurd (both_ways false refl h)
  under_steps p q (Some a) e h = (
    a,
    e,
    λ ne. ⊎_elim
        (λ (here : equal_paths a p ≡ true). absurd (ne (equal_is a p here)))
        (λ (further : is_at (around ns a) p ≡ true). at_that (around ns a) refl further)
        (or_cases (equal_paths a p) (is_at (around ns a) p) h),
  )
    where
      at_that : (o : Option Path) → around ns a ≡ o → is_at o p ≡ true → around ns a ≡ Some p
      at_that None e h = absurd (both_ways false refl h)
      at_that (Some b) e h = e ∙ ap (λ x. Some x) (equal_is b p h)

  pub steps : (p q : Path) → under ns p q ≡ true → (a : Path) × (around ns q ≡ Some a) × ((a ≡ p → ⊥) → around ns a ≡ Some p)
  steps p q h = under_steps p q (around ns q) refl h

  pub under_one : (p q : Path) → around ns q ≡ Some p → under ns p q ≡ true
  under_one p q e = ap (inside ns p) e ∙ or_left (equal_paths p p) (is_at (around ns p) p) (equal_self p)

  pub under_two : (p q a : Path) → around ns q ≡ Some a → around ns a ≡ Some p → under ns p q ≡ true
  under_two p q a e f = ap (inside ns p) e ∙ or_right (equal_paths a p) (is_at (around ns a) p) (ap (λ o. is_at o p) f ∙ equal_self p)

  module _ (deep : two_deep ns ≡ true) where
    -- an entry does not stand around itself, nor around what stands around it
    pub around_apart : (p a : Path) → around ns p ≡ Some a → around ns a ≡ Some p → ⊥
    around_apart p a e f = none-some a (sym (three ns deep p a p e f) ∙ e)

    pub around_other : (p a : Path) → around ns p ≡ Some a → (a ≡ p → ⊥)
    around_other p a e q = around_apart p a e (subst (λ x. around ns x ≡ Some p) (sym q) (e ∙ ap (λ x. Some x) q))

    -- what stands around a path does not lie under it
    pub around_not_under : (p a : Path) → around ns p ≡ Some a → under ns p a ≡ false
    around_not_under p a e =
        ⊎_elim
        (λ (h : under ns p a ≡ true).
        let s = steps p a h in
        let b = s.0 in
        absurd (⊎_elim
        (λ (same : equal_paths b p ≡ true). around_apart p a e (s.1 ∙ ap (λ x. Some x) (equal_is b p same)))
        (λ (other : equal_paths b p ≡ false). none-some p (sym (three ns deep p a b e s.1) ∙ s.2 (λ q. both_ways (equal_paths b p) other (ap (λ x. equal_paths x p) q ∙ equal_self p))))
        (cases_Bool (equal_paths b p))))
        (λ h. h)
        (cases_Bool (under ns p a))

    pub under_self : (p : Path) → under ns p p ≡ false
    under_self p =
        ⊎_elim
        (λ (h : under ns p p ≡ true).
        let s = steps p p h in
        let a = s.0 in
        absurd (around_apart p a s.1 (s.2 (around_other p a s.1))))
        (λ h. h)
        (cases_Bool (under ns p p))

    -- what stands around a path outside lies outside, or is the entry itself
    pub around_outside : (p q a : Path) → around ns q ≡ Some a → under ns p q ≡ false → under ns p a ≡ false
    around_outside p q a e out =
        ⊎_elim
        (λ (h : under ns p a ≡ true).
        let s = steps p a h in
        let b = s.0 in
        absurd (⊎_elim
        (λ (same : equal_paths b p ≡ true). both_ways (under ns p q) out (under_two p q a e (s.1 ∙ ap (λ x. Some x) (equal_is b p same))))
        (λ (other : equal_paths b p ≡ false). none-some p (sym (three ns deep q a b e s.1) ∙ s.2 (λ q. both_ways (equal_paths b p) other (ap (λ x. equal_paths x p) q ∙ equal_self p))))
        (cases_Bool (equal_paths b p))))
        (λ h. h)
        (cases_Bool (under ns p a))
