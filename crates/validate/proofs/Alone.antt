-- At most one verdict is told of which rules are broken where.
use Rattle.std.proofs.Common.{◌≡◌, ℕ, ◌<◌, cond, eqb, Ok, Err, Result, sym, refl, ap, ◌∙◌, subst, ⊎_elim}
use Rattle.std.proofs.lemmas.Bool.{cases_order}
use Rattle.schema.specs.declared.path.Path.{Path}
use Rattle.config.proofs.Order.{total}
use Rattle.validate.specs.declared.broken.Rule.{Rule}
use Rattle.validate.specs.declared.broken.Rule.TheVariants.{MandatoryMissing, ReferenceDangling, TooManyEntries, ValueRequired}
use Rattle.validate.specs.declared.broken.Broken.{Broken}
use Rattle.validate.specs.Rules.{rule_number, Lowest, Told}
use Rattle.validate.specs.Laws.{Only}

abbrev numbered : ℕ → Rule
numbered n = cond (eqb n 1) MandatoryMissing (cond (eqb n 2) ReferenceDangling (cond (eqb n 3) TooManyEntries ValueRequired))

numbered_back : (r : Rule) → numbered (rule_number r) ≡ r
numbered_back MandatoryMissing = refl
numbered_back ReferenceDangling = refl
numbered_back TooManyEntries = refl
numbered_back ValueRequired = refl

same_rule : (a b : Rule) → rule_number a ≡ rule_number b → a ≡ b
same_rule a b h = sym (numbered_back a) ∙ ap numbered h ∙ numbered_back b

broken_at : Rule → Path → Broken
broken_at r p = record { rule = r; path = p }

same_broken : (a b : Broken) → a.rule ≡ b.rule → a.path ≡ b.path → a ≡ b
unfolding broken_at
same_broken a b r p = let same : broken_at a.rule a.path ≡ broken_at b.rule b.path = cc in same

module _ (breaks : Rule → Path → Type 0) where
  one_lowest : (a b : Broken) → Lowest breaks a → Lowest breaks b → a ≡ b
  one_lowest a b la lb =
      ⊎_elim
      (λ (e : rule_number a.rule ≡ rule_number b.rule).
      let r : a.rule ≡ b.rule = same_rule a.rule b.rule e in
      same_broken a b r
      (total.connected a.path b.path (lb.lower_paths a.path (subst (λ x. breaks x a.path) r la.broken)) (la.lower_paths b.path (subst (λ x. breaks x b.path) (sym r) lb.broken))))
      (λ s. ⊎_elim
      (λ (lt : rule_number a.rule < rule_number b.rule). absurd (lb.lower_rules a.rule a.path lt la.broken))
      (λ (lt : rule_number b.rule < rule_number a.rule). absurd (la.lower_rules b.rule b.path lt lb.broken))
      s)
      (cases_order (rule_number a.rule) (rule_number b.rule))

  one_told : (w v : Result Unit Broken) → Told breaks w → Told breaks v → w ≡ v
  one_told (Ok x) (Ok y) tw tv = refl
  one_told (Ok x) (Err b) tw tv = absurd (tw b.rule b.path tv.broken)
  one_told (Err a) (Ok y) tw tv = absurd (tv a.rule a.path tw.broken)
  one_told (Err a) (Err b) tw tv = ap (λ (x : Broken). Err x) (one_lowest a b tw tv)

  pub only : (v : Result Unit Broken) → Told breaks v → Only breaks v
  only v t = record { told = t; alone = λ w tw. one_told w v tw t }
