-- What has a number, counted from 1.
use Rattle.std.proofs.Common.{◌≡◌, ℕ, zero, suc, ◌-◌, ◌<◌, ◌≤◌, List, [], ◌∷◌, length, get_or, Some, None, Option, sym, refl, ap, ◌∙◌, subst, not-suc-le-zero, arith}
use Rattle.std.specs.List.{HoldsAt}
use Rattle.std.specs.Option.{MatchOption, option_copied}
use denote.Ref.{Bor}
use Rattle.schema.specs.Rows.{at}

module _ {A : Type 0} where
  pub at_zero : (xs : List A) → at xs 0 ≡ None
  unfolding at
  at_zero [] = refl
  at_zero (x ∷ xs) = refl

  pub at_past : (xs : List A) (n : ℕ) → length xs < n → at xs n ≡ None
  unfolding at
  at_past [] n h = refl
  at_past (x ∷ xs) zero h = refl
  at_past (x ∷ xs) (suc zero) h = absurd (omega arith)
  at_past (x ∷ xs) (suc (suc n)) h = at_past xs (suc n) (omega arith)

  pub at_suc : (xs : List A) (i : ℕ) (d : A) → i < length xs → at xs (suc i) ≡ Some (get_or xs i d)
  unfolding at
  at_suc [] i d h = absurd (not-suc-le-zero h)
  at_suc (x ∷ xs) zero d h = refl
  at_suc (x ∷ xs) (suc i) d h = at_suc xs i d (omega arith)

  pub at_place : (xs : List A) (n : ℕ) (d : A) → 0 < n → n ≤ length xs → at xs n ≡ Some (get_or xs (n - 1) d)
  at_place xs n d pos le =
      let e : suc (n - 1) ≡ n = omega arith in
      subst (λ m. at xs m ≡ Some (get_or xs (n - 1) d)) e (at_suc xs (n - 1) d (omega arith))

  -- what is read at one place less
  pub at_read : (xs : List A) (n i : ℕ) (o : Option (Bor A)) → 1 ≤ n → i ≡ n - 1 → MatchOption o (length xs ≤ i) (λ x. (i < length xs) × HoldsAt (λ y. x.now ≡ y) xs i) → option_copied o ≡ at xs n
  at_read xs n i None pos e h = sym (at_past xs n (omega (arith, h)))
  at_read xs n i (Some x) pos e (h, is) = ap Some (is x.now) ∙ sym (at_place xs n x.now pos (omega arith) ∙ ap (λ k. Some (get_or xs k x.now)) (sym e))
