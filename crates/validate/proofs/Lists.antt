-- Elements of a list that begins with one, and the length of a list in fixed memory.
use Rattle.std.proofs.Common.{◌≡◌, ℕ, zero, suc, ◌<◌, ◌≤◌, ◌⊎◌, List, [], ◌∷◌, length, get_or, refl, inl, inr, not-suc-le-zero, arith}
use Rattle.std.specs.List.{ContainsAt as Has}
use Rattle.std.proofs.lemmas.List.{length-take-le}
use Rattle.table.specs.declared.slots.Slots.{Slots}
use Rattle.table.specs.Slots.{items}

module _ {X : Type 0} where
  pub has_none : (x : X) → Has [] x → ⊥
  has_none x h = not-suc-le-zero h.1

  pub has_first : (x : X) (xs : List X) → Has (x ∷ xs) x
  has_first x xs = (0, omega arith, λ d. refl)

  pub has_later : (y x : X) (xs : List X) → Has xs x → Has (y ∷ xs) x
  has_later y x xs h = let l = h.1 in (suc h.0, omega arith, h.2)

  pub has_cases : (y x : X) (xs : List X) → Has (y ∷ xs) x → (y ≡ x) ⊎ Has xs x
  has_cases y x xs h = go h.0 h.1 h.2
    where
      go : (k : ℕ) → k < length (y ∷ xs) → ((d : X) → get_or (y ∷ xs) k d ≡ x) → (y ≡ x) ⊎ Has xs x
      go zero l e = inl (e y)
      go (suc k) l e = inr (k, omega arith, e)

-- a list in fixed memory has at most as many items as there are places
pub at_most : {T : Type 0} {N : ℕ} (s : Slots T N) → length (items s) ≤ N
at_most s = let size = length-take-le s.count s.slots (omega arith) in omega arith
