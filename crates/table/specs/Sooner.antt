-- The order of a dictionary is total.
use Rattle.std.specs.Prelude.{◌≡◌, ℕ, ◌+◌, ◌<◌, ◌≤◌, true, false, ◌&&◌, ◌||◌, List, [], ◌∷◌, length, drop, ◌==◌, ◌≢◌, nat_lt, slice_index, slice_index_or, refl}
use Rattle.std.proofs.Common.{arith}
use Rattle.std.proofs.lemmas.List.{drop_more, drop_all}
use Rattle.std.proofs.lemmas.Bool.{both_ways}
use Rattle.std.proofs.lemmas.Bool.Decides.{nat_tests}
use Rattle.table.specs.Dictionary.{sooner}

pub sooner_irreflexive : (xs : List ℕ) → sooner xs xs ≡ false
sooner_irreflexive [] = refl
sooner_irreflexive (x ∷ xs) = let ih = sooner_irreflexive xs in grind (arith, nat_tests)

pub sooner_transitive : (xs ys zs : List ℕ) → sooner xs ys ≡ true → sooner ys zs ≡ true → sooner xs zs ≡ true
sooner_transitive [] [] zs h k = k
sooner_transitive [] (y ∷ ys) [] h k = k
sooner_transitive [] (y ∷ ys) (z ∷ zs) h k = refl
sooner_transitive (x ∷ xs) [] zs h k = absurd (both_ways false refl h)
sooner_transitive (x ∷ xs) (y ∷ ys) [] h k = k
sooner_transitive (x ∷ xs) (y ∷ ys) (z ∷ zs) h k = let ih = sooner_transitive xs ys zs in grind (arith, nat_tests)

pub sooner_connected : (xs ys : List ℕ) → sooner xs ys ≡ false → sooner ys xs ≡ false → xs ≡ ys
sooner_connected [] [] h k = refl
sooner_connected [] (y ∷ ys) h k = absurd (both_ways true h refl)
sooner_connected (x ∷ xs) [] h k = absurd (both_ways true k refl)
sooner_connected (x ∷ xs) (y ∷ ys) h k =
    let e : x ≡ y = grind (arith, nat_tests) in
    let m : sooner xs ys ≡ false = grind (arith, nat_tests) in
    let n : sooner ys xs ≡ false = grind (arith, nat_tests) in
    let t : xs ≡ ys = sooner_connected xs ys m n in
    cc

module _ (xs ys : List ℕ) (i : ℕ) (in-xs : i < length xs) (in_ys : i < length ys) where
  turn : sooner (drop i xs) (drop i ys) ≡ (nat_lt (slice_index xs i) (slice_index ys i) || (slice_index xs i == slice_index ys i && sooner (drop (i + 1) xs) (drop (i + 1) ys)))
  turn = rw (drop_more xs i 0 in-xs, drop_more ys i 0 in_ys)

  -- the names differ here
  pub sooner_here : (slice_index xs i ≢ slice_index ys i) → sooner (drop i xs) (drop i ys) ≡ nat_lt (slice_index xs i) (slice_index ys i)
  sooner_here ne = let t = turn in grind (arith, nat_tests)

  -- and here they do not
  pub sooner_later : slice_index_or xs i 0 ≡ slice_index ys i → sooner (drop i xs) (drop i ys) ≡ sooner (drop (i + 1) xs) (drop (i + 1) ys)
  sooner_later e = let t = turn in grind (arith, nat_tests)

-- both names are at their end
pub sooner_done : (xs ys : List ℕ) (i : ℕ) → length xs ≤ i → length ys ≤ i → sooner (drop i xs) (drop i ys) ≡ false
sooner_done xs ys i h k = rw (drop_all i xs h, drop_all i ys k)
