-- The refusal numbers, and the layer that each belongs to.
use Rattle.std.specs.Prelude.{◌≡◌, ℕ, Bool, true, false, cond, ◌||◌, List, [], ◌∷◌, Some, None, Option, ◌==◌}
use Rattle.fault.specs.declared.Layer.{Layer}
use Rattle.fault.specs.declared.Layer.TheVariants.{Session, Configuration, Store, Device}

-- the number of a layer
abbrev pub layer_number : Layer → ℕ
layer_number Session = 2
layer_number Configuration = 3
layer_number Store = 4
layer_number Device = 5

-- the refusal numbers of a layer
abbrev pub numbers : Layer → List ℕ
numbers Session =
    1 ∷ 2 ∷ 3 ∷ 4 ∷ 5 ∷ 10 ∷ 13 ∷ 20 ∷ 21 ∷ 22 ∷ 23 ∷ 24 ∷ 25 ∷ 26 ∷ 27 ∷ 28 ∷ 30 ∷ 31 ∷ []
numbers Configuration = 6 ∷ 7 ∷ 8 ∷ 9 ∷ 11 ∷ 12 ∷ 14 ∷ 29 ∷ 32 ∷ 33 ∷ 34 ∷ []
numbers Store = 35 ∷ 37 ∷ []
numbers Device = 36 ∷ []

-- a list has a number
abbrev pub has : ℕ → List ℕ → Bool
has n [] = false
has n (x ∷ xs) = n == x || has n xs

abbrev pub Belongs : ℕ → Layer → Type 0
Belongs n l = has n (numbers l) ≡ true

-- The layer of a number, if it is a refusal number: it belongs to that one and to no other.
abbrev pub OneLayer : ℕ → Option Layer → Type 0
OneLayer n (Some l) = Belongs n l × ((m : Layer) → Belongs n m → m ≡ l)
OneLayer n None = (m : Layer) → Belongs n m → ⊥

-- the number of the layer that a number belongs to, 0 if it is no refusal number
abbrev pub layer_at : ℕ → ℕ
layer_at n =
    cond (has n (numbers Session)) 2 (cond (has n (numbers Configuration)) 3 (cond (has n (numbers Store)) 4 (cond (has n (numbers Device)) 5 0)))
