-- Nodes by their numbers, which count from 1.
use Rattle.std.specs.Prelude.{ℕ, zero, suc, List, [], ◌∷◌, Some, None, Option}
use Rattle.schema.specs.declared.nodes.NodeRow.{NodeRow}

-- what has this number, counted from 1
unfoldable pub at : {A : Type 0} → List A → ℕ → Option A
at [] n = None
at (x ∷ xs) zero = None
at (x ∷ xs) (suc zero) = Some x
at (x ∷ xs) (suc (suc n)) = at xs (suc n)

abbrev pub number_in : {A : Type 0} → (A → ℕ) → Option A → ℕ
number_in f None = 0
number_in f (Some x) = f x

-- the kind of the node of this number, 0 if there is none
abbrev pub kind_at : List NodeRow → ℕ → ℕ
kind_at rows n = number_in (λ r. r.kind) (at rows n)

-- the parent of the node of this number, 0 if there is none
abbrev pub parent_at : List NodeRow → ℕ → ℕ
parent_at rows n = number_in (λ r. r.parent) (at rows n)
