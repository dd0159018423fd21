-- A refusal as text: its eight numbers, one space between them.
use Rattle.std.specs.Prelude.{ℕ, List, [], ◌∷◌, ◌++◌, decimal}
use Rattle.fault.specs.declared.Report.{Report}

-- numbers in decimal, one space between them
abbrev pub spaced : List ℕ → List ℕ
spaced [] = []
spaced (n ∷ []) = decimal n
spaced (n ∷ (m ∷ rest)) = decimal n ++ (32 ∷ spaced (m ∷ rest))

abbrev pub fields : Report → List ℕ
fields r = r.number ∷ r.layer ∷ r.cause ∷ r.item ∷ r.kept ∷ r.node ∷ r.k1 ∷ r.k2 ∷ []
