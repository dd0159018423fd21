-- The lowest path that passes a test, among the paths of nodes 1 to 16 without keys or with the keys of an entry.
use Rattle.std.specs.Prelude.{◌≡◌, ℕ, zero, suc, ◌+◌, Bool, cond, List, [], ◌∷◌, Some, None, Option}
use Rattle.std.specs.Option.{option_or}
use Rattle.schema.specs.declared.path.Path.{Path}
use Rattle.config.specs.declared.entry.Entry.{Entry}
use Rattle.config.specs.Order.{path_sooner}

-- whatever is answered at a path is what the test says of it
abbrev pub Computes : (Path → Bool → Type 0) → (Path → Bool) → Type 0
Computes answers test = (p : Path) (r : Bool) → answers p r → r ≡ test p

-- the lower of the lowest path so far, if there is one, and this one
abbrev pub least : Option Path → Path → Path
least None p = p
least (Some so_far) p = cond (path_sooner p so_far) p so_far

abbrev pub lower : (Path → Bool) → Option Path → Path → Option Path
lower test so_far p = cond (test p) (Some (least so_far p)) so_far

abbrev pub without_keys : ℕ → Path
without_keys n = record { node = n; k1 = 0; k2 = 0 }

abbrev pub with_keys : ℕ → Entry → Path
with_keys n e = record { node = n; k1 = e.path.k1; k2 = e.path.k2 }

unfoldable pub lowest_from : (Path → Bool) → ℕ → Option Path → List Entry → Option Path
lowest_from test n so_far [] = so_far
lowest_from test n so_far (e ∷ es) = lowest_from test n (lower test so_far (with_keys n e)) es

-- the lowest path of one node
abbrev pub lowest_of : (Path → Bool) → List Entry → ℕ → Option Path
lowest_of test es n = lowest_from test n (lower test None (without_keys n)) es

-- what the first of so many numbers, from n on, gives that gives something
unfoldable pub first_at : {X : Type 0} → (ℕ → Option X) → ℕ → ℕ → Option X
first_at f n zero = None
first_at f n (suc many) = option_or (f n) (first_at f (n + 1) many)

abbrev pub lowest : (Path → Bool) → List Entry → Option Path
lowest test es = first_at (lowest_of test es) 1 16
