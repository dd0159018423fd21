-- The derived comparisons of paths, in the words of specs/Equal.
use Rattle.std.proofs.Common.{◌≡◌, Bool, rules}
use Rattle.std.specs.Bool.{Decides}
use Rattle.std.specs.Ordering.{as_partial_cmp, partial_lt}
use Rattle.schema.specs.declared.path.Path.{Path}
use Rattle.schema.specs.Equal.{path_before, path_order, same_path}

-- `a == b` holds exactly if a is b
pub equal_decides : (a b : Path) (r : Bool) → r ≡ same_path a b → Decides r (a ≡ b)
equal_decides a b r e = search rules

-- `a < b` holds exactly if a comes before b
pub less_before : (a b : Path) (r : Bool) → r ≡ partial_lt (as_partial_cmp path_order) a b → r ≡ path_before a b
less_before a b r e = search rules
