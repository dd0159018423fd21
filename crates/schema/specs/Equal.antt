-- When two paths are equal, and which comes first.
use Rattle.std.specs.Prelude.{Bool, nat_eq, nat_lt, ◌==◌, ◌&&◌, ◌||◌}
use Rattle.std.specs.declared.cmp.Ordering.{Ordering}
use Rattle.std.specs.Ordering.{nat_cmp, on, eq_of_both, then_cmp}
use Rattle.schema.specs.declared.path.Path.{Path}

-- the same node and the same keys
abbrev pub same_path : Path → Path → Bool
same_path = eq_of_both (on (λ v. v.node) nat_eq) (eq_of_both (on (λ v. v.k1) nat_eq) (on (λ v. v.k2) nat_eq))

-- paths compare by node, then by k1, then by k2
abbrev pub path_order : Path → Path → Ordering
path_order = then_cmp (on (λ v. v.node) nat_cmp) (then_cmp (on (λ v. v.k1) nat_cmp) (on (λ v. v.k2) nat_cmp))

-- the first one comes before the second
abbrev pub path_before : Path → Path → Bool
path_before a b = nat_lt a.node b.node || (a.node == b.node && (nat_lt a.k1 b.k1 || (a.k1 == b.k1 && nat_lt a.k2 b.k2)))
