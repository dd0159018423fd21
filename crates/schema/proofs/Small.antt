-- The nodes that a lawful row names are few.
use Rattle.std.proofs.Common.{◌≡◌, ℕ, ◌+◌, ◌<◌, ◌≤◌, List, length, get_or, ap, ⊎_elim, arith}
use Rattle.std.proofs.lemmas.Bool.{cases_lt, cases_eq}
use Rattle.schema.specs.declared.nodes.NodeRow.{NodeRow}
use Rattle.schema.specs.Rows.{number_in, kind_at}
use Rattle.schema.specs.Rules.{Lawful, NodeLawful, ParentLawful}
use Rattle.schema.proofs.Numbered.{at_past}

-- a list that is named is one of the rows
pub named_within : (rows : List NodeRow) (n : ℕ) → kind_at rows n ≡ 1 → n ≤ length rows
named_within rows n h =
    ⊎_elim
    (λ (past : length rows < n). cc (ap (number_in (λ r. r.kind)) (at_past rows n past), h))
    (λ within. within)
    (cases_lt (length rows) n)

parent_small : (rows : List NodeRow) (n : ℕ) (r : NodeRow) → n ≤ 16 → ParentLawful rows n r → r.parent < 256
parent_small rows n r few p = ⊎_elim (λ (above : 0 < r.parent). omega (arith, p.lower above)) (λ le. omega arith) (cases_lt 0 r.parent)

pub small : (rows : List NodeRow) → Lawful rows → (i : ℕ) (d : NodeRow) → i < length rows → ((get_or rows i d).parent < 256) × ((get_or rows i d).reference < 256)
small rows lawful i d within =
    let r = get_or rows i d in
    let node : NodeLawful rows (i + 1) r = lawful.each i d within in
    let many = lawful.counted.not_many in
    let few : i + 1 ≤ 16 = omega arith in
    ⊎_elim
    (λ (is_list : r.kind ≡ 1). let l = node.list is_list in (parent_small rows (i + 1) r few l.place, omega (arith, l.no_reference)))
    (λ (other : r.kind ≡ 1 → ⊥).
    let is_leaf : r.kind ≡ 2 = omega (arith, node.kind_least, node.kind_most) in
    let l = node.leaf is_leaf in (
      parent_small rows (i + 1) r few l.place,
      ⊎_elim
          (λ (above : 0 < r.reference). omega (arith, named_within rows r.reference (l.refers.to_list above)))
          (λ le. omega arith)
          (cases_lt 0 r.reference),
    ))
    (cases_eq r.kind 1)
