use Rattle.std.proofs.Common.{◌≡◌, sym, ⊎_elim, arith}
use Rattle.std.proofs.lemmas.Bool.{cases_eq, false≢true}
use Rattle.schema.specs.declared.nodes.Kind.TheVariants.{List as list_kind, Leaf as leaf_kind}
use Rattle.schema.proofs.check.Placed.lawful.Goals as goal

pub returns-in-Err : goal.returns-in-Err
returns-in-Err c =
    let kind = c.args.self.now.row.kind in
    let no_kind = c.in-Err.ensures.0 in (
      λ e. absurd (false≢true e),
      λ lawful. absurd (⊎_elim
          (λ (one : kind ≡ 1). no_kind list_kind (sym one))
          (λ (other : kind ≡ 1 → ⊥). no_kind leaf_kind (omega (arith, lawful.kind_least, lawful.kind_most)))
          (cases_eq kind 1)),
    )
