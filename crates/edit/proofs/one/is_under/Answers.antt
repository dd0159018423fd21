use Rattle.std.proofs.Common.{Some, sym, ap, ◌∙◌}
use Rattle.std.specs.Option.{option_eq}
use Rattle.schema.specs.Equal.{same_path}
use Rattle.schema.specs.Nodes.{nodes}
use Rattle.edit.proofs.Under.{under_further}
use Rattle.edit.proofs.one.is_under.Goals as goal

pub returns-else-eq : goal.returns-else-eq
returns-else-eq c =
    c.eq-else-eq.ensures
    ∙ ap (λ o. option_eq same_path o (Some c.args.target)) c.around-else-eq.ensures
    ∙ under_further (nodes c.args.schema.now) c.args.target c.args.path c.in-Some.list c.in-Some.ensures (sym c.eq.ensures ∙ c.if-eq.false)
