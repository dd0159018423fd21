use Rattle.std.proofs.Common.{ap, ◌∙◌, rules, tests}
use Rattle.std.proofs.lemmas.Iterator.{YieldsList-from_slice}
use Rattle.std.proofs.lemmas.Iterator.Search.{any_from_yields_List}
use Rattle.validate.specs.Schemas.{has_key}
use Rattle.validate.proofs.Turns.{keyed, any_keyed}
use Rattle.validate.proofs.schema_rules.has_key.Goals as goal

pub returns : goal.returns
returns c =
    let es = c.entries.result.now in
    let list = c.args.list in
    let key = c.args.key in
    any_from_yields_List (keyed list key) _ _ c.any.result c.any.ensures.ran (YieldsList-from_slice es cc) (λ x b q k. search (rules, tests))
    ∙ any_keyed es list key
    ∙ ap (λ es. has_key es list key) c.entries.ensures
