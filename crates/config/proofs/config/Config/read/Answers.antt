use Rattle.std.proofs.Common.{◌≡◌, Some, sym, ◌∙◌, subst, rules}
use Rattle.std.proofs.lemmas.Bool.{false≢true}
use Rattle.schema.specs.Nodes.{nodes}
use Rattle.config.specs.Configs.{used}
use Rattle.config.specs.Lawful.{Lawful}
use Rattle.config.proofs.Images.{image_same}
use Rattle.config.proofs.config.Config.read.Goals as goal

pub returns-else-is_lawful : goal.returns-else-is_lawful
returns-else-is_lawful c es lawful is =
    let config = c.in_ok-config.config in
    let was : c.decode.result ≡ Some config = search rules in
    false≢true (c.if-is_lawful.ensures.1 (subst (λ l. Lawful (nodes c.args.schema.now) l) (image_same es (used config) (sym is ∙ rw was at c.decode.ensures)) lawful))
