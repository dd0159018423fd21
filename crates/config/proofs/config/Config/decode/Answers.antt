use Rattle.std.proofs.Common.{◌≡◌, sym, ap, ◌∙◌}
use Rattle.std.proofs.lemmas.Bool.{false≢true}
use Rattle.config.specs.Order.{rising}
use Rattle.config.proofs.Images.{image_same}
use Rattle.config.proofs.config.Config.decode.Goals as goal

pub returns-else-rise : goal.returns-else-rise
returns-else-rise c es few up is =
    let same : es ≡ c.as_slice.result.now = image_same es _ (sym is ∙ c.in_ok-count.ensures.1) ∙ sym c.first-table.ensures ∙ sym c.as_slice.ensures.items in
    false≢true (c.if-rise.ensures ∙ ap rising (sym same) ∙ up)
