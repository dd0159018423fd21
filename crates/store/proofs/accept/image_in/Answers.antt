use Rattle.std.proofs.Common.{[], ◌∷◌, drop, get_or, ap, ◌∙◌, arith, length-drop}
use Rattle.std.proofs.lemmas.List.{append-nil, take_all}
use Rattle.journal.proofs.Pages.{flat}
use Rattle.store.proofs.accept.image_in.Goals as goal

pub returns : goal.returns
returns c =
    let hs = c.args.homes.now in
    ap (λ l. get_or (get_or hs 0 []) 1 0 ∷ l)
    (append-nil c.copy_from_slice.new.self
    ∙ c.copy_from_slice.ensures.after
    ∙ c.as_flattened.ensures.value
    ∙ ap flat (take_all 24 (drop 1 hs) (omega (arith, length-drop 1 hs))))
