use Rattle.std.proofs.Common.{◌≡◌, ◌≤◌, length, is_some, sym, ap, ◌∙◌, subst}
use Rattle.schema.specs.Nodes.{nodes}
use Rattle.config.specs.Configs.{used, with_entry}
use Rattle.config.proofs.Places.{used_few}
use Rattle.edit.specs.Does.{cleared, entry_of, put_in, present}
use Rattle.edit.proofs.Changed.{changed_else, changed_puts, performed, room}
use Rattle.edit.proofs.Judged.{has_room, judged_passes}
use Rattle.edit.proofs.one.apply.Goals as goal

pub put_in-requires : goal.put_in-requires
put_in-requires c =
    let schema = c.args.schema.now in
    let config = c.args.config.now in
    let i = c.args.item in
    let x = c.in_ok-operation in
    let h = sym c.if-puts.ensures in
    let p = judged_passes (nodes schema) (used config) i x.operation x.node (sym x.ensures) in
    let few : length (used config) ≤ 48 = used_few config in
    subst (λ l. length (with_entry l (entry_of i)) ≤ 48) (sym c.retain.ensures.entries_are)
    (room (nodes schema) schema.nested (used config) x.operation x.node i config.rises h (has_room (nodes schema) (used config) i x.operation x.node p h) few)

pub returns-then-puts : goal.returns-then-puts
returns-then-puts c =
    let schema = c.args.schema.now in
    let config = c.args.config.now in
    let i = c.args.item in
    let x = c.in_ok-operation in
    let here : c.is_some-here.result ≡ present (used config) i.path = c.is_some-here.ensures ∙ ap is_some c.get.ensures in
    performed (nodes schema) schema.nested (used config) x.operation x.node i _ (sym x.ensures)
    (c.put_in.ensures
    ∙ ap (λ l. put_in l x.node i c.is_some-here.result) c.retain.ensures.entries_are
    ∙ ap (λ b. put_in (cleared (nodes schema) (used config) x.operation i.path) x.node i b) here
    ∙ changed_puts (nodes schema) (used config) x.operation x.node i (sym c.if-puts.ensures))

pub returns-else-puts : goal.returns-else-puts
returns-else-puts c =
    let schema = c.args.schema.now in
    let config = c.args.config.now in
    let x = c.in_ok-operation in
    performed (nodes schema) schema.nested (used config) x.operation x.node c.args.item _ (sym x.ensures)
    (c.retain.ensures.entries_are ∙ changed_else (nodes schema) (used config) x.operation x.node c.args.item (sym c.if-puts.ensures))
