use Rattle.std.proofs.Common.{sym, ap, ◌∙◌, rules, tests}
use Rattle.std.proofs.lemmas.List.Sorted.{answers_always}
use Rattle.validate.proofs.Records.{step, if_ranged, last_told, lawful_then, lawful_else}
use Rattle.validate.proofs.bound.lawful.Goals as goal

pub returns-then-is_sorted_by : goal.returns-then-is_sorted_by
returns-then-is_sorted_by c =
    let bs = c.args.records.now in
    last_told c.last.result _ (search (rules, c.is_none_or.ensures))
    ∙ ap if_ranged c.last.ensures.value
    ∙ lawful_then bs _ c.if-is_sorted_by.true (c.is_sorted_by.ensures.cases step (answers_always _ _ _ (λ f a r q k. search (rules, tests))))

pub returns-else-is_sorted_by : goal.returns-else-is_sorted_by
returns-else-is_sorted_by c =
    let bs = c.args.records.now in
    c.if-is_sorted_by.false ∙ sym (lawful_else bs _ c.if-is_sorted_by.false (c.is_sorted_by.ensures.cases step (answers_always _ _ _ (λ f a r q k. search (rules, tests)))))
