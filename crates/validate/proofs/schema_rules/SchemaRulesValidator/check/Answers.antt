use Rattle.std.proofs.Common.{◌≡◌, Ok, sym, ap, ◌∙◌, rules, tests}
use Rattle.schema.specs.Nodes.{nodes}
use Rattle.config.specs.Configs.{used}
use Rattle.validate.specs.declared.broken.Rule.TheVariants.{MandatoryMissing, ReferenceDangling, TooManyEntries}
use Rattle.validate.specs.Rules.{first_no}
use Rattle.validate.specs.Schemas.{missing, dangling, crowded, rule_verdict}
use Rattle.validate.proofs.schema_rules.SchemaRulesValidator.check.Goals as goal

pub returns : goal.returns
returns c =
    let ns = nodes c.args.self.now.schema in
    let es = used c.args.config.now in
    let one : rule_verdict ns es MandatoryMissing ≡ Ok tt = sym (c.check_rule.ensures (missing ns es) (λ p r k. search (rules, tests))) ∙ c.in_ok-check_rule.was in
    let two : rule_verdict ns es ReferenceDangling ≡ Ok tt = sym (c.check_rule-2.ensures (dangling ns es) (λ p r k. search (rules, tests))) ∙ c.in_ok-check_rule-2.was in
    let rest = rule_verdict ns es TooManyEntries in
    c.check_rule-3.ensures (crowded ns es) (λ p r k. search (rules, tests))
    ∙ sym (ap (λ v. first_no v (first_no (rule_verdict ns es ReferenceDangling) rest)) one ∙ ap (λ v. first_no v rest) two)
