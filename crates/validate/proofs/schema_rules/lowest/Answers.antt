use Rattle.std.proofs.Common.{refl, rules, tests}
use Rattle.validate.specs.Search.{lowest_of}
use Rattle.validate.proofs.Turns.{first_found}
use Rattle.validate.proofs.schema_rules.lowest.Goals as goal

pub returns : goal.returns
returns g c = λ t h. first_found (lowest_of t c.args.entries.now) _ _ (λ a r q k. search (rules, tests, h)) 1 16 _ refl c.find_map.result c.find_map.ensures.runs
