use Rattle.std.proofs.Common.{rules}
use Rattle.std.proofs.lemmas.Iterator.{cases_from_all, YieldsList-from_slice}
use Rattle.encoding.proofs.Lists.{IsRecord, IsNoRecord, forms_known}
use Rattle.encoding.proofs.counted.all_known.Goals as goal

pub returns : goal.returns
returns g c =
    let form = g.T.Coded.form in
    let forms = c.args.forms.now in
    forms_known form forms c.all.result
    (cases_from_all _ _ _ (IsRecord form) (IsNoRecord form) c.all.ensures.ran (YieldsList-from_slice forms cc) (λ x q k. search rules) (λ x q k. search rules))
