use Rattle.std.proofs.Common.{rules}
use Rattle.engine.proofs.Editing.{option_some, option_none}
use Rattle.engine.proofs.engine.Engine.may_edit.Goals as goal

pub returns-in_err-way : goal.returns-in_err-way
returns-in_err-way g c = let none = option_none c.args.option c.in_err-way.ensures.0 in search rules

pub returns-in_err-check_candidate : goal.returns-in_err-check_candidate
returns-in_err-check_candidate g c = let some = option_some c.in_ok-way.way c.args.option c.in_ok-way.ensures in search rules

pub returns : goal.returns
returns g c = let some = option_some c.in_ok-way.way c.args.option c.in_ok-way.ensures in search rules
