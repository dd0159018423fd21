use Rattle.std.proofs.Common.{sym}
use Rattle.amend.proofs.Amends.{made}
use Rattle.amend.proofs.amend.Goals as goal

pub returns : goal.returns
returns c =
    made _ c.args.before c.args.change c.put.new.self c.take_out-taken.result c.take_out-taken.new.self c.encode.new.out c.encode.result c.unwrap_or-length.result
    (sym c.in_ok-check_entry.ensures) c.in_ok-put.ensures c.take_out-taken.ensures c.encode.ensures c.unwrap_or-length.ensures
