use Rattle.std.proofs.Common.{◌≡◌, Err, refl, rules}
use Rattle.schema.specs.Nodes.{nodes}
use Rattle.store.proofs.Recovery.{large, unmended, unread_homes, read_homes}
use Rattle.store.proofs.calls.recover.Goals as goal

pub returns-in_err-mend : goal.returns-in_err-mend
returns-in_err-mend g c =
    let bs = g.D.Device.blocks c.args.device.now in
    let same = (g.met.D.Device.raised _ _ c.power_up.ensures).0 in
    let lost : c.from_residual-in_err-mend.result ≡ Err c.in_err-mend.field-0.0 = search rules in
    let w = unmended g.D.Device.blocks g.D.Device.powered g.D.Device.reads g.D.Device.writes g.met.D.Device.reading g.met.D.Device.writing (nodes c.args.schema.now) bs c.power_up.new.self same c.in_err-mend.field-0.0 c.in_err-mend.ensures lost in
    large _ _ _ _ _ c.in_ok-has_room.ensures (record { raised = c.power_up.new.self; up = c.power_up.ensures; ended = w.0; carried = w.1; answer = w.2 })

pub returns-in_err-read_run : goal.returns-in_err-read_run
returns-in_err-read_run g c =
    let bs = g.D.Device.blocks c.args.device.now in
    let same = (g.met.D.Device.raised _ _ c.power_up.ensures).0 in
    let lost : c.from_residual-in_err-read_run.result ≡ Err c.in_err-read_run.field-0.0 = search rules in
    let w = unread_homes g.D.Device.blocks g.D.Device.powered g.D.Device.reads g.D.Device.writes g.met.D.Device.reading g.met.D.Device.writing (nodes c.args.schema.now) bs c.power_up.new.self same c.in_ok-mend.ensures c.in_err-read_run.field-0.0 refl c.in_err-read_run.ensures lost in
    large _ _ _ _ _ c.in_ok-has_room.ensures (record { raised = c.power_up.new.self; up = c.power_up.ensures; ended = w.0; carried = w.1; answer = w.2 })

pub returns : goal.returns
returns g c =
    let bs = g.D.Device.blocks c.args.device.now in
    let same = (g.met.D.Device.raised _ _ c.power_up.ensures).0 in
    let w = read_homes g.D.Device.blocks g.D.Device.powered g.D.Device.reads g.D.Device.writes g.met.D.Device.reading g.met.D.Device.writing (nodes c.args.schema.now) bs c.power_up.new.self same c.in_ok-mend.ensures c.accept.result refl c.in_ok-read_run.ensures c.accept.ensures in
    rw c.ok_or.ensures.value (large _ _ _ _ _ c.in_ok-has_room.ensures (record { raised = c.power_up.new.self; up = c.power_up.ensures; ended = w.0; carried = w.1; answer = w.2 }))
