use Rattle.std.proofs.Common.{◌≡◌, [], ◌∷◌, Ok, Err, rules}
use Rattle.config.specs.Configs.{used}
use Rattle.device.specs.Accesses.{write, all, write_on, write_fails}
use Rattle.device.proofs.Carrying.{carried_then, carried_ends}
use Rattle.journal.specs.Layout.{header_of}
use Rattle.store.specs.declared.faults.StoreFault.TheVariants.{Device}
use Rattle.store.proofs.Made.{format_of}
use Rattle.store.proofs.Recovery.{large}
use Rattle.store.proofs.calls.format.Goals as goal

pub returns-in_err-write_run : goal.returns-in_err-write_run
returns-in_err-write_run g c =
    let lost : c.from_residual-in_err-write_run.result ≡ Err (Device c.in_err-write_run.field-0.0) = search rules in
    let room = c.in_ok-has_room.ensures in
    large _ _ _ _ _ room
    (record {
      raised = c.power_up.new.self;
      up = c.power_up.ensures;
      made = record {
        ended = Err c.in_err-write_run.field-0.0;
        carried = format_of (used c.args.config.now) c.pages.result c.pages.ensures (carried_ends (write 0 (header_of []) ∷ []) c.in_err-write_run.ensures);
        answer = lost;
      };
    })

pub returns-in_err-write : goal.returns-in_err-write
returns-in_err-write g c =
    let lost : c.from_residual-in_err-write.result ≡ Err (Device c.in_err-write.field-0.0) = search rules in
    let room = c.in_ok-has_room.ensures in
    large _ _ _ _ _ room
    (record {
      raised = c.power_up.new.self;
      up = c.power_up.ensures;
      made = record {
        ended = Err c.in_err-write.field-0.0;
        carried = format_of (used c.args.config.now) c.pages.result c.pages.ensures (carried_then c.in_ok-write_run.ensures (write_fails c.in_err-write.ensures));
        answer = lost;
      };
    })

pub returns : goal.returns
returns g c =
    let room = c.in_ok-has_room.ensures in
    large _ _ _ _ _ room
    (record {
      raised = c.power_up.new.self;
      up = c.power_up.ensures;
      made = record {
        ended = Ok tt;
        carried = format_of (used c.args.config.now) c.pages.result c.pages.ensures (carried_then c.in_ok-write_run.ensures (write_on c.in_ok-write.ensures all));
        answer = mathlib.Core.Path.refl;
      };
    })
