use Rattle.std.proofs.Common.{◌≡◌, ℕ, List, Some, None, Err, sym, refl, ap, ◌∙◌, rules}
use Rattle.std.specs.Option.{option_map}
use Rattle.journal.specs.Layout.{parse}
use Rattle.device.specs.declared.Block.{Block}
use Rattle.device.specs.declared.Block.TheVariants.{Good, Damaged}
use Rattle.store.specs.Targets.{listed}
use Rattle.store.specs.declared.faults.StoreFault.TheVariants.{Device, Corrupt}
use Rattle.store.proofs.Made.{read_block}
use Rattle.store.proofs.Recovery.{unread_header, damaged_header, bad_header, full_header}
use Rattle.store.proofs.calls.mend.Goals as goal

not_good : (b : Block) → ((x : List ℕ) → b ≡ Good x → ⊥) → b ≡ Damaged
not_good (Good x) h = absurd (h x refl)
not_good Damaged h = refl

pub returns-in_err-bytes : goal.returns-in_err-bytes
returns-in_err-bytes g c =
    let lost : c.from_residual.result ≡ Err (Device c.in_err-bytes.field-0.0) = search rules in
    unread_header g.D.Device.blocks g.D.Device.reads g.D.Device.writes _ _ _ c.in_err-bytes.field-0.0 c.in_err-bytes.ensures lost

pub returns-in_default : goal.returns-in_default
returns-in_default g c =
    let s = c.in_ok-bytes.ensures in
    let b = read_block g.met.D.Device.reading _ _ _ _ s in
    damaged_header g.D.Device.blocks g.D.Device.reads g.D.Device.writes _ _ _ c.in_ok-bytes.field-0 (not_good c.in_ok-bytes.field-0 c.in_default.not-Good) s b.0 refl

pub returns-in_err-targets : goal.returns-in_err-targets
returns-in_err-targets g c =
    let s = c.in_ok-bytes.ensures in
    let b = read_block g.met.D.Device.reading _ _ _ _ s in
    let lost : c.from_residual-in_err-targets.result ≡ Err (Corrupt 0) = search rules in
    let none : None ≡ parse c.in-Good.bytes = sym (ap (option_map listed) c.in_err-targets.ensures.ok_part) ∙ c.parse_header.ensures in
    bad_header g.D.Device.blocks g.D.Device.reads g.D.Device.writes _ _ _ c.in_ok-bytes.field-0 c.in-Good.bytes c.in-Good.is s b.0 none lost

pub returns : goal.returns
returns g c =
    let s = c.in_ok-bytes.ensures in
    let b = read_block g.met.D.Device.reading _ _ _ _ s in
    let found : Some (listed c.in_ok-targets.targets) ≡ parse c.in-Good.bytes = sym (ap (option_map listed) c.in_ok-targets.ensures.ok_part) ∙ c.parse_header.ensures in
    full_header g.D.Device.blocks g.D.Device.reads g.D.Device.writes _ _ _ c.in_ok-bytes.field-0 c.in-Good.bytes (listed c.in_ok-targets.targets) _ c.in-Good.is s b.0 found b.1 c.redo.ensures
