-- The records so far are held.
use Rattle.std.proofs.Common.{◌≡◌, true, take}
use Rattle.table.specs.Slots.{items}
use Rattle.validate.specs.Bounds.{bounds_lawful}
use Rattle.validate.proofs.required.Required.new.Given as goal

abbrev pub invariant-loop-record : goal.invariant-loop-record
invariant-loop-record l = (bounds_lawful l.records ≡ true) × (items l.held ≡ take l.record-index l.records)
