-- The required values that are held.
use Rattle.std.specs.Prelude.{◌≡◌, List, Ok, Err, Result}
use Rattle.table.specs.Slots.{items}
use Rattle.validate.specs.declared.bound.Bound.{Bound}
use Rattle.validate.specs.declared.required.Required.{Required}
use Rattle.validate.specs.declared.required.RequiredFault.{RequiredFault}
use Rattle.validate.specs.Bounds.{Listed}

-- the records in use
abbrev pub bounds : Required → List Bound
bounds r = items r.records

-- Records that can be taken are held as they are, and others are refused.
abbrev pub Made : List Bound → Result Required RequiredFault → Type 0
Made bs (Ok r) = Listed bs × (bounds r ≡ bs)
Made bs (Err f) = Listed bs → ⊥
