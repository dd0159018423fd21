-- What every value of the types keeps.
use Rattle.std.specs.Prelude.{◌-◌, Bool, true, false, List, Some, None, Option, slice_index_or}
use Rattle.session.specs.Numbers.{number_of}
use Rattle.session.specs.declared.session.Session.{Session}

-- nobody holds a lock, or an open session does
abbrev pub holder_open : List Bool → Option Session → Bool
holder_open open' None = true
holder_open open' (Some s) = slice_index_or open' (number_of s - 1) false
