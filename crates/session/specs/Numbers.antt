-- The numbers of sessions and of datastores.
use Rattle.std.specs.Prelude.{ℕ, Bool, ◌&&◌, ◌||◌, Some, None, Option, ◌==◌, nat_le}
use Rattle.session.specs.declared.session.Session.{Session}
use Rattle.session.specs.declared.numbers.Datastore.{Datastore}
use Rattle.session.specs.declared.numbers.Datastore.TheVariants.{Running, Candidate}

abbrev pub number_of : Session → ℕ
number_of s = s.number

-- the number of a session, 0 for nobody
abbrev pub who : Option Session → ℕ
who None = 0
who (Some s) = number_of s

-- a session has a number from 1 to 8
abbrev pub is_session : ℕ → Bool
is_session n = nat_le 1 n && nat_le n 8

abbrev pub datastore_number : Datastore → ℕ
datastore_number Running = 1
datastore_number Candidate = 2

abbrev pub is_datastore : ℕ → Bool
is_datastore n = n == 1 || n == 2
