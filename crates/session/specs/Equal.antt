-- When two sessions are equal.
use Rattle.std.specs.Prelude.{◌≡◌, Bool, Decides, nat_eq}
use Rattle.std.specs.Ordering.{on}
use Rattle.session.specs.Numbers.{number_of}
use Rattle.session.specs.declared.session.Session.{Session}

-- the same number
abbrev pub same_session : Session → Session → Bool
same_session = on (λ v. v.number) nat_eq

-- a test of two sessions tells whether they have the same number
pub record EqualByNumber (equal : Session → Session → Bool) : Type 0 where
  pub computes : (a b : Session) → equal a b ≡ same_session a b
  pub decides : (a b : Session) → Decides (equal a b) (number_of a ≡ number_of b)
