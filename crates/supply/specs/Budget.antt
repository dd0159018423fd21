-- How many byte writes power lasts: a number, or without end. Assumes nothing.
use Rattle.std.specs.Prelude.{◌≡◌, ℕ, ◌-◌, min, Bool, true, false, ◌&&◌, List, [], ◌∷◌, drop, Some, None, Option, ◌==◌}
use Rattle.std.specs.Vec.Iter.{into_iter_items}
use Rattle.supply.specs.declared.Power.{Power}
use Rattle.supply.specs.declared.Power.TheVariants.{Off, On}
use Rattle.supply.specs.declared.Supply.{Supply}

abbrev pub on_by : Power → Bool
on_by Off = false
on_by (On left) = true

abbrev pub left_by : Power → Option ℕ
left_by Off = None
left_by (On left) = left

abbrev pub is_on : Supply → Bool
is_on s = on_by s.power

-- for how many byte writes power lasts, where it is on; without a number it stays
abbrev pub left_of : Supply → Option ℕ
left_of s = left_by s.power

-- the cut counts that no power-up has taken yet
abbrev pub cuts_of : Supply → List ℕ
cuts_of s = into_iter_items s.cuts

-- the first of some cut counts, if there is one
abbrev pub first : List ℕ → Option ℕ
first [] = None
first (p ∷ ps) = Some p

-- how many of n byte writes are done before power fails
abbrev pub allowed : Option ℕ → ℕ → ℕ
allowed None n = n
allowed (Some m) n = min m n

-- for how many byte writes power lasts, on or off: for none where it is off
abbrev pub lasts_by : Power → Option ℕ
lasts_by Off = Some 0
lasts_by (On left) = left

abbrev pub lasts : Supply → Option ℕ
lasts s = lasts_by s.power

-- what is left after k byte writes
abbrev pub less : Option ℕ → ℕ → Option ℕ
less None k = None
less (Some m) k = Some (m - k)

-- a power-up: power is on under the next cut count, which is taken
pub record Raised (s s' : Supply) : Type 0 where
  pub on : is_on s' ≡ true
  pub left : left_of s' ≡ first (cuts_of s)
  pub cuts : cuts_of s' ≡ drop 1 (cuts_of s)

-- n byte writes are asked of power that is on: all are done exactly where it lasts for them, and then it is still on and lasts
-- for so many less; else as many are done as it lasts for, and it is off
pub record Spent (n : ℕ) (s : Supply) (r : Bool) (s' : Supply) : Type 0 where
  pub done : r ≡ (allowed (left_of s) n == n)
  pub on : is_on s' ≡ r
  pub left : r ≡ true → left_of s' ≡ less (left_of s) n
  pub cuts : cuts_of s' ≡ cuts_of s

-- n byte writes are asked, with power on or off: all are done exactly where it lasts for them, and power that was on is on
-- afterwards exactly then
pub record Asked (n : ℕ) (s : Supply) (r : Bool) (s' : Supply) : Type 0 where
  pub done : r ≡ (allowed (lasts s) n == n)
  pub on : is_on s' ≡ (is_on s && r)
  pub left : lasts s' ≡ less (lasts s) n
  pub cuts : cuts_of s' ≡ cuts_of s
