-- Which accesses a device refuses, by its power and its blocks. Assumes nothing.
use Rattle.std.specs.Prelude.{◌≡◌, ℕ, Bool, true, false, cond, ◌&&◌, List, length, Ok, Err, MatchBool, Result, nat_lt, slice_index_or}
use Rattle.device.specs.declared.Block.{Block}
use Rattle.device.specs.declared.Block.TheVariants.{Damaged}
use Rattle.device.specs.declared.DeviceFault.{DeviceFault}
use Rattle.device.specs.declared.DeviceFault.TheVariants.{Refused}

-- power is on and the block is there
abbrev pub in_reach : List Block → Bool → ℕ → Bool
in_reach bs on at = on && nat_lt at (length bs)

-- an access in reach is let through; one out of reach is refused
abbrev pub Admits : List Block → Bool → ℕ → Result Unit DeviceFault → Type 0
Admits bs on at (Ok u) = in_reach bs on at ≡ true
Admits bs on at (Err f) = (in_reach bs on at ≡ false) × (f ≡ Refused)

-- an access in reach is `made`; one out of reach is refused, and the device is equal
abbrev pub UnlessRefused : {D T : Type 0} → List Block → Bool → ℕ → Type 0 → Result T DeviceFault → D → D → Type 0
UnlessRefused bs on at made r d e = MatchBool (in_reach bs on at) made ((r ≡ Err Refused) × (e ≡ d))

-- a read that never loses power: the block, or a refusal
abbrev pub read_answer : List Block → Bool → ℕ → Result Block DeviceFault
read_answer bs on at = cond (in_reach bs on at) (Ok (slice_index_or bs at Damaged)) (Err Refused)
