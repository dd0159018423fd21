-- Byte writes one after the other under a supply of power. Assumes nothing.
use Rattle.std.specs.Prelude.{ℕ, Bool, List, length, take}
use Rattle.supply.specs.Writing.{Asks, ByteWrites}
use Rattle.supply.specs.declared.Supply.{Supply}
use Rattle.flash.specs.Cell.{ByteWrite, all_done}

-- of power that is on: as many of the byte writes are done as it lasts for; all are done exactly when it is still on
abbrev pub Ran : List ByteWrite → List ℕ → Supply → Bool → List ℕ → Supply → Type 0
Ran ws part s r part' s' = ByteWrites (length ws) (λ k. all_done (take k ws) part) s r part' s'

-- with power on or off: as many of the byte writes are done as it lasts for, and none where it is off
abbrev pub RanAsked : List ByteWrite → List ℕ → Supply → Bool → List ℕ → Supply → Type 0
RanAsked ws part s r part' s' = Asks (length ws) (λ k. all_done (take k ws) part) s r part' s'
