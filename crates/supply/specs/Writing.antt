-- A block write that is made of byte writes, under a supply of power. Assumes nothing.
use Rattle.std.specs.Prelude.{◌≡◌, ℕ, ◌<◌, Bool, cond, List, ◌++◌, take, drop, is_ok, Ok, Err, Result}
use Rattle.device.specs.declared.Block.{Block}
use Rattle.device.specs.declared.Block.TheVariants.{Good, Damaged}
use Rattle.device.specs.declared.DeviceFault.{DeviceFault}
use Rattle.device.specs.declared.DeviceFault.TheVariants.{PowerLost}
use Rattle.supply.specs.Budget.{left_of, lasts, allowed, Spent, Asked}
use Rattle.supply.specs.declared.Supply.{Supply}

-- n byte writes, after k of which the bytes are `after k`: as many are done as power lasts for, all of them exactly when it is
-- still on
pub record ByteWrites (n : ℕ) (after : ℕ → List ℕ) (s : Supply) (r : Bool) (bytes' : List ℕ) (s' : Supply) : Type 0 where
  pub bytes : bytes' ≡ after (allowed (left_of s) n)
  pub spent : Spent n s r s'

-- n byte writes are asked, after k of which the bytes are `after k`, with power on or off: as many are done as it lasts for
pub record Asks (n : ℕ) (after : ℕ → List ℕ) (s : Supply) (r : Bool) (bytes' : List ℕ) (s' : Supply) : Type 0 where
  pub bytes : bytes' ≡ after (allowed (lasts s) n)
  pub asked : Asked n s r s'

-- the first k of some bytes written over the front of a part, and the rest of it unchanged
abbrev pub written : ℕ → List ℕ → List ℕ → List ℕ
written k bytes part = take k bytes ++ drop k part

-- a block write of n byte writes: done exactly when all of them are, else power was lost at the block
pub record BlockWrite (n : ℕ) (after : ℕ → List ℕ) (at : ℕ) (s : Supply) (r : Result Unit DeviceFault) (bytes' : List ℕ) (s' : Supply) : Type 0 where
  pub writes : ByteWrites n after s (is_ok r) bytes' s'
  pub answer : r ≡ cond (is_ok r) (Ok tt) (Err (PowerLost at))

-- what k byte writes of n make of the block: nothing at first, damage in between, the new bytes at the end
pub record Tears (n : ℕ) (content : ℕ → Block) (old : Block) (payload : List ℕ) : Type 0 where
  pub none : content 0 ≡ old
  pub some : (k : ℕ) → 0 < k → k < n → content k ≡ Damaged
  pub all : content n ≡ Good payload
