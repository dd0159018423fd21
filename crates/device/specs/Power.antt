-- The power rule: what a device may answer, over its blocks and its power before and after. Assumes nothing.
use Rattle.std.specs.Prelude.{ℕ, ◌<◌, ◌≤◌, Bool, true, false, List, length, Ok, Err, Result, slice_index_or, slice_set}
use Rattle.device.specs.declared.Block.{Block}
use Rattle.device.specs.declared.Block.TheVariants.{Good, Damaged}
use Rattle.device.specs.declared.DeviceFault.{DeviceFault}
use Rattle.device.specs.declared.DeviceFault.TheVariants.{PowerLost, Refused}

-- what a cut write may leave in the block: the old content, the new bytes, or damage
pub data Left (old : Block) (bytes : List ℕ) : Block → Type 0 where
  before : Left old bytes old
  written : Left old bytes (Good bytes)
  torn : Left old bytes Damaged

-- a read answers the block, or power is lost; it is refused with power off or past the last block
pub data ReadAnswer (bs : List Block) : Bool → ℕ → Result Block DeviceFault → List Block → Bool → Type 0 where
  answered : {at : ℕ} → at < length bs → ReadAnswer bs true at (Ok (slice_index_or bs at Damaged)) bs true
  lost : {at : ℕ} → at < length bs → ReadAnswer bs true at (Err (PowerLost at)) bs false
  off : {at : ℕ} → ReadAnswer bs false at (Err Refused) bs false
  past : {at : ℕ} → length bs ≤ at → ReadAnswer bs true at (Err Refused) bs true

-- a write is done, or power is lost and the block is left by the rule; it is refused as a read is
pub data WriteAnswer (bs : List Block) : Bool → ℕ → List ℕ → Result Unit DeviceFault → List Block → Bool → Type 0 where
  done : {at : ℕ} {bytes : List ℕ} → at < length bs → WriteAnswer bs true at bytes (Ok tt) (slice_set bs at (Good bytes)) true
  lost : {at : ℕ} {bytes : List ℕ} {b : Block} → at < length bs → Left (slice_index_or bs at Damaged) bytes b → WriteAnswer bs true at bytes (Err (PowerLost at)) (slice_set bs at b) false
  off : {at : ℕ} {bytes : List ℕ} → WriteAnswer bs false at bytes (Err Refused) bs false
  past : {at : ℕ} {bytes : List ℕ} → length bs ≤ at → WriteAnswer bs true at bytes (Err Refused) bs true
