-- What accesses come to on a list of blocks. Assumes nothing.
use Rattle.std.specs.Prelude.{◌≡◌, ℕ, ◌<◌, Bool, true, false, List, [], ◌∷◌, length, Ok, Err, Result, slice_index_or, slice_set}
use Rattle.device.specs.declared.Block.{Block}
use Rattle.device.specs.declared.Block.TheVariants.{Good, Damaged}
use Rattle.device.specs.declared.DeviceFault.{DeviceFault}
use Rattle.device.specs.declared.DeviceFault.TheVariants.{PowerLost, Refused}
use Rattle.device.specs.Power.{Left}
use Rattle.device.specs.Accesses.{Access, read, write, Carried}

-- the blocks after one access, and once all accesses are done
abbrev pub done : Access → List Block → List Block
done (read at) bs = bs
done (write at bytes) bs = slice_set bs at (Good bytes)

abbrev pub after : List Access → List Block → List Block
after [] bs = bs
after (a ∷ rest) bs = after rest (done a bs)

-- the block that an access is of
abbrev pub block_of : Access → ℕ
block_of (read at) = at
block_of (write at bytes) = at

-- power failed at an access: at a read all blocks are unchanged, at a write that one block is left by the power rule
pub data Struck (bs : List Block) : Access → List Block → Type 0 where
  reading : {at : ℕ} → Struck bs (read at) bs
  writing : {at : ℕ} {bytes : List ℕ} {b : Block} → Left (slice_index_or bs at Damaged) bytes b → Struck bs (write at bytes) (slice_set bs at b)

-- power failed at one of the accesses, in the block that is told, and those before it were done
pub data Torn : List Access → List Block → ℕ → List Block → Type 0 where
  here : {a : Access} {rest : List Access} {bs bs' : List Block} → Struck bs a bs' → Torn (a ∷ rest) bs (block_of a) bs'
  later : {a : Access} {rest : List Access} {bs bs' : List Block} {at : ℕ} → Torn rest (done a bs) at bs' → Torn (a ∷ rest) bs at bs'

-- all were done and power is on, or power failed at one of them and is off
pub data Executed (accesses : List Access) (bs : List Block) : Result Unit DeviceFault → List Block → Bool → Type 0 where
  whole : Executed accesses bs (Ok tt) (after accesses bs) true
  torn : {at : ℕ} {bs' : List Block} → Torn accesses bs at bs' → Executed accesses bs (Err (PowerLost at)) bs' false

-- every access is of one of the first n blocks
abbrev pub Within : ℕ → List Access → Type 0
Within n [] = Unit {0}
Within n (a ∷ rest) = (block_of a < n) × Within n rest

module _ {D : Type 0} (blocks : D → List Block) (powered : D → Bool) (reads : D → ℕ → Result Block DeviceFault → D → Type 0) (writes : D → ℕ → List ℕ → Result Unit DeviceFault → D → Type 0) where
  -- what was made of a device that is on, of blocks that it has, is seen on its blocks
  abbrev pub Views : Type 0
  Views = (d e : D) (accesses : List Access) (r : Result Unit DeviceFault) → powered d ≡ true → Within (length (blocks d)) accesses → Carried reads writes d accesses r e → Executed accesses (blocks d) r (blocks e) (powered e)

module _ {D : Type 0} (powered : D → Bool) (reads : D → ℕ → Result Block DeviceFault → D → Type 0) (writes : D → ℕ → List ℕ → Result Unit DeviceFault → D → Type 0) where
  -- with power off the first access is refused, and the device is equal
  abbrev pub OffRefuses : Type 0
  OffRefuses = (d e : D) (a : Access) (rest : List Access) (r : Result Unit DeviceFault) → powered d ≡ false → Carried reads writes d (a ∷ rest) r e → (r ≡ Err Refused) × (e ≡ d)
