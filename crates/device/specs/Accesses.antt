-- Which accesses were made of a device, in which order, up to the first that was not done. Assumes nothing.
use Rattle.std.specs.Prelude.{ℕ, zero, suc, ◌+◌, List, [], ◌∷◌, Ok, Err, Result}
use Rattle.device.specs.declared.Block.{Block}
use Rattle.device.specs.declared.DeviceFault.{DeviceFault}

-- what is asked of a device: a read of a block, or a write of 32 bytes to one
pub data Access : Type 0 where
  read : (at : ℕ) → Access
  write : (at : ℕ) → List ℕ → Access

module _ {D : Type 0} (reads : D → ℕ → Result Block DeviceFault → D → Type 0) (writes : D → ℕ → List ℕ → Result Unit DeviceFault → D → Type 0) where
  -- accesses made one after the other, from one device to another: each is done, or the first that is not ends them with its fault
  pub data Carried : D → List Access → Result Unit DeviceFault → D → Type 0 where
    all : {d : D} → Carried d [] (Ok tt) d
    read_on : {d d' e : D} {at : ℕ} {b : Block} {rest : List Access} {r : Result Unit DeviceFault} → reads d at (Ok b) d' → Carried d' rest r e → Carried d (read at ∷ rest) r e
    write_on : {d d' e : D} {at : ℕ} {bytes : List ℕ} {rest : List Access} {r : Result Unit DeviceFault} → writes d at bytes (Ok tt) d' → Carried d' rest r e → Carried d (write at bytes ∷ rest) r e
    read_fails : {d e : D} {at : ℕ} {rest : List Access} {f : DeviceFault} → reads d at (Err f) e → Carried d (read at ∷ rest) (Err f) e
    write_fails : {d e : D} {at : ℕ} {bytes : List ℕ} {rest : List Access} {f : DeviceFault} → writes d at bytes (Err f) e → Carried d (write at bytes ∷ rest) (Err f) e

-- writes to consecutive blocks
abbrev pub writes_from : ℕ → List (List ℕ) → List Access
writes_from n [] = []
writes_from n (b ∷ bs) = write n b ∷ writes_from (n + 1) bs

-- reads of so many consecutive blocks
abbrev pub reads_from : ℕ → ℕ → List Access
reads_from n zero = []
reads_from n (suc k) = read n ∷ reads_from (n + 1) k
