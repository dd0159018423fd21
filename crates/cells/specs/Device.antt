-- What a device in cells of bytes does, byte for byte. Assumes nothing.
use Rattle.std.specs.Prelude.{◌≡◌, ℕ, Bool, List, vec_items, Result}
use Rattle.device.specs.Reach.{UnlessRefused, read_answer}
use Rattle.device.specs.declared.Block.{Block}
use Rattle.device.specs.declared.DeviceFault.{DeviceFault}
use Rattle.supply.specs.Budget.{is_on, cuts_of, Raised}
use Rattle.supply.specs.Cells.{blocks_by}
use Rattle.cells.specs.Layout.{Layout, bytes_by}
use Rattle.supply.specs.Writing.{BlockWrite}
use Rattle.cells.specs.declared.Cells.{Cells}

module _ {C : Type 0} where
  abbrev pub cells_on : Cells C → Bool
  cells_on d = is_on d.supply

  abbrev pub cells_cuts : Cells C → List ℕ
  cells_cuts d = cuts_of d.supply

  -- a power-up leaves the bytes
  pub record CellsRaises (d e : Cells C) : Type 0 where
    pub bytes : e.bytes ≡ d.bytes
    pub supply : Raised d.supply e.supply

  -- the blocks of a device are those of its bytes
  abbrev pub cells_blocks : Layout → Cells C → List Block
  cells_blocks l d = blocks_by l.size l.content (vec_items d.bytes)

  -- a read leaves the device as it is
  pub record CellsReads (l : Layout) (d : Cells C) (at : ℕ) (r : Result Block DeviceFault) (e : Cells C) : Type 0 where
    pub same : e ≡ d
    pub answer : r ≡ read_answer (cells_blocks l d) (cells_on d) at

  -- a write of a payload that a cell takes, byte write by byte write
  pub record Stepwise (l : Layout) (d : Cells C) (at : ℕ) (payload : List ℕ) (r : Result Unit DeviceFault) (e : Cells C) : Type 0 where
    pub takes : l.takes payload
    pub exactly : BlockWrite l.steps (λ k. bytes_by l k (vec_items d.bytes) at payload) at d.supply r (vec_items e.bytes) e.supply

  -- with power on and the block there a write is these byte writes; else it is refused
  abbrev pub CellsWrites : Layout → Cells C → ℕ → List ℕ → Result Unit DeviceFault → Cells C → Type 0
  CellsWrites l d at payload r e = UnlessRefused (cells_blocks l d) (cells_on d) at (Stepwise l d at payload r e) r d e
