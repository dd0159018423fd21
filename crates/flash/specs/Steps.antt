-- What a flash does, byte for byte. Assumes nothing.
use Rattle.std.specs.Prelude.{ℕ, Bool, List, Result}
use Rattle.device.specs.declared.Block.{Block}
use Rattle.device.specs.declared.DeviceFault.{DeviceFault}
use Rattle.cells.specs.Device.{cells_blocks, cells_on, cells_cuts, CellsRaises, CellsReads, Stepwise, CellsWrites}
use Rattle.cells.specs.declared.Cells.{Cells}
use Rattle.flash.specs.Cell.{flash_layout}
use Rattle.flash.specs.declared.Marked.{Marked}

-- the blocks of a flash are those of its bytes
abbrev pub flash_blocks : Cells Marked → List Block
flash_blocks = cells_blocks flash_layout

abbrev pub flash_on : Cells Marked → Bool
flash_on = cells_on

abbrev pub flash_cuts : Cells Marked → List ℕ
flash_cuts = cells_cuts

-- a power-up leaves the bytes
abbrev pub FlashRaises : Cells Marked → Cells Marked → Type 0
FlashRaises = CellsRaises

-- a read leaves the flash as it is
abbrev pub FlashReads : Cells Marked → ℕ → Result Block DeviceFault → Cells Marked → Type 0
FlashReads = CellsReads flash_layout

-- a write of 66 byte writes, of a payload of bytes: every byte outside the block is as it was
abbrev pub WritesBySteps : Cells Marked → ℕ → List ℕ → Result Unit DeviceFault → Cells Marked → Type 0
WritesBySteps = Stepwise flash_layout

-- with power on and the block there a write is these byte writes; else it is refused
abbrev pub FlashWrites : Cells Marked → ℕ → List ℕ → Result Unit DeviceFault → Cells Marked → Type 0
FlashWrites = CellsWrites flash_layout
