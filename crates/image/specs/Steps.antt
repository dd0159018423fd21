-- What an image does, byte for byte. Assumes nothing.
use Rattle.std.specs.Prelude.{ℕ, Bool, List, Result}
use Rattle.device.specs.declared.Block.{Block}
use Rattle.device.specs.declared.DeviceFault.{DeviceFault}
use Rattle.cells.specs.Device.{cells_blocks, cells_on, cells_cuts, CellsRaises, CellsReads, Stepwise, CellsWrites}
use Rattle.cells.specs.declared.Cells.{Cells}
use Rattle.image.specs.Cell.{image_layout}
use Rattle.image.specs.declared.Framed.{Framed}

-- the blocks of an image are those of its bytes
abbrev pub image_blocks : Cells Framed → List Block
image_blocks = cells_blocks image_layout

abbrev pub image_on : Cells Framed → Bool
image_on = cells_on

abbrev pub image_cuts : Cells Framed → List ℕ
image_cuts = cells_cuts

-- a power-up leaves the bytes
abbrev pub ImageRaises : Cells Framed → Cells Framed → Type 0
ImageRaises = CellsRaises

-- a read leaves the image as it is
abbrev pub ImageReads : Cells Framed → ℕ → Result Block DeviceFault → Cells Framed → Type 0
ImageReads = CellsReads image_layout

-- a write of 34 byte writes in byte order: every other byte is as it was
abbrev pub WritesInOrder : Cells Framed → ℕ → List ℕ → Result Unit DeviceFault → Cells Framed → Type 0
WritesInOrder = Stepwise image_layout

-- with power on and the block there a write is these byte writes; else it is refused
abbrev pub ImageWrites : Cells Framed → ℕ → List ℕ → Result Unit DeviceFault → Cells Framed → Type 0
ImageWrites = CellsWrites image_layout
