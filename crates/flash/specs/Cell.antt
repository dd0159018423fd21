-- How blocks stand in flash, and the byte writes that write one. A cell is 33 bytes: 32 payload bytes and a mark. Assumes nothing.
use Rattle.std.specs.Prelude.{◌≡◌, ℕ, zero, suc, ◌+◌, ◌*◌, ◌<◌, ◌≤◌, Bool, cond, ◌⊎◌, List, [], ◌∷◌, ◌++◌, length, take, drop, ◌==◌, bit_and, slice_index, slice_set}
use Rattle.device.specs.declared.Block.{Block}
use Rattle.device.specs.declared.Block.TheVariants.{Good, Damaged}
use Rattle.supply.specs.Cells.{cell_of, blocks_by}
use Rattle.supply.specs.Writing.{Tears}
use Rattle.cells.specs.Layout.{Layout}

-- the 33 bytes of block i
abbrev pub cell : List ℕ → ℕ → List ℕ
cell = cell_of 33

-- good exactly when the mark is 0
abbrev pub good : List ℕ → Bool
good c = slice_index c 32 == 0

abbrev pub content : List ℕ → Block
content c = cond (good c) (Good (take 32 c)) Damaged

-- as many blocks as fit
abbrev pub blocks_of : List ℕ → List Block
blocks_of = blocks_by 33 content

-- one byte write: a byte is erased, or programmed with another
pub data ByteWrite : Type 0 where
  erasing : (at : ℕ) → ByteWrite
  programming : (at : ℕ) → ℕ → ByteWrite

-- erasing sets every bit, programming only clears bits
abbrev pub one_done : ByteWrite → List ℕ → List ℕ
one_done (erasing at) c = slice_set c at 255
one_done (programming at b) c = slice_set c at (bit_and (slice_index c at) b)

abbrev pub all_done : List ByteWrite → List ℕ → List ℕ
all_done [] c = c
all_done (w ∷ ws) c = all_done ws (one_done w c)

-- consecutive bytes erased
abbrev pub erases_from : ℕ → ℕ → List ByteWrite
erases_from at zero = []
erases_from at (suc n) = erasing at ∷ erases_from (at + 1) n

-- consecutive bytes programmed
abbrev pub programs_from : ℕ → List ℕ → List ByteWrite
programs_from at [] = []
programs_from at (b ∷ bs) = programming at b ∷ programs_from (at + 1) bs

-- a write: the mark is erased, then the payload; the payload is programmed, then the mark
abbrev pub erase_steps : List ByteWrite
erase_steps = erasing 32 ∷ erases_from 0 32

abbrev pub program_steps : List ℕ → List ByteWrite
program_steps payload = programs_from 0 payload ++ programming 32 0 ∷ []

abbrev pub steps : List ℕ → List ByteWrite
steps payload = erase_steps ++ program_steps payload

-- a cell, or what starts with one, with the first k byte writes done
abbrev pub cell_after : ℕ → List ℕ → List ℕ → List ℕ
cell_after k c payload = all_done (take k (steps payload)) c

-- all bytes with the first k byte writes to block i done, and every other byte unchanged
abbrev pub bytes_after : ℕ → List ℕ → ℕ → List ℕ → List ℕ
bytes_after k bytes i payload = take (33 * i) bytes ++ cell_after k (drop (33 * i) bytes) payload

-- this layout of cells
abbrev pub flash_layout : Layout
flash_layout =
    record {
      size = 33;
      content = content;
      takes = λ payload. (length payload ≡ 32) × ((j : ℕ) → slice_index payload j < 256);
      steps = 66;
      after = λ k part payload. cell_after k part payload;
    }

-- the 66 byte writes of a cell, from a good one and from a damaged one alike
abbrev pub EveryCut : Type 0
EveryCut = (c payload : List ℕ) → length c ≡ 33 → length payload ≡ 32 → ((j : ℕ) → slice_index payload j < 256) → Tears 66 (λ k. content (cell_after k c payload)) (content c) payload

-- the bytes after k byte writes to block i: the length is kept, and so is every byte outside the cell
pub record Bytewise (k : ℕ) (bytes : List ℕ) (i : ℕ) (payload : List ℕ) : Type 0 where
  pub long : length (bytes_after k bytes i payload) ≡ length bytes
  pub inside : cell (bytes_after k bytes i payload) i ≡ cell_after k (cell bytes i) payload
  pub outside : (n : ℕ) → (n < 33 * i) ⊎ (33 * i + 33 ≤ n) → slice_index (bytes_after k bytes i payload) n ≡ slice_index bytes n

abbrev pub InOrder : Type 0
InOrder = (k : ℕ) (bytes : List ℕ) (i : ℕ) (payload : List ℕ) → length payload ≡ 32 → 33 * i + 33 ≤ length bytes → Bytewise k bytes i payload
