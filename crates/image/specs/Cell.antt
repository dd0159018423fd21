-- How blocks stand in bytes. A cell is 34 bytes: front, 32 payload bytes, back. Assumes nothing.
use Rattle.std.specs.Prelude.{◌≡◌, ℕ, ◌+◌, ◌*◌, ◌%◌, ◌<◌, ◌≤◌, Bool, cond, ◌⊎◌, List, [], ◌∷◌, ◌++◌, length, take, drop, ◌==◌, slice_index}
use Rattle.supply.specs.Cells.{cell_of, blocks_by}
use Rattle.supply.specs.Writing.{Tears, written}
use Rattle.cells.specs.Layout.{Layout}
use Rattle.device.specs.declared.Block.{Block}
use Rattle.device.specs.declared.Block.TheVariants.{Good, Damaged}

-- the 34 bytes of block i
abbrev pub cell : List ℕ → ℕ → List ℕ
cell = cell_of 34

-- good exactly when front equals back
abbrev pub good : List ℕ → Bool
good c = slice_index c 0 == slice_index c 33

abbrev pub content : List ℕ → Block
content c = cond (good c) (Good (take 32 (drop 1 c))) Damaged

-- as many blocks as fit
abbrev pub blocks_of : List ℕ → List Block
blocks_of = blocks_by 34 content

-- front and back of the next write: the old back plus 1 modulo 256
abbrev pub stamp : List ℕ → ℕ
stamp c = (slice_index c 33 + 1) % 256

-- what a write of a payload over a cell writes, byte by byte
abbrev pub writes : List ℕ → List ℕ → List ℕ
writes c payload = stamp c ∷ (payload ++ stamp c ∷ [])

-- a cell with the first k byte writes done
abbrev pub cell_after : ℕ → List ℕ → List ℕ → List ℕ
cell_after k c payload = written k (writes c payload) c

-- all bytes with the first k byte writes to block i done, and every other byte unchanged
abbrev pub bytes_after : ℕ → List ℕ → ℕ → List ℕ → List ℕ
bytes_after k bytes i payload = take (34 * i) bytes ++ written k (writes (cell bytes i) payload) (drop (34 * i) bytes)

-- this layout of cells, where what is written goes by the cell at the front of the part
abbrev pub image_layout : Layout
image_layout =
    record {
      size = 34;
      content = content;
      takes = λ payload. length payload ≡ 32;
      steps = 34;
      after = λ k part payload. written k (writes (take 34 part) payload) part;
    }

-- the 34 byte writes of a cell, from a good one and from a damaged one alike
abbrev pub EveryCut : Type 0
EveryCut = (c payload : List ℕ) → length c ≡ 34 → length payload ≡ 32 → Tears 34 (λ k. content (cell_after k c payload)) (content c) payload

-- the bytes after k byte writes to block i, one by one: the length is kept, the k bytes are written, the others are kept
pub record Bytewise (k : ℕ) (bytes : List ℕ) (i : ℕ) (payload : List ℕ) : Type 0 where
  pub long : length (bytes_after k bytes i payload) ≡ length bytes
  pub new : (n : ℕ) → n < k → slice_index (bytes_after k bytes i payload) (34 * i + n) ≡ slice_index (writes (cell bytes i) payload) n
  pub old : (n : ℕ) → (n < 34 * i) ⊎ (34 * i + k ≤ n) → slice_index (bytes_after k bytes i payload) n ≡ slice_index bytes n

abbrev pub InOrder : Type 0
InOrder = (k : ℕ) (bytes : List ℕ) (i : ℕ) (payload : List ℕ) → k ≤ 34 → length payload ≡ 32 → 34 * i + 34 ≤ length bytes → Bytewise k bytes i payload
