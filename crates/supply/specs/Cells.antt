-- Blocks that stand in bytes, one cell of bytes after the other. Assumes nothing.
use Rattle.std.specs.Prelude.{ℕ, ◌*◌, ◌/◌, List, map, length, take, drop}
use Rattle.std.specs.List.{range_with_len}
use Rattle.device.specs.declared.Block.{Block}

-- the bytes of block i, where a cell has n of them
abbrev pub cell_of : ℕ → List ℕ → ℕ → List ℕ
cell_of n bytes i = take n (drop (n * i) bytes)

-- as many blocks as fit, each with what its cell means
abbrev pub blocks_by : ℕ → (List ℕ → Block) → List ℕ → List Block
blocks_by n content bytes = map (λ i. content (cell_of n bytes i)) (range_with_len 0 (length bytes / n))
