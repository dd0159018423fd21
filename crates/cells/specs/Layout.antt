-- How a block stands in a cell of bytes, and what byte writes make of it. Assumes nothing.
use Rattle.std.specs.Prelude.{◌≡◌, ℕ, ◌*◌, ◌<◌, ◌≤◌, List, ◌++◌, length, take, drop, slice_index, slice_index_or}
use Rattle.device.specs.declared.Block.{Block}
use Rattle.supply.specs.Writing.{Tears}

-- a cell has `size` bytes, which mean its content. A write of a payload that it takes is made of so many steps, each one byte
-- write; the first k of them make `after k` of a part that starts with a cell
pub record Layout : Type 1 where
  pub size : ℕ
  pub content : List ℕ → Block
  pub takes : List ℕ → Type 0
  pub steps : ℕ
  pub after : ℕ → List ℕ → List ℕ → List ℕ

-- all bytes with the first k byte writes to block i done, and every other byte unchanged
abbrev pub bytes_by : Layout → ℕ → List ℕ → ℕ → List ℕ → List ℕ
bytes_by l k bytes i payload = take (l.size * i) bytes ++ l.after k (drop (l.size * i) bytes) payload

-- byte writes to a part that starts with a cell are to the cell alone
pub record Confined (l : Layout) (k : ℕ) (part payload : List ℕ) : Type 0 where
  pub long : length (l.after k part payload) ≡ length part
  pub rest : (j d : ℕ) → l.size ≤ j → slice_index_or (l.after k part payload) j d ≡ slice_index_or part j d
  pub front : take l.size (l.after k part payload) ≡ l.after k (take l.size part) payload

-- what a device in such cells needs to keep the power rule
pub record Lawful (l : Layout) : Type 0 where
  pub some : 0 < l.size
  pub taken : (payload : List ℕ) → length payload ≡ 32 → ((j : ℕ) → slice_index payload j < 256) → l.takes payload
  pub confined : (k : ℕ) (part payload : List ℕ) → k ≤ l.steps → l.takes payload → l.size ≤ length part → Confined l k part payload
  pub tears : (c payload : List ℕ) → length c ≡ l.size → l.takes payload → Tears l.steps (λ k. l.content (l.after k c payload)) (l.content c) payload
