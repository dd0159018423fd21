-- How a configuration lies in the home blocks 26 to 50, and how the journal header in block 0 names home blocks.
use Rattle.std.specs.Prelude.{ℕ, zero, suc, ◌+◌, ◌-◌, Bool, true, cond, ◌&&◌, List, [], ◌∷◌, ◌++◌, length, take, drop, replicate, Some, None, Option, nat_le, nat_lt, slice_index}
use Rattle.std.specs.Str.{bytes_eq}
use Rattle.encoding.specs.Counts.{record_bytes}
use Rattle.config.specs.Order.{entry_form}
use Rattle.config.specs.declared.entry.Entry.{Entry}

-- the bytes of several blocks, 32 each
abbrev pub Pages : Type 0
Pages = List (List ℕ)

abbrev pub zeros : ℕ → List ℕ
zeros n = replicate n 0

-- an entry in image form
abbrev pub entry_bytes : Entry → List ℕ
entry_bytes e = record_bytes entry_form e

-- two entries to a block; unused bytes are zero
abbrev pub entry_pages : ℕ → List Entry → Pages
entry_pages zero es = []
entry_pages (suc n) [] = zeros 32 ∷ entry_pages n []
entry_pages (suc n) (a ∷ []) = (entry_bytes a ++ zeros 16) ∷ entry_pages n []
entry_pages (suc n) (a ∷ (b ∷ rest)) = (entry_bytes a ++ entry_bytes b) ∷ entry_pages n rest

-- the home blocks: version 1, the entry count and 30 zeros; then 24 blocks of entries
unfoldable pub home_pages : List Entry → Pages
home_pages es = (1 ∷ (length es ∷ zeros 30)) ∷ entry_pages 24 es

-- a header: the count of the targets, the targets, then zeros
abbrev pub header_of : List ℕ → List ℕ
header_of ts = length ts ∷ (ts ++ zeros (31 - length ts))

-- strictly rising, from a first number on and below 51
abbrev pub rising : ℕ → List ℕ → Bool
rising lo [] = true
rising lo (t ∷ ts) = nat_le lo t && (nat_lt t 51 && rising (t + 1) ts)

-- the targets that a header's bytes name
abbrev pub named : List ℕ → List ℕ
named h = take (slice_index h 0) (drop 1 h)

-- Bytes are of a header's form if the targets that they name are home blocks, strictly rising, and they are the header of these.
unfoldable pub parse : List ℕ → Option (List ℕ)
parse h = cond (rising 26 (named h) && bytes_eq h (header_of (named h))) (Some (named h)) None
