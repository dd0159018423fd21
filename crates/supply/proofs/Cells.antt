-- The blocks in bytes, and what a write to the part that starts with one cell leaves. Assumes nothing.
use Rattle.std.proofs.Common.{◌≡◌, ℕ, ◌+◌, ◌-◌, ◌*◌, ◌/◌, ◌<◌, ◌≤◌, min, ◌⊎◌, List, [], ◌++◌, length, get_or, take, drop, set, sym, ap, ◌∙◌, inl, inr, ⊎_elim, mul-le-mul_left, mul-add, arith, length-append, length-drop, length-set, length-take}
use borrow.Rule.Slice.PartMut.{put_mid}
use Rattle.std.proofs.lemmas.List.{append-nil, drop_all, drop_at, same_lists, get_or_append_left, get_or-append_right, get_or-take, get_or-drop, length-take-le, get_or-set_same, get_or-set_other}
use Rattle.std.proofs.lemmas.List.FromFn.{length-map-range_with_len, get_or-map-range_with_len}
use Rattle.std.proofs.lemmas.Bool.{cases_eq, cases_lt}
use Rattle.device.specs.declared.Block.{Block}
use Rattle.supply.specs.Cells.{cell_of, blocks_by}

-- cells lie one after the other
apart : (n j i : ℕ) → j < i → n * j + n ≤ n * i
apart n j i h =
    let m : n * (j + 1) ≤ n * i = mul-le-mul_left n h' in
    omega (arith, m, mul-add n j 1)
  where
    h' : j + 1 ≤ i
    h' = omega arith

-- where a block fits, its cell does
pub fits_in : (n m i : ℕ) → 0 < n → i < m / n → n * i + n ≤ m
fits_in n m i some h =
    let k : n * (i + 1) ≤ n * (m / n) = mul-le-mul_left n h' in
    omega (arith, k, mul-add n i 1)
  where
    h' : i + 1 ≤ m / n
    h' = omega arith

module _ (n : ℕ) (content : List ℕ → Block) where
  pub count_by : (bytes : List ℕ) → length (blocks_by n content bytes) ≡ length bytes / n
  count_by bytes = length-map-range_with_len (λ i. content (cell_of n bytes i)) 0 (length bytes / n)

  pub getD_blocks_by : (bytes : List ℕ) (i : ℕ) (d : Block) → i < length bytes / n → get_or (blocks_by n content bytes) i d ≡ content (cell_of n bytes i)
  getD_blocks_by bytes i d h = get_or-map-range_with_len (λ i. content (cell_of n bytes i)) 0 (length bytes / n) i i d h (omega arith)

-- a write to the part from a place on
pub put_part : (a : ℕ) (bytes part : List ℕ) → a ≤ length bytes → put_mid a (length bytes - a) bytes part ≡ take a bytes ++ part
put_part a bytes part h =
    let none : drop (length bytes - a) (drop a bytes) ≡ [] = drop_all (length bytes - a) (drop a bytes) (simp length-drop (omega arith)) in
    ap (λ (x : List ℕ). take a bytes ++ (part ++ x)) none ∙ ap (λ (x : List ℕ). take a bytes ++ x) (append-nil part)

module _ (n : ℕ) (bytes : List ℕ) (i : ℕ) (part : List ℕ) (room : n * i + n ≤ length bytes) (long : length part ≡ length (drop (n * i) bytes)) (tail : (m d : ℕ) → n ≤ m → get_or part m d ≡ get_or (drop (n * i) bytes) m d) where
  before : length (take (n * i) bytes) ≡ n * i
  before = length-take-le (n * i) bytes (omega arith)

  pub length_spliced : length (take (n * i) bytes ++ part) ≡ length bytes
  length_spliced = omega (arith, before, long, length-drop (n * i) bytes, length-append (take (n * i) bytes) part)

  -- a byte outside the cell is as it was
  pub outside : (m d : ℕ) → (m < n * i) ⊎ (n * i + n ≤ m) → get_or (take (n * i) bytes ++ part) m d ≡ get_or bytes m d
  outside m d (inl h) = get_or_append_left (take (n * i) bytes) part d m (omega (arith, before)) ∙ get_or-take (n * i) bytes m d h
  outside m d (inr h) =
      let e : n * i + (m - n * i) ≡ m = omega arith in
      get_or-append_right (take (n * i) bytes) part (n * i) m d before (omega arith)
      ∙ tail (m - n * i) d (omega arith)
      ∙ get_or-drop (n * i) bytes (m - n * i) d
      ∙ ap (λ (k : ℕ). get_or bytes k d) e

  pub inside : (m d : ℕ) → get_or (take (n * i) bytes ++ part) (n * i + m) d ≡ get_or part m d
  inside m d =
      let e : n * i + m - n * i ≡ m = omega arith in
      get_or-append_right (take (n * i) bytes) part (n * i) (n * i + m) d before (omega arith) ∙ ap (λ (k : ℕ). get_or part k d) e

  pub cell_here : cell_of n (take (n * i) bytes ++ part) i ≡ take n part
  cell_here = ap (take n) (drop_at (take (n * i) bytes) part (n * i) before)

  cell_elsewhere : (j : ℕ) → (j ≡ i → ⊥) → cell_of n (take (n * i) bytes ++ part) j ≡ cell_of n bytes j
  cell_elsewhere j other =
      same_lists (cell_of n (take (n * i) bytes ++ part) j) (cell_of n bytes j)
      (simp (length-take, length-drop) (ap (λ (k : ℕ). min n (k - n * j)) length_spliced))
      (λ m d l.
      let low : m < n = omega (arith, length-take n (drop (n * j) (take (n * i) bytes ++ part))) in
      let side : (n * j + m < n * i) ⊎ (n * i + n ≤ n * j + m) = ⊎_elim (λ b. inl (omega (arith, apart n j i b))) (λ a. inr (omega (arith, apart n i j (omega arith)))) (cases_lt j i) in
      get_or-take n (drop (n * j) (take (n * i) bytes ++ part)) m d low
      ∙ get_or-drop (n * j) (take (n * i) bytes ++ part) m d
      ∙ outside (n * j + m) d side
      ∙ sym (get_or-drop (n * j) bytes m d)
      ∙ sym (get_or-take n (drop (n * j) bytes) m d low))

  -- the one block is what its cell now means
  pub blocks_spliced : (content : List ℕ → Block) → i < length bytes / n → blocks_by n content (take (n * i) bytes ++ part) ≡ set (blocks_by n content bytes) i (content (take n part))
  blocks_spliced content here =
      let bs : List Block = blocks_by n content bytes in
      let bs' : List Block = blocks_by n content (take (n * i) bytes ++ part) in
      let now : Block = content (take n part) in
      let k : length bs' ≡ length bytes / n = count_by n content (take (n * i) bytes ++ part) ∙ ap (λ (m : ℕ). m / n) length_spliced in
      let l : length (set bs i now) ≡ length bytes / n = length-set bs i now ∙ count_by n content bytes in
      same_lists bs' (set bs i now) (k ∙ sym l)
      (λ j d h.
      let in' : j < length (take (n * i) bytes ++ part) / n = omega (arith, k, ap (λ (m : ℕ). m / n) length_spliced) in
      getD_blocks_by n content (take (n * i) bytes ++ part) j d in'
      ∙ ⊎_elim
      (λ same. ap (λ (m : ℕ). content (cell_of n (take (n * i) bytes ++ part) m)) same ∙ ap content cell_here ∙ sym (get_or-set_same bs i now d (omega (arith, count_by n content bytes))) ∙ ap (λ (m : ℕ). get_or (set bs i now) m d) (sym same))
      (λ other. ap content (cell_elsewhere j other) ∙ sym (get_or-set_other bs i j now d other ∙ getD_blocks_by n content bytes j d (omega (arith, k))))
      (cases_eq j i))
