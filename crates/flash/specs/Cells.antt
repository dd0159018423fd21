-- What byte writes leave in a cell, and in the blocks. Assumes nothing.
use Rattle.std.specs.Prelude.{◌≡◌, ℕ, zero, suc, ◌+◌, ◌-◌, ◌*◌, ◌%◌, ◌<◌, ◌≤◌, ◌≢◌, ◌⊎◌, List, [], ◌∷◌, ◌++◌, length, get_or, take, drop, set, bit_and, slice_index, slice_index_or, slice_set, refl}
use Rattle.std.proofs.Common.{sym, ap, ◌∙◌, inl, inr, ⊎_elim, arith, length-append, length-set}
use Rattle.std.specs.Int.Bits.{and_zero_r}
use Rattle.std.proofs.lemmas.List.{get_or-take, length-take-le, get_or-set_same, get_or-set_other, take_all, take-append-le, append_assoc, length_push, ext_get_or}
use Rattle.std.proofs.lemmas.Nat.{and_mask, and_comm}
use Rattle.std.proofs.ByRecursion.{All-append, All-take}
use Rattle.std.proofs.lemmas.Bool.{eq-eqb, ne_eqb, cond-true, cond-false, cases_eq}
use Rattle.std.specs.List.{AllByRecursion}
use Rattle.device.specs.declared.Block.TheVariants.{Good, Damaged}
use Rattle.supply.proofs.Cells.{cell_here, outside, length_spliced}
use Rattle.cells.specs.Layout.{Confined}
use Rattle.cells.specs.Rule as rule
use Rattle.flash.specs.Cell.{cell, good, content, blocks_of, ByteWrite, erasing, programming, one_done, all_done, erases_from, programs_from, steps, cell_after, bytes_after, flash_layout, EveryCut, Bytewise, InOrder}

pub done_append : (ws vs : List ByteWrite) (c : List ℕ) → all_done (ws ++ vs) c ≡ all_done vs (all_done ws c)
done_append [] vs c = refl
done_append (w ∷ ws) vs c = done_append ws vs (one_done w c)

-- the byte that a byte write is to
abbrev place : ByteWrite → ℕ
place (erasing at) = at
place (programming at b) = at

length_one : (w : ByteWrite) (c : List ℕ) → length (one_done w c) ≡ length c
length_one (erasing at) c = length-set c at 255
length_one (programming at b) c = length-set c at (bit_and (slice_index c at) b)

pub length_done : (ws : List ByteWrite) (c : List ℕ) → length (all_done ws c) ≡ length c
length_done [] c = refl
length_done (w ∷ ws) c = length_done ws (one_done w c) ∙ length_one w c

-- a byte to which none of them is stays
one_elsewhere : (w : ByteWrite) (c : List ℕ) (j d : ℕ) → j ≢ place w → slice_index_or (one_done w c) j d ≡ slice_index_or c j d
one_elsewhere (erasing at) c j d n = get_or-set_other c at j 255 d n
one_elsewhere (programming at b) c j d n = get_or-set_other c at j (bit_and (slice_index c at) b) d n

pub elsewhere : (ws : List ByteWrite) (c : List ℕ) (j d : ℕ) → AllByRecursion (λ w. j ≢ place w) ws → slice_index_or (all_done ws c) j d ≡ slice_index_or c j d
elsewhere [] c j d n = refl
elsewhere (w ∷ ws) c j d n = elsewhere ws (one_done w c) j d n.1 ∙ one_elsewhere w c j d n.0

pub erases_off : (at n j : ℕ) → (j < at) ⊎ (at + n ≤ j) → AllByRecursion (λ w. j ≢ place w) (erases_from at n)
erases_off at zero j h = tt
erases_off at (suc n) j (inl h) = ((λ e. omega arith), erases_off (at + 1) n j (inl (omega arith)))
erases_off at (suc n) j (inr h) = ((λ e. omega arith), erases_off (at + 1) n j (inr (omega arith)))

programs_off : (at : ℕ) (bs : List ℕ) (j : ℕ) → (j < at) ⊎ (at + length bs ≤ j) → AllByRecursion (λ w. j ≢ place w) (programs_from at bs)
programs_off at [] j h = tt
programs_off at (b ∷ bs) j (inl h) = ((λ e. omega arith), programs_off (at + 1) bs j (inl (omega arith)))
programs_off at (b ∷ bs) j (inr h) = ((λ e. omega arith), programs_off (at + 1) bs j (inr (omega arith)))

-- consecutive bytes are erased
pub erased_at : (at n : ℕ) (c : List ℕ) (j d : ℕ) → at ≤ j → j < at + n → j < length c → slice_index_or (all_done (erases_from at n) c) j d ≡ 255
erased_at at zero c j d low high l = absurd (omega arith)
erased_at at (suc n) c j d low high l =
    ⊎_elim
    (λ same. elsewhere (erases_from (at + 1) n) (slice_set c at 255) j d (erases_off (at + 1) n j (inl (omega arith))) ∙ ap (λ (m : ℕ). get_or (slice_set c at 255) m d) same ∙ get_or-set_same c at 255 d (omega arith))
    (λ other. erased_at (at + 1) n (slice_set c at 255) j d (omega arith) (omega arith) (omega (arith, length-set c at 255)))
    (cases_eq j at)

-- consecutive bytes are programmed
programmed_at : (at : ℕ) (bs c : List ℕ) (j : ℕ) → at ≤ j → j < at + length bs → j < length c → slice_index (all_done (programs_from at bs) c) j ≡ bit_and (slice_index c j) (slice_index bs (j - at))
programmed_at at [] c j low high l = absurd (omega arith)
programmed_at at (b ∷ bs) c j low high l =
    let v : ℕ = bit_and (slice_index c at) b in
    ⊎_elim
    (λ same.
    let z : 0 ≡ j - at = omega arith in
    elsewhere (programs_from (at + 1) bs) (slice_set c at v) j 0 (programs_off (at + 1) bs j (inl (omega arith)))
    ∙ ap (λ (m : ℕ). slice_index (slice_set c at v) m) same
    ∙ get_or-set_same c at v 0 (omega arith)
    ∙ ap (λ (m : ℕ). bit_and (slice_index c m) b) (sym same)
    ∙ ap (λ (m : ℕ). bit_and (slice_index c j) (slice_index (b ∷ bs) m)) z)
    (λ other.
    let z : suc (j - (at + 1)) ≡ j - at = omega arith in
    programmed_at (at + 1) bs (slice_set c at v) j (omega arith) (omega arith) (omega (arith, length-set c at v))
    ∙ ap (λ (x : ℕ). bit_and x (slice_index bs (j - (at + 1)))) (get_or-set_other c at j v 0 other)
    ∙ ap (λ (m : ℕ). bit_and (slice_index c j) (slice_index (b ∷ bs) m)) z)
    (cases_eq j at)

pub content_good : (c : List ℕ) → slice_index c 32 ≡ 0 → content c ≡ Good (take 32 c)
content_good c e = cond-true (good c) (Good (take 32 c)) Damaged (eq-eqb (slice_index c 32) 0 e)

pub content_damaged : (c : List ℕ) → (slice_index c 32 ≢ 0) → content c ≡ Damaged
content_damaged c n = cond-false (good c) (Good (take 32 c)) Damaged (ne_eqb (slice_index c 32) 0 n)

-- between the two byte writes of the mark
abbrev middle : List ℕ → List ByteWrite
middle payload = erases_from 0 32 ++ programs_from 0 payload

length_erases : (at n : ℕ) → length (erases_from at n) ≡ n
length_erases at zero = refl
length_erases at (suc n) = ap suc (length_erases (at + 1) n)

pub length_programs : (at : ℕ) (bs : List ℕ) → length (programs_from at bs) ≡ length bs
length_programs at [] = refl
length_programs at (b ∷ bs) = ap suc (length_programs (at + 1) bs)

module _ (payload : List ℕ) (size : length payload ≡ 32) where
  length_middle : length (middle payload) ≡ 64
  length_middle = omega (arith, length-append (erases_from 0 32) (programs_from 0 payload), length_programs 0 payload)

  steps_are : steps payload ≡ erasing 32 ∷ (middle payload ++ programming 32 0 ∷ [])
  steps_are = ap (λ (x : List ByteWrite). erasing 32 ∷ x) (sym (append_assoc (erases_from 0 32) (programs_from 0 payload) (programming 32 0 ∷ [])))

  pub length_steps : length (steps payload) ≡ 66
  length_steps = ap length steps_are ∙ omega (arith, length_push (middle payload) (programming 32 0), length_middle)

  mark_free : AllByRecursion (λ w. 32 ≢ place w) (middle payload)
  mark_free = All-append (λ w. 32 ≢ place w) (erases_from 0 32) (programs_from 0 payload) (erases_off 0 32 32 (inr (omega arith))) (programs_off 0 payload 32 (inr (omega arith)))

  -- after the first byte write and before the last the mark is erased
  mark_between : (c : List ℕ) (k : ℕ) → 32 < length c → k ≤ 64 → slice_index (cell_after (suc k) c payload) 32 ≡ 255
  mark_between c k l h =
      let t : take (suc k) (steps payload) ≡ erasing 32 ∷ take k (middle payload) = ap (take (suc k)) steps_are ∙ ap (λ (x : List ByteWrite). erasing 32 ∷ x) (take-append-le k (middle payload) (programming 32 0 ∷ []) (omega (arith, length_middle))) in
      ap (λ (x : List ByteWrite). slice_index (all_done x c) 32) t
      ∙ elsewhere (take k (middle payload)) (slice_set c 32 255) 32 0 (All-take (λ w. 32 ≢ place w) k (middle payload) mark_free)
      ∙ get_or-set_same c 32 255 0 l

  abbrev emptied : List ℕ → List ℕ
  emptied c = all_done (erases_from 0 32) (slice_set c 32 255)

  abbrev filled : List ℕ → List ℕ
  filled c = all_done (programs_from 0 payload) (emptied c)

  -- after the last byte write
  ended : (c : List ℕ) → cell_after 66 c payload ≡ slice_set (filled c) 32 (bit_and (slice_index (filled c) 32) 0)
  ended c =
      ap (λ (x : List ByteWrite). all_done x c) (take_all 66 (steps payload) (omega (arith, length_steps)))
      ∙ done_append (erases_from 0 32) (programs_from 0 payload ++ programming 32 0 ∷ []) (slice_set c 32 255)
      ∙ done_append (programs_from 0 payload) (programming 32 0 ∷ []) (emptied c)

  length_filled : (c : List ℕ) → length (filled c) ≡ length c
  length_filled c = length_done (programs_from 0 payload) (emptied c) ∙ length_done (erases_from 0 32) (slice_set c 32 255) ∙ length-set c 32 255

  mark_ended : (c : List ℕ) → 32 < length c → slice_index (cell_after 66 c payload) 32 ≡ 0
  mark_ended c l =
      ap (λ (x : List ℕ). slice_index x 32) (ended c)
      ∙ get_or-set_same (filled c) 32 (bit_and (slice_index (filled c) 32) 0) 0 (omega (arith, length_filled c))
      ∙ and_zero_r (slice_index (filled c) 32)

  -- erased and then programmed, a byte is the payload's
  byte_ended : (c : List ℕ) (j : ℕ) → 32 < length c → ((i : ℕ) → slice_index payload i < 256) → j < 32 → slice_index (cell_after 66 c payload) j ≡ slice_index payload j
  byte_ended c j l fits h =
      let other : j ≢ 32 = λ e. omega arith in
      let z : j - 0 ≡ j = omega arith in
      let low : get_or payload j 0 % 256 ≡ get_or payload j 0 = omega (arith, fits j) in
      ap (λ (x : List ℕ). slice_index x j) (ended c)
      ∙ get_or-set_other (filled c) 32 j (bit_and (slice_index (filled c) 32) 0) 0 other
      ∙ programmed_at 0 payload (emptied c) j (omega arith) (omega arith) (omega (arith, length_done (erases_from 0 32) (slice_set c 32 255), length-set c 32 255))
      ∙ ap (λ (x : ℕ). bit_and x (slice_index payload (j - 0))) (erased_at 0 32 (slice_set c 32 255) j 0 (omega arith) (omega arith) (omega (arith, length-set c 32 255)))
      ∙ ap (λ (m : ℕ). bit_and 255 (slice_index payload m)) z
      ∙ and_comm 255 (slice_index payload j)
      ∙ and_mask (slice_index payload j) 8
      ∙ low

  payload_ended : (c : List ℕ) → length c ≡ 33 → ((i : ℕ) → slice_index payload i < 256) → take 32 (cell_after 66 c payload) ≡ payload
  payload_ended c l fits =
      let n : length (take 32 (cell_after 66 c payload)) ≡ 32 = length-take-le 32 (cell_after 66 c payload) (omega (arith, length_done (take 66 (steps payload)) c)) in
      ext_get_or 0 (take 32 (cell_after 66 c payload)) payload (n ∙ sym size) (λ j h. get_or-take 32 (cell_after 66 c payload) j 0 (omega arith) ∙ byte_ended c j (omega arith) fits (omega arith))

pub tears : EveryCut
tears c payload l size fits =
    record {
      none = refl;
      some = λ k low high.
          let e : suc (k - 1) ≡ k = omega arith in
          let mark : get_or (cell_after k c payload) 32 0 ≡ 255 = ap (λ (m : ℕ). slice_index (cell_after m c payload) 32) (sym e) ∙ mark_between payload size c (k - 1) (omega arith) (omega arith) in
          content_damaged (cell_after k c payload) (λ zero'. omega arith);
      all = content_good (cell_after 66 c payload) (mark_ended payload size c (omega arith)) ∙ ap Good (payload_ended payload size c l fits);
    }

-- all byte writes are to the cell
inside_cell : (payload : List ℕ) (size : length payload ≡ 32) (j : ℕ) → 33 ≤ j → AllByRecursion (λ w. j ≢ place w) (steps payload)
inside_cell payload size j h = (
  (λ e. omega arith),
  All-append (λ w. j ≢ place w) (erases_from 0 32) (programs_from 0 payload ++ programming 32 0 ∷ []) (erases_off 0 32 j (inr (omega arith)))
      (All-append (λ w. j ≢ place w) (programs_from 0 payload) (programming 32 0 ∷ []) (programs_off 0 payload j (inr (omega arith))) ((λ e. omega arith), tt)),
)

take_set_in : (n : ℕ) (c : List ℕ) (at v : ℕ) → at < n → take n (slice_set c at v) ≡ slice_set (take n c) at v
take_set_in zero c at v h = absurd (omega arith)
take_set_in (suc n) [] at v h = refl
take_set_in (suc n) (x ∷ c) zero v h = refl
take_set_in (suc n) (x ∷ c) (suc at) v h = ap (λ (y : List ℕ). x ∷ y) (take_set_in n c at v (omega arith))

-- byte writes to the front of a part are byte writes to its front alone
take_one : (n : ℕ) (w : ByteWrite) (c : List ℕ) → place w < n → take n (one_done w c) ≡ one_done w (take n c)
take_one n (erasing at) c h = take_set_in n c at 255 h
take_one n (programming at b) c h = take_set_in n c at (bit_and (slice_index c at) b) h ∙ ap (λ (x : ℕ). set (take n c) at (bit_and x b)) (sym (get_or-take n c at 0 h))

take_done : (n : ℕ) (ws : List ByteWrite) (c : List ℕ) → AllByRecursion (λ w. place w < n) ws → take n (all_done ws c) ≡ all_done ws (take n c)
take_done n [] c h = refl
take_done n (w ∷ ws) c h = take_done n ws (one_done w c) h.1 ∙ ap (all_done ws) (take_one n w c h.0)

erases_in : (at n m : ℕ) → at + n ≤ m → AllByRecursion (λ w. place w < m) (erases_from at n)
erases_in at zero m h = tt
erases_in at (suc n) m h = (omega arith, erases_in (at + 1) n m (omega arith))

programs_in : (at : ℕ) (bs : List ℕ) (m : ℕ) → at + length bs ≤ m → AllByRecursion (λ w. place w < m) (programs_from at bs)
programs_in at [] m h = tt
programs_in at (b ∷ bs) m h = (omega arith, programs_in (at + 1) bs m (omega arith))

steps_in : (payload : List ℕ) → length payload ≡ 32 → AllByRecursion (λ w. place w < 33) (steps payload)
steps_in payload size = (
  omega arith,
  All-append (λ w. place w < 33) (erases_from 0 32) (programs_from 0 payload ++ programming 32 0 ∷ []) (erases_in 0 32 33 (omega arith))
      (All-append (λ w. place w < 33) (programs_from 0 payload) (programming 32 0 ∷ []) (programs_in 0 payload 33 (omega arith)) (omega arith, tt)),
)

pub confined : (k : ℕ) (part payload : List ℕ) → length payload ≡ 32 → Confined flash_layout k part payload
confined k part payload size =
    record {
      long = length_done (take k (steps payload)) part;
      rest = λ j d past. elsewhere (take k (steps payload)) part j d (All-take (λ w. j ≢ place w) k (steps payload) (inside_cell payload size j past));
      front = take_done 33 (take k (steps payload)) part (All-take (λ w. place w < 33) k (steps payload) (steps_in payload size));
    }

module _ (k : ℕ) (bytes : List ℕ) (i : ℕ) (payload : List ℕ) (size : length payload ≡ 32) (room : 33 * i + 33 ≤ length bytes) where
  abbrev part : List ℕ
  part = cell_after k (drop (33 * i) bytes) payload

  cell_alone : Confined flash_layout k (drop (33 * i) bytes) payload
  cell_alone = confined k (drop (33 * i) bytes) payload size

  -- a write changes its block and no other
  pub blocks_after : blocks_of (bytes_after k bytes i payload) ≡ slice_set (blocks_of bytes) i (content (cell_after k (cell bytes i) payload))
  blocks_after = rule.blocks_after flash_layout bytes i payload k room (omega arith) cell_alone

  pub bytewise : Bytewise k bytes i payload
  bytewise =
      record {
        long = length_spliced 33 bytes i part room cell_alone.long cell_alone.rest;
        inside = cell_here 33 bytes i part room cell_alone.long cell_alone.rest ∙ cell_alone.front;
        outside = λ n h. outside 33 bytes i part room cell_alone.long cell_alone.rest n 0 h;
      }

pub in_order : InOrder
in_order k bytes i payload size room = bytewise k bytes i payload size room
