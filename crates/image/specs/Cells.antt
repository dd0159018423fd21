-- What byte writes leave in a cell, and in the blocks. Assumes nothing.
use Rattle.std.specs.Prelude.{◌≡◌, ℕ, ◌+◌, ◌-◌, ◌*◌, ◌<◌, ◌≤◌, List, [], ◌∷◌, ◌++◌, length, get_or, take, drop, ◌≢◌, slice_index, slice_set, refl}
use Rattle.std.proofs.Common.{sym, ap, ◌∙◌, inl, ⊎_elim, arith, length-drop}
use Rattle.std.proofs.lemmas.List.{append-nil, same_lists, get_or-take, get_or-drop, take-take, take_all, drop_all, take_at, get_or_push, length_push, length-take-le}
use Rattle.std.proofs.lemmas.Bool.{eq-eqb, ne_eqb, cond-true, cond-false, cases_lt}
use Rattle.supply.specs.Writing.{written}
use Rattle.supply.proofs.Cells.{inside, outside, length_spliced}
use Rattle.supply.proofs.Writes.{written_below, written_above, length_written}
use Rattle.device.specs.declared.Block.TheVariants.{Good, Damaged}
use Rattle.cells.specs.Layout.{Confined}
use Rattle.cells.specs.Rule as rule
use Rattle.image.specs.Cell.{image_layout, cell, good, content, blocks_of, stamp, writes, cell_after, bytes_after, EveryCut, Bytewise, InOrder}

pub length_writes : (c payload : List ℕ) → length payload ≡ 32 → length (writes c payload) ≡ 34
length_writes c payload e = omega (arith, length_push payload (stamp c))

pub content_good : (c : List ℕ) → slice_index c 0 ≡ slice_index c 33 → content c ≡ Good (take 32 (drop 1 c))
content_good c e = cond-true (good c) (Good (take 32 (drop 1 c))) Damaged (eq-eqb (slice_index c 0) (slice_index c 33) e)

pub content_damaged : (c : List ℕ) → (slice_index c 0 ≢ slice_index c 33) → content c ≡ Damaged
content_damaged c n = cond-false (good c) (Good (take 32 (drop 1 c))) Damaged (ne_eqb (slice_index c 0) (slice_index c 33) n)

-- the cell after all 34 byte writes is what was to be written
whole : (c payload : List ℕ) → length c ≡ 34 → length payload ≡ 32 → cell_after 34 c payload ≡ writes c payload
whole c payload l e =
    let n = length_writes c payload e in
    let t : take 34 (writes c payload) ≡ writes c payload = take_all 34 (writes c payload) (omega arith) in
    let d : drop 34 c ≡ [] = drop_all 34 c (omega arith) in
    ap (λ (x : List ℕ). take 34 (writes c payload) ++ x) d ∙ append-nil (take 34 (writes c payload)) ∙ t

pub tears : EveryCut
tears c payload l e =
    let n = length_writes c payload e in
    record {
      none = refl;
      some = λ k low high.
          let w : k ≤ length (writes c payload) = omega arith in
          let first = written_below k (writes c payload) c w 0 0 low in
          let last = written_above k (writes c payload) c w 33 0 (omega arith) in
          content_damaged (cell_after k c payload) (λ same. omega (arith, first, last, same));
      all =
          let back : get_or (writes c payload) 33 0 ≡ stamp c = get_or_push payload (stamp c) 0 32 e in
          ap content (whole c payload l e) ∙ content_good (writes c payload) (sym back) ∙ ap Good (take_at payload (stamp c ∷ []) 32 e);
    }

-- the first 34 bytes of a part, with k of them written
take_written : (k : ℕ) (new part : List ℕ) → k ≤ length new → k ≤ 34 → 34 ≤ length part → take 34 (written k new part) ≡ written k new (take 34 part)
take_written k new part w h r =
    let n = length-take-le 34 part r in
    let m = length_written k new part w (omega arith) in
    let o = length_written k new (take 34 part) w (omega arith) in
    same_lists (take 34 (written k new part)) (written k new (take 34 part)) (length-take-le 34 (written k new part) (omega arith) ∙ sym (o ∙ n))
    (λ j d l.
    let low : j < 34 = omega (arith, length-take-le 34 (written k new part) (omega arith)) in
    get_or-take 34 (written k new part) j d low
    ∙ ⊎_elim
    (λ below. written_below k new part w j d below ∙ sym (written_below k new (take 34 part) w j d below))
    (λ above. written_above k new part w j d above ∙ sym (get_or-take 34 part j d low) ∙ sym (written_above k new (take 34 part) w j d above))
    (cases_lt j k))

-- byte writes to a part that starts with a cell are to the cell alone
pub confined : (k : ℕ) (part payload : List ℕ) → k ≤ 34 → length payload ≡ 32 → 34 ≤ length part → Confined image_layout k part payload
confined k part payload h size room =
    let new : List ℕ = writes (take 34 part) payload in
    let within : k ≤ length new = omega (arith, length_writes (take 34 part) payload size) in
    record {
      long = length_written k new part within (omega arith);
      rest = λ j d past. written_above k new part within j d (omega arith);
      front = take_written k new part within h room ∙ ap (λ (c : List ℕ). written k (writes c payload) (take 34 part)) (sym (take-take 34 34 part (omega arith)));
    }

module _ (k : ℕ) (bytes : List ℕ) (i : ℕ) (payload : List ℕ) (fits : k ≤ 34) (size : length payload ≡ 32) (room : 34 * i + 34 ≤ length bytes) where
  abbrev new : List ℕ
  new = writes (cell bytes i) payload

  abbrev old : List ℕ
  old = drop (34 * i) bytes

  within : k ≤ length new
  within = omega (arith, length_writes (cell bytes i) payload size)

  cell_alone : Confined image_layout k old payload
  cell_alone = confined k old payload fits size (simp length-drop (omega arith))

  -- a write changes its block and no other
  pub blocks_after : blocks_of (bytes_after k bytes i payload) ≡ slice_set (blocks_of bytes) i (content (cell_after k (cell bytes i) payload))
  blocks_after =
      rule.blocks_after image_layout bytes i payload k room (omega arith) cell_alone
      ∙ ap (λ (c : List ℕ). slice_set (blocks_of bytes) i (content (written k (writes c payload) (cell bytes i)))) (take_all 34 (cell bytes i) (omega (arith, length-take-le 34 old (simp length-drop (omega arith)))))

  here : (n : ℕ) → slice_index (bytes_after k bytes i payload) (34 * i + n) ≡ slice_index (written k new old) n
  here n = inside 34 bytes i (written k new old) room cell_alone.long cell_alone.rest n 0

  past : (n : ℕ) → 34 * i + k ≤ n → slice_index (bytes_after k bytes i payload) n ≡ slice_index bytes n
  past n h =
      let e : 34 * i + (n - 34 * i) ≡ n = omega arith in
      ap (λ (m : ℕ). slice_index (bytes_after k bytes i payload) m) (sym e)
      ∙ here (n - 34 * i)
      ∙ written_above k new old within (n - 34 * i) 0 (omega arith)
      ∙ get_or-drop (34 * i) bytes (n - 34 * i) 0
      ∙ ap (λ (m : ℕ). slice_index bytes m) e

  pub bytewise : Bytewise k bytes i payload
  bytewise =
      record {
        long = length_spliced 34 bytes i (written k new old) room cell_alone.long cell_alone.rest;
        new = λ n h. here n ∙ written_below k new old within n 0 h;
        old = λ n h. ⊎_elim (λ low. outside 34 bytes i (written k new old) room cell_alone.long cell_alone.rest n 0 (inl low)) (past n) h;
      }

pub in_order : InOrder
in_order k bytes i payload fits size room = bytewise k bytes i payload fits size room
