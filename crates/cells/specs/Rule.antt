-- A device in cells of a lawful layout keeps the power rule. Assumes nothing.
use Rattle.std.specs.Prelude.{◌≡◌, ℕ, ◌+◌, ◌-◌, ◌*◌, ◌/◌, ◌<◌, ◌≤◌, Bool, true, List, ◌++◌, length, take, drop, set, Err, vec_items, Result, slice_index_or}
use Rattle.std.proofs.Common.{sym, ap, ◌∙◌, arith, length-drop}
use borrow.Rule.Slice.PartMut.{put_mid}
use Rattle.std.proofs.lemmas.List.{take_rest, length-take-le}
use Rattle.device.specs.declared.Block.{Block}
use Rattle.device.specs.declared.Block.TheVariants.{Damaged}
use Rattle.device.specs.declared.DeviceFault.{DeviceFault}
use Rattle.device.specs.declared.DeviceFault.TheVariants.{Refused}
use Rattle.device.specs.Power.{ReadAnswer, WriteAnswer}
use Rattle.device.proofs.Reach.{write_by_reach, same_if_refused, answers}
use Rattle.supply.specs.Budget.{is_on, left_of, allowed}
use Rattle.supply.specs.Cells.{cell_of, blocks_by}
use Rattle.cells.specs.Device.{cells_on, cells_blocks, CellsReads, Stepwise, CellsWrites}
use Rattle.cells.specs.Layout.{Layout, Lawful, Confined, bytes_by}
use Rattle.supply.specs.Writing.{ByteWrites, BlockWrite, Tears}
use Rattle.supply.specs.declared.Supply.{Supply}
use Rattle.cells.specs.declared.Cells.{Cells}
use Rattle.supply.proofs.Cells.{count_by, getD_blocks_by, fits_in, blocks_spliced, put_part}
use Rattle.supply.proofs.Rule.{by_byte_writes, not_refused}

module _ (l : Layout) (bytes : List ℕ) (i : ℕ) (payload : List ℕ) where
  -- a write changes its block and no other
  pub blocks_after : (k : ℕ) → l.size * i + l.size ≤ length bytes → i < length bytes / l.size → Confined l k (drop (l.size * i) bytes) payload → blocks_by l.size l.content (bytes_by l k bytes i payload) ≡ set (blocks_by l.size l.content bytes) i (l.content (l.after k (cell_of l.size bytes i) payload))
  blocks_after k room there c =
      blocks_spliced l.size bytes i (l.after k (drop (l.size * i) bytes) payload) room c.long c.rest l.content there
      ∙ ap (λ (x : List ℕ). set (blocks_by l.size l.content bytes) i (l.content x)) c.front

  -- the part from a block's first byte on is written, and so the bytes are
  pub exact_here : (n : ℕ) → l.size * i ≤ length bytes → (s : Supply) (r : Bool) (part : List ℕ) (p : Supply) → ByteWrites n (λ k. l.after k (take (length bytes - l.size * i) (drop (l.size * i) bytes)) payload) s r part p → ByteWrites n (λ k. bytes_by l k bytes i payload) s r (put_mid (l.size * i) (length bytes - l.size * i) bytes part) p
  exact_here n room s r part p e =
      record {
        bytes = put_part (l.size * i) bytes part room ∙ ap (λ (x : List ℕ). take (l.size * i) bytes ++ x) (e.bytes ∙ ap (λ (x : List ℕ). l.after (allowed (left_of s) n) x payload) (take_rest bytes (l.size * i)));
        spent = e.spent;
      }

module _ (l : Layout) (lawful : Lawful l) (bytes : List ℕ) (i : ℕ) (payload : List ℕ) (takes : l.takes payload) (here : i < length (blocks_by l.size l.content bytes)) where
  there : i < length bytes / l.size
  there = omega (arith, count_by l.size l.content bytes)

  room : l.size * i + l.size ≤ length bytes
  room = fits_in l.size (length bytes) i lawful.some there

  confined : (k : ℕ) → k ≤ l.steps → Confined l k (drop (l.size * i) bytes) payload
  confined k h = lawful.confined k (drop (l.size * i) bytes) payload h takes (simp length-drop (omega (arith, room)))

  torn : Tears l.steps (λ k. l.content (l.after k (cell_of l.size bytes i) payload)) (slice_index_or (blocks_by l.size l.content bytes) i Damaged) payload
  torn =
      let old : length (cell_of l.size bytes i) ≡ l.size = length-take-le l.size (drop (l.size * i) bytes) (simp length-drop (omega (arith, room))) in
      let t = lawful.tears (cell_of l.size bytes i) payload old takes in
      record { none = t.none ∙ sym (getD_blocks_by l.size l.content bytes i Damaged there); some = t.some; all = t.all }

  pub rule : (s : Supply) (r : Result Unit DeviceFault) (bytes' : List ℕ) (s' : Supply) → is_on s ≡ true → BlockWrite l.steps (λ k. bytes_by l k bytes i payload) i s r bytes' s' → WriteAnswer (blocks_by l.size l.content bytes) (is_on s) i payload r (blocks_by l.size l.content bytes') (is_on s')
  rule s r bytes' s' on w =
      by_byte_writes l.steps (λ k. bytes_by l k bytes i payload) (blocks_by l.size l.content) (λ k. l.content (l.after k (cell_of l.size bytes i) payload)) i payload (blocks_by l.size l.content bytes) here (λ k h. blocks_after l bytes i payload k room there (confined k h)) torn s r bytes' s' on w

module _ {C : Type 0} (l : Layout) where
  pub writing : Lawful l → (d e : Cells C) (at : ℕ) (bytes : List ℕ) (r : Result Unit DeviceFault) → CellsWrites l d at bytes r e → WriteAnswer (cells_blocks l d) (cells_on d) at bytes r (cells_blocks l e) (cells_on e)
  writing lawful d e at bytes r w =
      write_by_reach (cells_blocks l) cells_on d e at (Stepwise l d at bytes r e) bytes r w (λ on here x. rule l lawful (vec_items d.bytes) at bytes x.takes here d.supply r (vec_items e.bytes) e.supply on x.exactly)

  pub unwritten : (d e : Cells C) (at : ℕ) (bytes : List ℕ) → CellsWrites l d at bytes (Err Refused) e → e ≡ d
  unwritten d e at bytes w = same_if_refused (cells_blocks l d) (cells_on d) at (Stepwise l d at bytes (Err Refused) e) (Err Refused) d e w (λ on here x. not_refused x.exactly)

  pub reading : (d e : Cells C) (at : ℕ) (r : Result Block DeviceFault) → CellsReads l d at r e → ReadAnswer (cells_blocks l d) (cells_on d) at r (cells_blocks l e) (cells_on e)
  reading d e at r w = rw (w.same, w.answer) (answers (cells_blocks l d) (cells_on d) at)
