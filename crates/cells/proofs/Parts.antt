-- A block in reach is read and written in the part of the bytes that starts with its cell. Assumes nothing.
use Rattle.std.proofs.Common.{◌≡◌, ℕ, ◌+◌, ◌-◌, ◌*◌, ◌/◌, ◌<◌, ◌≤◌, Bool, true, cond, List, ◌++◌, length, get_or, take, drop, vec_items, is_ok, Ok, Err, Result, sym, ap, ◌∙◌, arith, length-take, length-drop}
use Rattle.std.proofs.lemmas.List.{take_rest, with_items_is}
use Rattle.std.proofs.lemmas.Bool.{cond-true}
use Rattle.std.specs.Vec.{with_items}
use borrow.Rule.Slice.PartMut.{put_mid, same_len_mid}
use Rattle.device.specs.Reach.{in_reach, read_answer}
use Rattle.device.specs.declared.Block.{Block}
use Rattle.device.specs.declared.DeviceFault.{DeviceFault}
use Rattle.device.specs.declared.DeviceFault.TheVariants.{PowerLost, Refused}
use Rattle.device.proofs.Reach.{reached, made_in}
use Rattle.supply.specs.Budget.{lasts, allowed}
use Rattle.supply.specs.Writing.{Asks}
use Rattle.supply.specs.declared.Supply.{Supply}
use Rattle.supply.proofs.Cells.{count_by, fits_in, put_part}
use Rattle.supply.proofs.Rule.{block_at}
use Rattle.supply.proofs.Writes.{writes_on}
use Rattle.cells.specs.Device.{cells_on, cells_blocks, CellsWrites}
use Rattle.cells.specs.Layout.{Layout, Lawful, bytes_by}
use Rattle.cells.specs.declared.Cells.{Cells}

module _ (l : Layout) (lawful : Lawful l) {C : Type 0} (d : Cells C) (at : ℕ) {n : ℕ} {bytes : List ℕ} (size : n ≡ l.size) (same : bytes ≡ vec_items d.bytes) (reach : in_reach (cells_blocks l d) (cells_on d) at ≡ true) where
  abbrev items : List ℕ
  items = vec_items d.bytes

  abbrev part : ℕ → List ℕ → List ℕ
  part m x = take (length x - m * at) (drop (m * at) x)

  there : at < length items / l.size
  there = omega (arith, count_by l.size l.content items, (reached (cells_blocks l d) (cells_on d) at reach).1)

  pub fits : n * at + n ≤ length bytes
  fits =
      let h : l.size * at + l.size ≤ length items = fits_in l.size (length items) at lawful.some there in
      rw (size, same) h

  cell_fits : l.size ≤ length (part n bytes)
  cell_fits = simp (length-take, length-drop) (omega (arith, fits))

  pub found : (b : Block) → (l.size ≤ length (part n bytes) → b ≡ l.content (take l.size (part n bytes))) → Ok b ≡ read_answer (cells_blocks l d) (cells_on d) at
  found b e =
      let here : b ≡ l.content (take l.size (part l.size items)) = e cell_fits ∙ ap (λ (m : ℕ). l.content (take l.size (part m bytes))) size ∙ ap (λ (x : List ℕ). l.content (take l.size (part l.size x))) same in
      ap Ok (block_at l.size l.content items at b there here) ∙ sym (cond-true (in_reach (cells_blocks l d) (cells_on d) at) (Ok _) (Err Refused) reach)

  written_back : {payload now : List ℕ} {s p : Supply} {r : Bool} → length now ≡ length (part n bytes) → length bytes ≡ d.bytes.len → Asks l.steps (λ k. l.after k (part n bytes) payload) s r now p → Asks l.steps (λ k. bytes_by l k items at payload) s r (vec_items (with_items d.bytes (put_mid (n * at) (length bytes - n * at) bytes now))) p
  written_back {payload} {now} {s} long len e =
      let k : ℕ = allowed (lasts s) l.steps in
      record {
        bytes =
            with_items_is d.bytes (put_mid (n * at) (length bytes - n * at) bytes now) (same_len_mid (n * at) (length bytes - n * at) bytes now long ∙ len)
            ∙ put_part (n * at) bytes now (omega (arith, fits))
            ∙ ap (λ (x : List ℕ). take (n * at) bytes ++ x) (e.bytes ∙ ap (λ (x : List ℕ). l.after k x payload) (take_rest bytes (n * at)))
            ∙ ap (λ (m : ℕ). take (m * at) bytes ++ l.after k (drop (m * at) bytes) payload) size
            ∙ ap (λ (x : List ℕ). bytes_by l k x at payload) same;
        asked = e.asked;
      }

  pub wrote : {payload now : List ℕ} {p : Supply} (r : Result Unit DeviceFault) → r ≡ cond (is_ok r) (Ok tt) (Err (PowerLost at)) → length payload ≡ 32 → ((j : ℕ) → get_or payload j 0 < 256) → length now ≡ length (part n bytes) → length bytes ≡ d.bytes.len → (l.size ≤ length (part n bytes) → Asks l.steps (λ k. l.after k (part n bytes) payload) d.supply (is_ok r) now p) → CellsWrites l d at payload r (record { bytes = with_items d.bytes (put_mid (n * at) (length bytes - n * at) bytes now); supply = p; kind = d.kind })
  wrote {payload} {now} {p} r answer long32 each long len asks =
      made_in (cells_blocks l d) (cells_on d) at _ r d _ reach
      (record {
        takes = lawful.taken payload long32 each;
        exactly = record { writes = writes_on (reached (cells_blocks l d) (cells_on d) at reach).0 (written_back long len (asks cell_fits)); answer = answer };
      })
