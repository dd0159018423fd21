-- From the bytes to the power rule. Assumes nothing.
use Rattle.std.specs.Prelude.{◌≡◌, ℕ, ◌+◌, ◌-◌, ◌*◌, ◌%◌, ◌<◌, ◌≤◌, Bool, true, List, [], ◌∷◌, ◌++◌, length, take, drop, Err, Result}
use Rattle.std.proofs.Common.{sym, ap, subst, arith}
use borrow.Rule.Slice.PartMut.{put_mid}
use Rattle.std.proofs.lemmas.List.{get_or-take, take_all}
use Rattle.device.specs.declared.Block.{Block}
use Rattle.device.specs.declared.DeviceFault.{DeviceFault}
use Rattle.device.specs.declared.DeviceFault.TheVariants.{Refused}
use Rattle.device.specs.Power.{ReadAnswer, WriteAnswer}
use Rattle.supply.specs.Budget.{is_on}
use Rattle.supply.specs.Writing.{ByteWrites, BlockWrite, Tears, written}
use Rattle.supply.specs.declared.Supply.{Supply}
use Rattle.cells.specs.Layout.{Lawful}
use Rattle.cells.specs.Rule as cells
use Rattle.cells.specs.declared.Cells.{Cells}
use Rattle.image.specs.Bytes.{Ended}
use Rattle.image.specs.Cell.{content, blocks_of, writes, bytes_after, image_layout}
use Rattle.image.specs.Cells.{length_writes, confined, tears}
use Rattle.image.specs.Steps.{image_blocks, image_on, ImageWrites, ImageReads}
use Rattle.image.specs.declared.Framed.{Framed}

pub lawful : Lawful image_layout
lawful =
    record {
      some = omega arith;
      taken = λ payload size each. size;
      confined = confined;
      tears = λ c payload long size.
          let P : List ℕ → Type 0 = λ x. Tears 34 (λ k. content (written k (writes x payload) c)) (content c) payload in
          subst P (sym (take_all 34 c (omega arith))) (tears c payload long size);
    }

-- the part from a block's first byte on is written in its order, and so the bytes are
module _ (bytes : List ℕ) (i : ℕ) (payload : List ℕ) (size : length payload ≡ 32) (room : 34 * i + 34 ≤ length bytes) where
  pub exact_here : (s : Supply) (r : Bool) (part : List ℕ) (p : Supply) → Ended (writes (take (length bytes - 34 * i) (drop (34 * i) bytes)) payload) (take (length bytes - 34 * i) (drop (34 * i) bytes)) s r part p → ByteWrites 34 (λ k. bytes_after k bytes i payload) s r (put_mid (34 * i) (length bytes - 34 * i) bytes part) p
  exact_here s r part p e =
      let rest : List ℕ = take (length bytes - 34 * i) (drop (34 * i) bytes) in
      let n : length (writes rest payload) ≡ 34 = length_writes rest payload size in
      let same : writes rest payload ≡ writes (take 34 rest) payload = ap (λ (b : ℕ). ((b + 1) % 256) ∷ (payload ++ ((b + 1) % 256) ∷ [])) (sym (get_or-take 34 rest 33 0 (omega arith))) in
      let e34 : ByteWrites 34 (λ k. written k (writes rest payload) rest) s r part p = subst (λ (m : ℕ). ByteWrites m (λ k. written k (writes rest payload) rest) s r part p) n e in
      cells.exact_here image_layout bytes i payload 34 (omega arith) s r part p (subst (λ (w : List ℕ). ByteWrites 34 (λ k. written k w rest) s r part p) same e34)

-- what the bytes' equation comes to for the blocks
pub rule : (bytes : List ℕ) (i : ℕ) (payload : List ℕ) → length payload ≡ 32 → i < length (blocks_of bytes) → (s : Supply) (r : Result Unit DeviceFault) (bytes' : List ℕ) (s' : Supply) → is_on s ≡ true → BlockWrite 34 (λ k. bytes_after k bytes i payload) i s r bytes' s' → WriteAnswer (blocks_of bytes) (is_on s) i payload r (blocks_of bytes') (is_on s')
rule bytes i payload size here = cells.rule image_layout lawful bytes i payload size here

pub writing : (d e : Cells Framed) (at : ℕ) (bytes : List ℕ) (r : Result Unit DeviceFault) → ImageWrites d at bytes r e → WriteAnswer (image_blocks d) (image_on d) at bytes r (image_blocks e) (image_on e)
writing = cells.writing image_layout lawful

pub unwritten : (d e : Cells Framed) (at : ℕ) (bytes : List ℕ) → ImageWrites d at bytes (Err Refused) e → e ≡ d
unwritten = cells.unwritten image_layout

pub reading : (d e : Cells Framed) (at : ℕ) (r : Result Block DeviceFault) → ImageReads d at r e → ReadAnswer (image_blocks d) (image_on d) at r (image_blocks e) (image_on e)
reading = cells.reading image_layout
