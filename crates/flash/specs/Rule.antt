-- From the bytes to the power rule. Assumes nothing.
use Rattle.std.specs.Prelude.{◌≡◌, ℕ, ◌+◌, ◌-◌, ◌*◌, ◌<◌, ◌≤◌, Bool, true, List, length, take, drop, Err, Result, slice_index}
use Rattle.std.proofs.Common.{subst, arith}
use borrow.Rule.Slice.PartMut.{put_mid}
use Rattle.device.specs.declared.Block.{Block}
use Rattle.device.specs.declared.DeviceFault.{DeviceFault}
use Rattle.device.specs.declared.DeviceFault.TheVariants.{Refused}
use Rattle.device.specs.Power.{ReadAnswer, WriteAnswer}
use Rattle.supply.specs.Budget.{is_on}
use Rattle.supply.specs.Writing.{ByteWrites, BlockWrite}
use Rattle.supply.specs.declared.Supply.{Supply}
use Rattle.supply.proofs.Writes.{writes_on}
use Rattle.cells.specs.Layout.{Lawful}
use Rattle.cells.specs.Rule as cells
use Rattle.cells.specs.declared.Cells.{Cells}
use Rattle.flash.specs.Cell.{blocks_of, steps, cell_after, bytes_after, flash_layout}
use Rattle.flash.specs.Cells.{length_steps, tears, confined}
use Rattle.flash.specs.Ran.{Ran, RanAsked}
use Rattle.flash.specs.Steps.{flash_blocks, flash_on, FlashWrites, FlashReads}
use Rattle.flash.specs.declared.Marked.{Marked}

pub lawful : Lawful flash_layout
lawful =
    record {
      some = omega arith;
      taken = λ payload size each. (size, each);
      confined = λ k part payload h takes room. confined k part payload takes.0;
      tears = λ c payload long takes. tears c payload long takes.0 takes.1;
    }

-- the part from a block's first byte on is written, and so the bytes are
module _ (bytes : List ℕ) (i : ℕ) (payload : List ℕ) (size : length payload ≡ 32) (room : 33 * i + 33 ≤ length bytes) where
  abbrev rest : List ℕ
  rest = take (length bytes - 33 * i) (drop (33 * i) bytes)

  -- where as many byte writes are done as power that is on lasts for
  pub exact_here : (s : Supply) (r : Bool) (part : List ℕ) (p : Supply) → Ran (steps payload) rest s r part p → ByteWrites 66 (λ k. bytes_after k bytes i payload) s r (put_mid (33 * i) (length bytes - 33 * i) bytes part) p
  exact_here s r part p e =
      cells.exact_here flash_layout bytes i payload 66 (omega arith) s r part p (subst (λ (m : ℕ). ByteWrites m (λ k. cell_after k rest payload) s r part p) (length_steps payload size) e)

  -- so it is where they run with power on
  pub ran_here : (s : Supply) (r : Bool) (part : List ℕ) (p : Supply) → is_on s ≡ true → RanAsked (steps payload) rest s r part p → ByteWrites 66 (λ k. bytes_after k bytes i payload) s r (put_mid (33 * i) (length bytes - 33 * i) bytes part) p
  ran_here s r part p on e = exact_here s r part p (writes_on on e)

-- what the bytes' equation comes to for the blocks
pub rule : (bytes : List ℕ) (i : ℕ) (payload : List ℕ) → length payload ≡ 32 → ((j : ℕ) → slice_index payload j < 256) → i < length (blocks_of bytes) → (s : Supply) (r : Result Unit DeviceFault) (bytes' : List ℕ) (s' : Supply) → is_on s ≡ true → BlockWrite 66 (λ k. bytes_after k bytes i payload) i s r bytes' s' → WriteAnswer (blocks_of bytes) (is_on s) i payload r (blocks_of bytes') (is_on s')
rule bytes i payload size byte here = cells.rule flash_layout lawful bytes i payload (size, byte) here

pub writing : (d e : Cells Marked) (at : ℕ) (bytes : List ℕ) (r : Result Unit DeviceFault) → FlashWrites d at bytes r e → WriteAnswer (flash_blocks d) (flash_on d) at bytes r (flash_blocks e) (flash_on e)
writing = cells.writing flash_layout lawful

pub unwritten : (d e : Cells Marked) (at : ℕ) (bytes : List ℕ) → FlashWrites d at bytes (Err Refused) e → e ≡ d
unwritten = cells.unwritten flash_layout

pub reading : (d e : Cells Marked) (at : ℕ) (r : Result Block DeviceFault) → FlashReads d at r e → ReadAnswer (flash_blocks d) (flash_on d) at r (flash_blocks e) (flash_on e)
reading = cells.reading flash_layout
