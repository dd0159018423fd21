-- What the two devices do. Assumes nothing.
use Rattle.std.specs.Prelude.{◌≡◌, ℕ, true, false, List, drop, Err, vec_items, Result, slice_index_or, slice_set}
use Rattle.std.specs.Vec.Iter.{into_iter_items}
use Rattle.device.specs.Reach.{UnlessRefused}
use Rattle.device.specs.declared.Block.{Block}
use Rattle.device.specs.declared.Block.TheVariants.{Damaged}
use Rattle.device.specs.declared.DeviceFault.{DeviceFault}
use Rattle.device.specs.declared.DeviceFault.TheVariants.{PowerLost}
use Rattle.scripted.specs.Script.{is_done, left_by, outcome_of, answer_by}
use Rattle.scripted.specs.declared.Outcome.{Outcome}
use Rattle.scripted.specs.declared.Scripted.{Scripted}
use Rattle.scripted.specs.declared.losing.Doomed.{Doomed}

abbrev pub scripted_blocks : Scripted → List Block
scripted_blocks d = vec_items d.blocks

-- the outcomes that no access has taken yet
abbrev pub script_left : Scripted → List Outcome
script_left d = into_iter_items d.script

pub record ScriptedRaises (d e : Scripted) : Type 0 where
  pub blocks : e.blocks ≡ d.blocks
  pub script : script_left e ≡ script_left d
  pub on : e.on ≡ true

-- an access takes its outcome o from the script; power stays on exactly where it is done
pub record ReadBy (o : Outcome) (d : Scripted) (at : ℕ) (r : Result Block DeviceFault) (e : Scripted) : Type 0 where
  pub blocks : e.blocks ≡ d.blocks
  pub script : script_left e ≡ drop 1 (script_left d)
  pub on : e.on ≡ is_done o
  pub answer : r ≡ answer_by o (slice_index_or (scripted_blocks d) at Damaged) at

pub record WriteBy (o : Outcome) (d : Scripted) (at : ℕ) (bytes : List ℕ) (r : Result Unit DeviceFault) (e : Scripted) : Type 0 where
  pub blocks : scripted_blocks e ≡ slice_set (scripted_blocks d) at (left_by o (slice_index_or (scripted_blocks d) at Damaged) bytes)
  pub script : script_left e ≡ drop 1 (script_left d)
  pub on : e.on ≡ is_done o
  pub answer : r ≡ answer_by o tt at

abbrev pub ScriptedReads : Scripted → ℕ → Result Block DeviceFault → Scripted → Type 0
ScriptedReads d at r e = UnlessRefused (scripted_blocks d) d.on at (ReadBy (outcome_of (script_left d)) d at r e) r d e

abbrev pub ScriptedWrites : Scripted → ℕ → List ℕ → Result Unit DeviceFault → Scripted → Type 0
ScriptedWrites d at bytes r e = UnlessRefused (scripted_blocks d) d.on at (WriteBy (outcome_of (script_left d)) d at bytes r e) r d e

abbrev pub doomed_blocks : Doomed → List Block
doomed_blocks d = vec_items d.blocks

pub record DoomedRaises (d e : Doomed) : Type 0 where
  pub blocks : e.blocks ≡ d.blocks
  pub on : e.on ≡ true

-- every access loses power
pub record Loses {T : Type 0} (d : Doomed) (at : ℕ) (r : Result T DeviceFault) (e : Doomed) : Type 0 where
  pub blocks : e.blocks ≡ d.blocks
  pub off : e.on ≡ false
  pub answer : r ≡ Err (PowerLost at)

abbrev pub DoomedReads : Doomed → ℕ → Result Block DeviceFault → Doomed → Type 0
DoomedReads d at r e = UnlessRefused (doomed_blocks d) d.on at (Loses d at r e) r d e

abbrev pub DoomedWrites : Doomed → ℕ → List ℕ → Result Unit DeviceFault → Doomed → Type 0
DoomedWrites d at bytes r e = UnlessRefused (doomed_blocks d) d.on at (Loses d at r e) r d e
