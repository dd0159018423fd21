-- What an answer of the power rule tells. Assumes nothing.
use Rattle.std.proofs.Common.{◌≡◌, ℕ, ◌<◌, Bool, true, false, List, length, get_or, set, Ok, Err, Result, refl, arith, length-set}
use Rattle.device.specs.declared.Block.{Block}
use Rattle.device.specs.declared.Block.TheVariants.{Good, Damaged}
use Rattle.device.specs.declared.DeviceFault.{DeviceFault}
use Rattle.device.specs.declared.DeviceFault.TheVariants.{PowerLost, Refused}
use Rattle.device.specs.Power.{Left, ReadAnswer, WriteAnswer}
use Rattle.device.specs.Power as power

-- a block was read; a block was written
pub record Found (bs : List Block) (at : ℕ) (b : Block) (bs' : List Block) (p' : Bool) : Type 0 where
  pub block : b ≡ get_or bs at Damaged
  pub same : bs' ≡ bs
  pub on : p' ≡ true
  pub there : at < length bs

pub found : {bs bs' : List Block} {p p' : Bool} {at : ℕ} {b : Block} → ReadAnswer bs p at (Ok b) bs' p' → Found bs at b bs' p'
found (power.ReadAnswer.answered h) = record { block = refl; same = refl; on = refl; there = h }

pub record Wrote (bs : List Block) (at : ℕ) (bytes : List ℕ) (bs' : List Block) (p' : Bool) : Type 0 where
  pub blocks : bs' ≡ set bs at (Good bytes)
  pub on : p' ≡ true
  pub there : at < length bs

pub wrote : {bs bs' : List Block} {p p' : Bool} {at : ℕ} {bytes : List ℕ} {u : Unit {0}} → WriteAnswer bs p at bytes (Ok u) bs' p' → Wrote bs at bytes bs' p'
wrote (power.WriteAnswer.done h) = record { blocks = refl; on = refl; there = h }

pub off_answer : {bs bs' : List Block} {p p' : Bool} {at : ℕ} {r : Result Block DeviceFault} → p ≡ false → ReadAnswer bs p at r bs' p' → r ≡ Err Refused
off_answer off (power.ReadAnswer.answered h) = absurd (let z : ◌≡◌ {A = ℕ} 0 1 = cc in omega arith)
off_answer off (power.ReadAnswer.lost h) = absurd (let z : ◌≡◌ {A = ℕ} 0 1 = cc in omega arith)
off_answer off power.ReadAnswer.off = refl
off_answer off (power.ReadAnswer.past h) = refl

pub off_writes : {bs bs' : List Block} {p p' : Bool} {at : ℕ} {bytes : List ℕ} {r : Result Unit DeviceFault} → p ≡ false → WriteAnswer bs p at bytes r bs' p' → r ≡ Err Refused
off_writes off (power.WriteAnswer.done h) = absurd (let z : ◌≡◌ {A = ℕ} 0 1 = cc in omega arith)
off_writes off (power.WriteAnswer.lost h l) = absurd (let z : ◌≡◌ {A = ℕ} 0 1 = cc in omega arith)
off_writes off power.WriteAnswer.off = refl
off_writes off (power.WriteAnswer.past h) = refl

pub length_read : {bs bs' : List Block} {p p' : Bool} {at : ℕ} {r : Result Block DeviceFault} → ReadAnswer bs p at r bs' p' → length bs' ≡ length bs
length_read (power.ReadAnswer.answered h) = refl
length_read (power.ReadAnswer.lost h) = refl
length_read power.ReadAnswer.off = refl
length_read (power.ReadAnswer.past h) = refl

pub length_write : {bs bs' : List Block} {p p' : Bool} {at : ℕ} {bytes : List ℕ} {r : Result Unit DeviceFault} → WriteAnswer bs p at bytes r bs' p' → length bs' ≡ length bs
length_write (power.WriteAnswer.done h) = length-set _ _ _
length_write (power.WriteAnswer.lost h l) = length-set _ _ _
length_write power.WriteAnswer.off = refl
length_write (power.WriteAnswer.past h) = refl

pub ok_is_err : {T : Type 0} {x : T} {f : DeviceFault} → ◌≡◌ {A = Result T DeviceFault} (Ok x) (Err f) → ⊥
ok_is_err e = let z : ◌≡◌ {A = ℕ} 0 1 = cc in omega arith

pub err_is : {T : Type 0} {f h : DeviceFault} → ◌≡◌ {A = Result T DeviceFault} (Err f) (Err h) → f ≡ h
err_is e = cc

-- with power on and the block there, a fault is power lost at it
pub record LostRead (bs : List Block) (at : ℕ) (f : DeviceFault) (bs' : List Block) (p' : Bool) : Type 0 where
  pub fault : f ≡ PowerLost at
  pub same : bs' ≡ bs
  pub off : p' ≡ false

pub lost_read : {bs bs' : List Block} {p p' : Bool} {at : ℕ} {f : DeviceFault} → p ≡ true → at < length bs → ReadAnswer bs p at (Err f) bs' p' → LostRead bs at f bs' p'
lost_read on room (power.ReadAnswer.lost h) = record { fault = refl; same = refl; off = refl }
lost_read on room power.ReadAnswer.off = absurd (let z : ◌≡◌ {A = ℕ} 0 1 = cc in omega arith)
lost_read on room (power.ReadAnswer.past h) = absurd (omega arith)

pub record LostWrite (bs : List Block) (at : ℕ) (bytes : List ℕ) (f : DeviceFault) (bs' : List Block) (p' : Bool) : Type 0 where
  pub fault : f ≡ PowerLost at
  pub block : Block
  pub left : Left (get_or bs at Damaged) bytes block
  pub blocks : bs' ≡ set bs at block
  pub off : p' ≡ false

pub lost_write : {bs bs' : List Block} {p p' : Bool} {at : ℕ} {bytes : List ℕ} {f : DeviceFault} → p ≡ true → at < length bs → WriteAnswer bs p at bytes (Err f) bs' p' → LostWrite bs at bytes f bs' p'
lost_write on room (power.WriteAnswer.lost {b} h l) = record { fault = refl; block = b; left = l; blocks = refl; off = refl }
lost_write on room power.WriteAnswer.off = absurd (let z : ◌≡◌ {A = ℕ} 0 1 = cc in omega arith)
lost_write on room (power.WriteAnswer.past h) = absurd (omega arith)
