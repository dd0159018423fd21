-- The ways of the power rule from equations, for the proof of a device. Assumes nothing.
use Rattle.std.proofs.Common.{◌≡◌, ℕ, ◌<◌, ◌≤◌, Bool, true, false, ◌⊎◌, List, length, get_or, set, Ok, Err, inl, inr, arith}
use Rattle.device.specs.declared.Block.{Block}
use Rattle.device.specs.declared.Block.TheVariants.{Good, Damaged}
use Rattle.device.specs.declared.DeviceFault.{DeviceFault}
use Rattle.device.specs.declared.DeviceFault.TheVariants.{PowerLost, Refused}
use Rattle.device.specs.Power.{Left, ReadAnswer, WriteAnswer}
use Rattle.device.specs.Power as power

pub read_refused : (bs : List Block) (p : Bool) (at : ℕ) → (p ≡ false) ⊎ (length bs ≤ at) → ReadAnswer bs p at (Err Refused) bs p
read_refused bs false at h = power.ReadAnswer.off
read_refused bs true at (inl e) = absurd (let z : ◌≡◌ {A = ℕ} 0 1 = cc in omega arith)
read_refused bs true at (inr h) = power.ReadAnswer.past h

pub read_answered : {bs : List Block} {p : Bool} {at : ℕ} {b : Block} → p ≡ true → at < length bs → b ≡ get_or bs at Damaged → ReadAnswer bs p at (Ok b) bs p
read_answered on there e = rw (on, e) (power.ReadAnswer.answered there)

pub read_same : {bs bs' : List Block} {p p' : Bool} {at : ℕ} {b : Block} → p ≡ true → at < length bs → b ≡ get_or bs at Damaged → bs' ≡ bs → p' ≡ true → ReadAnswer bs p at (Ok b) bs' p'
read_same on there e same still = rw (on, e, same, still) (power.ReadAnswer.answered there)

pub read_lost : {bs bs' : List Block} {p p' : Bool} {at : ℕ} {f : DeviceFault} → p ≡ true → at < length bs → f ≡ PowerLost at → bs' ≡ bs → p' ≡ false → ReadAnswer bs p at (Err f) bs' p'
read_lost on there e same off = rw (on, e, same, off) (power.ReadAnswer.lost there)

pub write_refused : (bs : List Block) (p : Bool) (at : ℕ) (bytes : List ℕ) → (p ≡ false) ⊎ (length bs ≤ at) → WriteAnswer bs p at bytes (Err Refused) bs p
write_refused bs false at bytes h = power.WriteAnswer.off
write_refused bs true at bytes (inl e) = absurd (let z : ◌≡◌ {A = ℕ} 0 1 = cc in omega arith)
write_refused bs true at bytes (inr h) = power.WriteAnswer.past h

pub write_done : {bs bs' : List Block} {p p' : Bool} {at : ℕ} {bytes : List ℕ} → p ≡ true → at < length bs → bs' ≡ set bs at (Good bytes) → p' ≡ true → WriteAnswer bs p at bytes (Ok tt) bs' p'
write_done on there e still = rw (on, e, still) (power.WriteAnswer.done there)

pub write_lost : {bs bs' : List Block} {p p' : Bool} {at : ℕ} {bytes : List ℕ} {b : Block} → p ≡ true → at < length bs → bs' ≡ set bs at b → Left (get_or bs at Damaged) bytes b → p' ≡ false → WriteAnswer bs p at bytes (Err (PowerLost at)) bs' p'
write_lost on there e left off = rw (on, e, off) (power.WriteAnswer.lost there left)

pub write_cut : {bs bs' : List Block} {p p' : Bool} {at : ℕ} {bytes : List ℕ} {b : Block} {f : DeviceFault} → p ≡ true → at < length bs → f ≡ PowerLost at → bs' ≡ set bs at b → Left (get_or bs at Damaged) bytes b → p' ≡ false → WriteAnswer bs p at bytes (Err f) bs' p'
write_cut on there e is left off = rw (on, e, is, off) (power.WriteAnswer.lost there left)

pub left_before : {old b : Block} {bytes : List ℕ} → b ≡ old → Left old bytes b
left_before e = rw e power.Left.before

pub left_written : {old b : Block} {bytes : List ℕ} → b ≡ Good bytes → Left old bytes b
left_written e = rw e power.Left.written

pub left_torn : {old b : Block} {bytes : List ℕ} → b ≡ Damaged → Left old bytes b
left_torn e = rw e power.Left.torn
