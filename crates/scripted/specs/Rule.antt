-- Both devices keep the power rule. Assumes nothing.
use Rattle.std.specs.Prelude.{◌≡◌, ℕ, ◌<◌, true, List, length, vec_items, Result, refl}
use Rattle.std.proofs.Common.{sym, ap, ◌∙◌}
use Rattle.std.proofs.lemmas.List.{set-get_or}
use Rattle.device.specs.declared.Block.{Block}
use Rattle.device.specs.declared.Block.TheVariants.{Damaged}
use Rattle.device.specs.declared.DeviceFault.{DeviceFault}
use Rattle.device.specs.Power.{ReadAnswer, WriteAnswer}
use Rattle.device.specs.Power as power
use Rattle.device.proofs.Answers.{read_same, read_lost, write_done, write_cut, left_before}
use Rattle.device.proofs.Reach.{read_by_reach, write_by_reach}
use Rattle.scripted.specs.Script.{outcome_of}
use Rattle.scripted.specs.Steps.{scripted_blocks, script_left, ReadBy, WriteBy, ScriptedReads, ScriptedWrites, doomed_blocks, Loses, DoomedReads, DoomedWrites}
use Rattle.scripted.specs.declared.Outcome.{Outcome}
use Rattle.scripted.specs.declared.Outcome.TheVariants.{Done, LostBefore, LostWritten, LostTorn}
use Rattle.scripted.specs.declared.Scripted.{Scripted}
use Rattle.scripted.specs.declared.losing.Doomed.{Doomed}

read_by : (o : Outcome) (d e : Scripted) (at : ℕ) (r : Result Block DeviceFault) → d.on ≡ true → at < length (scripted_blocks d) → ReadBy o d at r e → ReadAnswer (scripted_blocks d) d.on at r (scripted_blocks e) e.on
read_by Done d e at r on here w = rw w.answer (read_same on here refl (ap vec_items w.blocks) w.on)
read_by LostBefore d e at r on here w = rw w.answer (read_lost on here refl (ap vec_items w.blocks) w.on)
read_by LostWritten d e at r on here w = rw w.answer (read_lost on here refl (ap vec_items w.blocks) w.on)
read_by LostTorn d e at r on here w = rw w.answer (read_lost on here refl (ap vec_items w.blocks) w.on)

write_by : (o : Outcome) (d e : Scripted) (at : ℕ) (bytes : List ℕ) (r : Result Unit DeviceFault) → d.on ≡ true → at < length (scripted_blocks d) → WriteBy o d at bytes r e → WriteAnswer (scripted_blocks d) d.on at bytes r (scripted_blocks e) e.on
write_by Done d e at bytes r on here w = rw w.answer (write_done on here w.blocks w.on)
write_by LostBefore d e at bytes r on here w = rw w.answer (write_cut on here refl w.blocks power.Left.before w.on)
write_by LostWritten d e at bytes r on here w = rw w.answer (write_cut on here refl w.blocks power.Left.written w.on)
write_by LostTorn d e at bytes r on here w = rw w.answer (write_cut on here refl w.blocks power.Left.torn w.on)

pub scripted_reading : (d e : Scripted) (at : ℕ) (r : Result Block DeviceFault) → ScriptedReads d at r e → ReadAnswer (scripted_blocks d) d.on at r (scripted_blocks e) e.on
scripted_reading d e at r w = read_by_reach scripted_blocks (λ x. x.on) d e at (ReadBy (outcome_of (script_left d)) d at r e) r w (λ on here m. read_by (outcome_of (script_left d)) d e at r on here m)

pub scripted_writing : (d e : Scripted) (at : ℕ) (bytes : List ℕ) (r : Result Unit DeviceFault) → ScriptedWrites d at bytes r e → WriteAnswer (scripted_blocks d) d.on at bytes r (scripted_blocks e) e.on
scripted_writing d e at bytes r w = write_by_reach scripted_blocks (λ x. x.on) d e at (WriteBy (outcome_of (script_left d)) d at bytes r e) bytes r w (λ on here m. write_by (outcome_of (script_left d)) d e at bytes r on here m)

pub doomed_reading : (d e : Doomed) (at : ℕ) (r : Result Block DeviceFault) → DoomedReads d at r e → ReadAnswer (doomed_blocks d) d.on at r (doomed_blocks e) e.on
doomed_reading d e at r w = read_by_reach doomed_blocks (λ x. x.on) d e at (Loses d at r e) r w (λ on here m. rw m.answer (read_lost on here refl (ap vec_items m.blocks) m.off))

pub doomed_writing : (d e : Doomed) (at : ℕ) (bytes : List ℕ) (r : Result Unit DeviceFault) → DoomedWrites d at bytes r e → WriteAnswer (doomed_blocks d) d.on at bytes r (doomed_blocks e) e.on
doomed_writing d e at bytes r w =
    write_by_reach doomed_blocks (λ x. x.on) d e at (Loses d at r e) bytes r w
    (λ on here m. rw m.answer (write_cut on here refl (ap vec_items m.blocks ∙ sym (set-get_or (doomed_blocks d) at Damaged)) (left_before refl) m.off))
