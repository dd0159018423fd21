-- What a script makes of an access. Assumes nothing.
use Rattle.std.specs.Prelude.{ℕ, Bool, true, false, cond, List, [], ◌∷◌, Ok, Err, Result}
use Rattle.device.specs.declared.Block.{Block}
use Rattle.device.specs.declared.Block.TheVariants.{Good, Damaged}
use Rattle.device.specs.declared.DeviceFault.{DeviceFault}
use Rattle.device.specs.declared.DeviceFault.TheVariants.{PowerLost}
use Rattle.scripted.specs.declared.Outcome.{Outcome}
use Rattle.scripted.specs.declared.Outcome.TheVariants.{Done, LostBefore, LostWritten, LostTorn}

abbrev pub is_done : Outcome → Bool
is_done Done = true
is_done LostBefore = false
is_done LostWritten = false
is_done LostTorn = false

-- what a write leaves of its block
abbrev pub left_by : Outcome → Block → List ℕ → Block
left_by Done old bytes = Good bytes
left_by LostBefore old bytes = old
left_by LostWritten old bytes = Good bytes
left_by LostTorn old bytes = Damaged

-- the outcome of the next access: past the end of the script all are done
abbrev pub outcome_of : List Outcome → Outcome
outcome_of [] = Done
outcome_of (o ∷ os) = o

-- the answer, with what is answered where the access is done
abbrev pub answer_by : {T : Type 0} → Outcome → T → ℕ → Result T DeviceFault
answer_by o x at = cond (is_done o) (Ok x) (Err (PowerLost at))
