-- The state that the rules speak of. Words:
--   standing    the configuration that a restart gives
--   trial       a confirmed commit that waits for its confirmation: owner, persist number, seconds left
use Rattle.std.specs.Prelude.{ℕ, Bool, true, false, cond, not, ◌&&◌, List, [], ◌∷◌, ◌==◌}
use Rattle.std.specs.Str.{bytes_eq}
use Rattle.config.specs.Order.{numbers}
use Rattle.config.specs.declared.entry.Entry.{Entry}
use Rattle.session.specs.Locks.{Held, nobody}
use Rattle.session.specs.Trials.{Pending, idle}

pub record Model : Type 0 where
  pub on : Bool
  pub standing : List Entry
  pub running : List Entry
  pub candidate : List Entry
  pub held : Held
  pub trial : Pending

-- the contents of a datastore by its number: 1 running, 2 candidate
abbrev pub contents : Model → ℕ → List Entry
contents m d = cond (d == 1) m.running m.candidate

-- ---- two configurations are the same
abbrev pub same_entry : Entry → Entry → Bool
same_entry e f = bytes_eq (numbers e.path) (numbers f.path) && e.value == f.value

abbrev pub same_entries : List Entry → List Entry → Bool
same_entries [] [] = true
same_entries [] (f ∷ fs) = false
same_entries (e ∷ es) [] = false
same_entries (e ∷ es) (f ∷ fs) = same_entry e f && same_entries es fs

-- the candidate differs from running
abbrev pub modified : Model → Bool
modified m = not (same_entries m.candidate m.running)

-- ---- the model with some of it changed, and the rest as it was
abbrev pub with_on : Model → Bool → Model
with_on m b = record { on = b; standing = m.standing; running = m.running; candidate = m.candidate; held = m.held; trial = m.trial }

abbrev pub with_held : Model → Held → Model
with_held m h = record { on = m.on; standing = m.standing; running = m.running; candidate = m.candidate; held = h; trial = m.trial }

abbrev pub with_candidate : Model → List Entry → Model
with_candidate m es = record { on = m.on; standing = m.standing; running = m.running; candidate = es; held = m.held; trial = m.trial }

abbrev pub with_running : Model → List Entry → Model
with_running m es = record { on = m.on; standing = m.standing; running = es; candidate = m.candidate; held = m.held; trial = m.trial }

abbrev pub with_trial : Model → Pending → Model
with_trial m t = record { on = m.on; standing = m.standing; running = m.running; candidate = m.candidate; held = m.held; trial = t }

abbrev pub with_standing : Model → List Entry → Model
with_standing m es = record { on = m.on; standing = es; running = m.running; candidate = m.candidate; held = m.held; trial = m.trial }

-- an engine that is on, with one configuration in all places, no session, no lock and no trial
abbrev pub fresh : List Entry → Model
fresh es = record { on = true; standing = es; running = es; candidate = es; held = nobody; trial = idle }
