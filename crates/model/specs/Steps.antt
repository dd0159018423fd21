-- What the calls do that ask nothing of the device. `ns` are the nodes of the schema, `verdict` is the validator's meaning.
use Rattle.std.specs.Prelude.{◌≡◌, ℕ, ◌-◌, ◌≤◌, List, ◌++◌, length, replicate, is_some, Some, None, Option, Result, ◌≢◌, slice_index_or}
use Rattle.schema.specs.declared.nodes.Node.{Node}
use Rattle.config.specs.Images.{image}
use Rattle.config.specs.declared.entry.Entry.{Entry}
use Rattle.session.specs.Locks.{opened, closed, locked, unlocked}
use Rattle.session.specs.Trials.{Happening, begin, cancel, elapse, close, trial_after, outcome_of}
use Rattle.session.specs.declared.event.Outcome.{Outcome}
use Rattle.session.specs.declared.event.Outcome.TheVariants.{Nothing, Reverted, Confirmed}
use Rattle.edit.specs.Does.{does}
use Rattle.edit.specs.Lists.{edit_bytes}
use Rattle.edit.specs.Options.{first_refused, kept, left}
use Rattle.edit.specs.declared.faults.ItemFault.{ItemFault}
use Rattle.edit.specs.declared.item.Item.{Item}
use Rattle.edit.specs.declared.option.ErrorOption.{ErrorOption}
use Rattle.validate.specs.declared.broken.Broken.{Broken}
use Rattle.calls.specs.declared.call.Answer.{Answer}
use Rattle.calls.specs.declared.call.Answer.TheVariants.{Done, Shown, Refused}
use Rattle.calls.specs.declared.call.CommitKind.TheVariants.{Confirmed as confirmed_kind}
use Rattle.calls.specs.declared.call.Image.{Image}
use Rattle.calls.specs.declared.faults.EngineFault.{EngineFault}
use Rattle.calls.specs.declared.faults.EngineFault.TheVariants.{Item as at_item}
use Rattle.model.specs.Model.{Model, contents, with_held, with_candidate, with_running, with_trial}
use Rattle.model.specs.Refusals.{first, or_invalid, option_at, open_refusals, close_refusals, lock_refusals, unlock_refusals, edit_refusals, discard_refusals, validate_refusals, get_refusals, commit_refusals, cancel_refusals, elapse_refusals}

-- refused by this fault, and nothing changes; or done, and the model is this one
abbrev pub Judged : Option EngineFault → Model → Model → Answer → Model → Type 0
Judged (Some f) m done a m' = (a ≡ Refused f) × (m' ≡ m)
Judged None m done a m' = (a ≡ Done) × (m' ≡ done)

-- ---- sessions and locks
abbrev pub Opens : Model → ℕ → Answer → Model → Type 0
Opens m s a m' = Judged (first (open_refusals m s)) m (with_held m (opened m.held s)) a m'

abbrev pub Locks : Model → ℕ → ℕ → Answer → Model → Type 0
Locks m s d a m' = Judged (first (lock_refusals m s d)) m (with_held m (locked m.held s d)) a m'

-- a released candidate keeps its contents
abbrev pub Unlocks : Model → ℕ → ℕ → Answer → Model → Type 0
Unlocks m s d a m' = Judged (first (unlock_refusals m s d)) m (with_held m (unlocked m.held s d)) a m'

-- ---- what an event of the trial does: where it reverts, running becomes the standing configuration; the candidate stays
abbrev pub by_outcome : Outcome → Model → List Entry
by_outcome Nothing m = m.running
by_outcome Reverted m = m.standing
by_outcome Confirmed m = m.running

abbrev pub after_event : Model → Happening → Model
after_event m e = with_trial (with_running m (by_outcome (outcome_of m.trial e) m)) (trial_after m.trial e)

-- the session's locks are released, and its trial reverts or goes on without an owner
abbrev pub Closes : Model → ℕ → Answer → Model → Type 0
Closes m s a m' = Judged (first (close_refusals m s)) m (with_held (after_event m (close s)) (closed m.held s)) a m'

abbrev pub Cancels : Model → ℕ → ℕ → Answer → Model → Type 0
Cancels m s id a m' = Judged (first (cancel_refusals m s id)) m (after_event m cancel) a m'

abbrev pub Elapses : Model → ℕ → Answer → Model → Type 0
Elapses m n a m' = Judged (first (elapse_refusals m n)) m (after_event m (elapse n)) a m'

-- ---- edits
-- bytes are the edit list of these items, at most 16, or of none
abbrev pub ReadAs : List ℕ → Option (List Item) → Type 0
ReadAs bytes (Some is) = (length is ≤ 16) × (bytes ≡ edit_bytes is)
ReadAs bytes None = (is : List Item) → length is ≤ 16 → bytes ≢ edit_bytes is

abbrev pub no_item : Item
no_item = record { operation = 0; path = record { node = 0; k1 = 0; k2 = 0 }; value = 0 }

-- the answer to the items: done, or the first refused one with its position, how many were kept and its path
abbrev pub edit_answer : List Node → ErrorOption → List Entry → List Item → Option (ℕ × ItemFault) → Answer
edit_answer ns o es is None = Done
edit_answer ns o es is (Some (at, f)) =
    Refused (at_item (record { fault = f; item = at; kept = kept (does ns) o es is at; path = (slice_index_or is (at - 1) no_item).path }))

-- the option leaves its items in the candidate, whether one was refused or not
abbrev pub EditsItems : List Node → Model → Option ErrorOption → Option (List Item) → Answer → Model → Type 0
EditsItems ns m None items a m' = ⊥
EditsItems ns m (Some o) None a m' = ⊥
EditsItems ns m (Some o) (Some is) a m' =
    (a ≡ edit_answer ns o m.candidate is (first_refused (does ns) m.candidate is))
    × (m' ≡ with_candidate m (left (does ns) o m.candidate is))

abbrev pub EditsUnless : Option EngineFault → List Node → Model → ℕ → Option (List Item) → Answer → Model → Type 0
EditsUnless (Some f) ns m o items a m' = (a ≡ Refused f) × (m' ≡ m)
EditsUnless None ns m o items a m' = EditsItems ns m (option_at o) items a m'

pub record Edits (ns : List Node) (m : Model) (s o : ℕ) (bytes : List ℕ) (a : Answer) (m' : Model) : Type 0 where
  pub items : Option (List Item)
  pub are : ReadAs bytes items
  pub answer : EditsUnless (first (edit_refusals m s o (is_some items))) ns m o items a m'

abbrev pub Discards : Model → ℕ → Answer → Model → Type 0
Discards m s a m' = Judged (first (discard_refusals m s)) m (with_candidate m m.running) a m'

-- ---- looking at a datastore
abbrev pub Validates : (List Entry → Result Unit Broken) → Model → ℕ → ℕ → Answer → Model → Type 0
Validates verdict m s d a m' = Judged (or_invalid (first (validate_refusals m s d)) (verdict (contents m d))) m m a m'

-- the image in front of 769 bytes, and zeros behind it
pub record Shows (es : List Entry) (i : Image) : Type 0 where
  pub length_is : i.length ≡ length (image es)
  pub bytes_are : i.bytes ≡ image es ++ replicate (769 - length (image es)) 0

abbrev pub ShownAs : List Entry → Answer → Type 0
ShownAs es Done = ⊥
ShownAs es (Shown i) = Shows es i
ShownAs es (Refused f) = ⊥

abbrev pub GetsUnless : Option EngineFault → Model → ℕ → Answer → Model → Type 0
GetsUnless (Some f) m d a m' = (a ≡ Refused f) × (m' ≡ m)
GetsUnless None m d a m' = ShownAs (contents m d) a × (m' ≡ m)

abbrev pub Gets : Model → ℕ → ℕ → ℕ → Answer → Model → Type 0
Gets m s d room a m' = GetsUnless (first (get_refusals m s d room)) m d a m'

-- ---- a confirmed commit: running becomes the candidate, nothing is stored, and the trial begins, or begins anew
abbrev pub Tries : (List Entry → Result Unit Broken) → Model → ℕ → ℕ → ℕ → ℕ → Answer → Model → Type 0
Tries verdict m s timeout persist id a m' =
    Judged (or_invalid (first (commit_refusals m s confirmed_kind timeout persist id)) (verdict m.candidate))
    m (with_trial (with_running m m.candidate) (trial_after m.trial (begin s timeout persist))) a m'
