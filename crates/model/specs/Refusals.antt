-- When a call is refused: for each call the refusals in their order, each with its condition. The first whose condition holds is
-- the answer.
use Rattle.std.specs.Prelude.{ℕ, Bool, cond, not, ◌&&◌, ◌||◌, List, [], ◌∷◌, is_some, Some, None, Ok, Err, Option, Result, ◌==◌, nat_lt}
use Rattle.session.specs.Numbers.{is_session, is_datastore}
use Rattle.session.specs.Locks.{is_open, is_locked, holds, locked_elsewhere}
use Rattle.session.specs.Trials.{is_pending, is_timeout, owned_elsewhere, bound_elsewhere, persist_differs}
use Rattle.edit.specs.declared.option.ErrorOption.{ErrorOption}
use Rattle.edit.specs.declared.option.ErrorOption.TheVariants.{Stop, Continue, Rollback}
use Rattle.validate.specs.declared.broken.Broken.{Broken}
use Rattle.calls.specs.declared.call.CommitKind.{CommitKind}
use Rattle.calls.specs.declared.call.CommitKind.TheVariants.{Plain as plain_kind, Confirmed}
use Rattle.calls.specs.declared.faults.Refusal.{Refusal}
use Rattle.calls.specs.declared.faults.Refusal.TheVariants.{EditList, SessionNumber, DatastoreNumber, OptionNumber, CommitNumbers, TooManySeconds, ShortOutput, EngineOff, SessionNotOpen, LockedElsewhere, AlreadyLocked, CandidateModified, TrialElsewhere, TrialBound, PersistDiffers, NoTrial, SessionOpen, LockNotHeld}
use Rattle.calls.specs.declared.faults.EngineFault.{EngineFault}
use Rattle.calls.specs.declared.faults.EngineFault.TheVariants.{Plain, Invalid}
use Rattle.model.specs.Model.{Model, modified}

abbrev pub Rows : Type 0
Rows = List (Bool × Refusal)

abbrev pub first : Rows → Option EngineFault
first [] = None
first (row ∷ rest) = cond row.0 (Some (Plain row.1)) (first rest)

-- the validator's no, unless something was refused before it
abbrev pub or_invalid : Option EngineFault → Result Unit Broken → Option EngineFault
or_invalid (Some f) v = Some f
or_invalid None (Ok done) = None
or_invalid None (Err b) = Some (Invalid b)

-- the engine is off, or the session is not open
abbrev pub unless_open : Model → ℕ → Rows → Rows
unless_open m s rest = (not m.on, EngineOff) ∷ (not (is_open m.held s), SessionNotOpen) ∷ rest

-- an error option by its number
abbrev pub option_at : ℕ → Option ErrorOption
option_at n = cond (n == 1) (Some Stop) (cond (n == 2) (Some Continue) (cond (n == 3) (Some Rollback) None))

-- a plain commit has neither timeout nor persist number, a confirmed one a timeout
abbrev pub of_kind : CommitKind → ℕ → ℕ → Bool
of_kind plain_kind timeout persist = timeout == 0 && persist == 0
of_kind Confirmed timeout persist = is_timeout timeout

abbrev pub open_refusals : Model → ℕ → Rows
open_refusals m s = (not (is_session s), SessionNumber) ∷ (not m.on, EngineOff) ∷ (is_open m.held s, SessionOpen) ∷ []

abbrev pub close_refusals : Model → ℕ → Rows
close_refusals m s = (not (is_session s), SessionNumber) ∷ unless_open m s []

-- held by anybody; a modified candidate; running during a trial that another session or nobody owns
abbrev pub lock_refusals : Model → ℕ → ℕ → Rows
lock_refusals m s d =
    (not (is_session s), SessionNumber)
    ∷ (not (is_datastore d), DatastoreNumber)
    ∷ unless_open m s
    ((is_locked m.held d, AlreadyLocked)
    ∷ (d == 2 && modified m, CandidateModified)
    ∷ (d == 1 && owned_elsewhere m.trial s, TrialElsewhere)
    ∷ [])

abbrev pub unlock_refusals : Model → ℕ → ℕ → Rows
unlock_refusals m s d =
    (not (is_session s), SessionNumber) ∷ (not (is_datastore d), DatastoreNumber) ∷ unless_open m s ((not (holds m.held s d), LockNotHeld) ∷ [])

-- listed: the bytes are an edit list
abbrev pub edit_refusals : Model → ℕ → ℕ → Bool → Rows
edit_refusals m s o listed =
    (not listed, EditList)
    ∷ (not (is_session s), SessionNumber)
    ∷ (not (is_some (option_at o)), OptionNumber)
    ∷ unless_open m s ((locked_elsewhere m.held s 2, LockedElsewhere) ∷ [])

abbrev pub discard_refusals : Model → ℕ → Rows
discard_refusals m s = (not (is_session s), SessionNumber) ∷ unless_open m s ((locked_elsewhere m.held s 2, LockedElsewhere) ∷ [])

abbrev pub validate_refusals : Model → ℕ → ℕ → Rows
validate_refusals m s d = (not (is_session s), SessionNumber) ∷ (not (is_datastore d), DatastoreNumber) ∷ unless_open m s []

abbrev pub get_refusals : Model → ℕ → ℕ → ℕ → Rows
get_refusals m s d room =
    (not (is_session s), SessionNumber) ∷ (not (is_datastore d), DatastoreNumber) ∷ (nat_lt room 769, ShortOutput) ∷ unless_open m s []

-- Both kinds need running and candidate free of others' locks. A trial with persist number 0 is its owner's; any other asks for its
-- persist number, and without a trial that is 0.
abbrev pub commit_refusals : Model → ℕ → CommitKind → ℕ → ℕ → ℕ → Rows
commit_refusals m s kind timeout persist id =
    (not (is_session s), SessionNumber)
    ∷ (not (of_kind kind timeout persist), CommitNumbers)
    ∷ unless_open m s
    ((locked_elsewhere m.held s 1 || locked_elsewhere m.held s 2, LockedElsewhere)
    ∷ (bound_elsewhere m.trial s, TrialBound)
    ∷ (persist_differs m.trial id, PersistDiffers)
    ∷ [])

abbrev pub cancel_refusals : Model → ℕ → ℕ → Rows
cancel_refusals m s id =
    (not (is_session s), SessionNumber)
    ∷ unless_open m s
    ((locked_elsewhere m.held s 1, LockedElsewhere)
    ∷ (bound_elsewhere m.trial s, TrialBound)
    ∷ (is_pending m.trial && persist_differs m.trial id, PersistDiffers)
    ∷ (not (is_pending m.trial), NoTrial)
    ∷ [])

abbrev pub elapse_refusals : Model → ℕ → Rows
elapse_refusals m n = (nat_lt 1000000 n, TooManySeconds) ∷ (not m.on, EngineOff) ∷ []
