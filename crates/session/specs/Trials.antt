-- The trial, a confirmed commit that waits for its confirmation, as plain numbers.
use Rattle.std.specs.Prelude.{ℕ, ◌-◌, Bool, cond, not, ◌&&◌, ◌==◌, nat_le, nat_lt}
use Rattle.session.specs.declared.event.Outcome.{Outcome}
use Rattle.session.specs.declared.event.Outcome.TheVariants.{Nothing, Reverted, Confirmed}

-- The session that owns the trial, 0 for nobody, its persist number and the seconds left; all 0 without a trial.
pub record Pending : Type 0 where
  pub owner : ℕ
  pub persist : ℕ
  pub seconds : ℕ

-- no trial
abbrev pub idle : Pending
idle = record { owner = 0; persist = 0; seconds = 0 }

abbrev pub is_pending : Pending → Bool
is_pending t = nat_lt 0 t.seconds

-- ---- what happens to it
pub data Happening : Type 0 where
  -- a confirmed commit by a session, with timeout and persist number
  begin : (s timeout persist : ℕ) → Happening
  -- a plain commit
  confirm : Happening
  cancel : Happening
  -- so many seconds pass
  elapse : ℕ → Happening
  -- a session is closed
  close : ℕ → Happening

-- a timeout is 1 to 86,400 seconds
abbrev pub is_timeout : ℕ → Bool
is_timeout n = nat_le 1 n && nat_le n 86400

-- owner, persist number and seconds are set anew, also during a trial
abbrev pub started : Pending → ℕ → ℕ → ℕ → Pending
started t s timeout persist = cond (is_timeout timeout) (record { owner = s; persist = persist; seconds = timeout }) t

-- the seconds are fewer by so many, and with none left the trial ends
abbrev pub elapsed : Pending → ℕ → Pending
elapsed t n =
    cond (nat_lt n t.seconds) (record { owner = t.owner; persist = t.persist; seconds = t.seconds - n }) idle

-- the session owns the trial
abbrev pub owned_by : Pending → ℕ → Bool
owned_by t s = is_pending t && t.owner == s

-- with persist number 0 the trial ends as its owner is closed, with another it goes on and nobody owns it
abbrev pub left_by : Pending → ℕ → Pending
left_by t s =
    cond (owned_by t s) (cond (t.persist == 0) idle (record { owner = 0; persist = t.persist; seconds = t.seconds })) t

abbrev pub trial_after : Pending → Happening → Pending
trial_after t (begin s timeout persist) = started t s timeout persist
trial_after t confirm = idle
trial_after t cancel = idle
trial_after t (elapse n) = elapsed t n
trial_after t (close s) = left_by t s

-- Reverted: running goes back to the standing configuration. Confirmed: it stays.
abbrev pub outcome_of : Pending → Happening → Outcome
outcome_of t (begin s timeout persist) = Nothing
outcome_of t confirm = cond (is_pending t) Confirmed Nothing
outcome_of t cancel = cond (is_pending t) Reverted Nothing
outcome_of t (elapse n) = cond (is_pending t && nat_le t.seconds n) Reverted Nothing
outcome_of t (close s) = cond (owned_by t s && t.persist == 0) Reverted Nothing

-- ---- whom it hinders
-- there is a trial that another session or nobody owns
abbrev pub owned_elsewhere : Pending → ℕ → Bool
owned_elsewhere t s = is_pending t && not (t.owner == s)

-- there is a trial with persist number 0 that is another session's
abbrev pub bound_elsewhere : Pending → ℕ → Bool
bound_elsewhere t s = t.persist == 0 && owned_elsewhere t s

-- the persist number given is not the trial's, or without a trial not 0
abbrev pub persist_differs : Pending → ℕ → Bool
persist_differs t n = cond (is_pending t) (not (t.persist == n)) (not (n == 0))
