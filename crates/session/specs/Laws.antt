-- Sessions, locks and trials in the subject's own words.
use Rattle.std.specs.Prelude.{◌≡◌, ℕ, ◌+◌, ◌-◌, ◌<◌, ◌≤◌, true, false, List, [], ◌∷◌, map, ◌≢◌}
use Rattle.session.specs.Locks.{Held, closed, holder, holds, is_locked, is_open, opened}
use Rattle.session.specs.Meaning.{held_of, trial_of}
use Rattle.session.specs.Trials.{Happening, Pending, close, elapse, idle, is_pending, outcome_of, owned_by, trial_after}
use Rattle.session.specs.declared.event.Outcome.{Outcome}
use Rattle.session.specs.declared.event.Outcome.TheVariants.{Nothing, Reverted, Confirmed}
use Rattle.session.specs.declared.sessions.Sessions.{Sessions}
use Rattle.session.specs.declared.trial.Trial.{Trial}

-- ---- what always holds
-- a lock is held by an open session
abbrev pub OpenHolds : Held → Type 0
OpenHolds h = (d : ℕ) → is_locked h d ≡ true → is_open h (holder h d) ≡ true

-- A trial has 1 to 86,400 seconds left and, unless it has a persist number, an owner. Without a trial all is 0.
pub record Sound (t : Pending) : Type 0 where
  pub most : t.seconds ≤ 86400
  pub none : is_pending t ≡ false → t ≡ idle
  pub bound : is_pending t ≡ true → t.owner ≡ 0 → t.persist ≢ 0

pub record Always : Type 0 where
  pub locks : (h : Sessions) → OpenHolds (held_of h)
  pub trials : (t : Trial) → Sound (trial_of t)

-- ---- a session that is closed
-- It is not open, holds no lock and owns no trial, also once it is open again.
pub record LeftNothing (h : Held) (t : Pending) (s : ℕ) : Type 0 where
  pub shut : is_open (closed h s) s ≡ false
  pub locks : (d : ℕ) → holds (opened (closed h s) s) s d ≡ false
  pub trial : owned_by (trial_after t (close s)) s ≡ false

-- Another session is open as before and holds the same locks.
pub record LeftAlone (h : Held) (s s' : ℕ) : Type 0 where
  pub opens : is_open (closed h s) s' ≡ is_open h s'
  pub locks : (d : ℕ) → holds (closed h s) s' d ≡ holds h s' d

-- The session loses what it has, another keeps what it has, and a trial that is not the session's stays.
pub record Closes (h : Held) (t : Pending) (s : ℕ) : Type 0 where
  pub itself : LeftNothing h t s
  pub others : (s' : ℕ) → 1 ≤ s' → (s' ≢ s) → LeftAlone h s s'
  pub trial : owned_by t s ≡ false → trial_after t (close s) ≡ t

abbrev pub CloseTakesItsOwn : Type 0
CloseTakesItsOwn = (h : Held) (t : Pending) (s : ℕ) → 1 ≤ s → Closes h t s

-- ---- a trial that time runs out on
-- the trial after all that happens
abbrev pub after_all : Pending → List Happening → Pending
after_all t [] = t
after_all t (e ∷ es) = after_all (trial_after t e) es

abbrev pub reverts : Outcome → ℕ
reverts Nothing = 0
reverts Reverted = 1
reverts Confirmed = 0

-- how often it reverts meanwhile
abbrev pub all_reverts : Pending → List Happening → ℕ
all_reverts t [] = 0
all_reverts t (e ∷ es) = reverts (outcome_of t e) + all_reverts (trial_after t e) es

-- the seconds that pass in all
abbrev pub total : List ℕ → ℕ
total [] = 0
total (n ∷ ns) = n + total ns

-- the trial, with so many seconds less
abbrev pub less : Pending → ℕ → Pending
less t n = record { owner = t.owner; persist = t.persist; seconds = t.seconds - n }

-- Seconds pass, ns one after the other: while they are fewer than those left, the seconds fall by just as many; once they
-- are as many or more, the trial has ended, and it has reverted once.
pub record RunsOut (t : Pending) (ns : List ℕ) : Type 0 where
  pub fewer : total ns < t.seconds → (after_all t (map elapse ns) ≡ less t (total ns)) × (all_reverts t (map elapse ns) ≡ 0)
  pub spent : is_pending t ≡ true → t.seconds ≤ total ns → (after_all t (map elapse ns) ≡ idle) × (all_reverts t (map elapse ns) ≡ 1)

abbrev pub TrialsRunOut : Type 0
TrialsRunOut = (t : Pending) (ns : List ℕ) → RunsOut t ns
