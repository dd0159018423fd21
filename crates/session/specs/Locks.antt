-- Open sessions and locks, as plain numbers.
use Rattle.std.specs.Prelude.{ℕ, ◌-◌, Bool, true, false, cond, not, ◌&&◌, List, replicate, ◌==◌, slice_index_or, slice_set}

-- Which sessions are open, session 1 first, and the session that holds the lock of each datastore, 0 for nobody.
pub record Held : Type 0 where
  pub sessions : List Bool
  pub running : ℕ
  pub candidate : ℕ

-- no session is open, and nothing is locked
abbrev pub nobody : Held
nobody = record { sessions = replicate 8 false; running = 0; candidate = 0 }

abbrev pub is_open : Held → ℕ → Bool
is_open h s = slice_index_or h.sessions (s - 1) false

-- the session is open, and the rest stays
abbrev pub opened : Held → ℕ → Held
opened h s =
    record { sessions = slice_set h.sessions (s - 1) true; running = h.running; candidate = h.candidate }

-- who holds a lock once a session has released it: nobody if that session held it, else who held it before
abbrev pub released : ℕ → ℕ → ℕ
released holder s = cond (holder == s) 0 holder

-- the session is not open, and both of its locks are released
abbrev pub closed : Held → ℕ → Held
closed h s =
    record { sessions = slice_set h.sessions (s - 1) false; running = released h.running s; candidate = released h.candidate s }

-- ---- one lock, by the number of its datastore: 1 running, 2 candidate
-- who holds it, 0 for nobody
abbrev pub holder : Held → ℕ → ℕ
holder h d = cond (d == 1) h.running h.candidate

abbrev pub is_locked : Held → ℕ → Bool
is_locked h d = not (holder h d == 0)

-- the session holds it
abbrev pub holds : Held → ℕ → ℕ → Bool
holds h s d = holder h d == s

-- a session other than this one holds it
abbrev pub locked_elsewhere : Held → ℕ → ℕ → Bool
locked_elsewhere h s d = is_locked h d && not (holds h s d)

-- it has this holder, and the rest stays
abbrev pub with_holder : Held → ℕ → ℕ → Held
with_holder h d s =
    record { sessions = h.sessions; running = cond (d == 1) s h.running; candidate = cond (d == 1) h.candidate s }

-- an open session becomes its holder; for a session that is not open nothing changes
abbrev pub locked : Held → ℕ → ℕ → Held
locked h s d = cond (is_open h s) (with_holder h d s) h

-- it is released if the session holds it, else nothing changes
abbrev pub unlocked : Held → ℕ → ℕ → Held
unlocked h s d = cond (holds h s d) (with_holder h d 0) h
