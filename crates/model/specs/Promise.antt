-- The promise over a list of calls, on one list of points: each has a call, its answer, and model and device after it.
use Rattle.std.specs.Prelude.{◌≡◌, ℕ, Bool, true, ◌⊎◌, List, [], ◌∷◌, ◌++◌, map, Result, ◌==◌, nat_le}
use Rattle.device.specs.declared.Block.{Block}
use Rattle.device.specs.declared.DeviceFault.{DeviceFault}
use Rattle.schema.specs.declared.nodes.Node.{Node}
use Rattle.config.specs.declared.entry.Entry.{Entry}
use Rattle.session.specs.Trials.{idle, is_pending, owned_by}
use Rattle.validate.specs.declared.broken.Broken.{Broken}
use Rattle.calls.specs.declared.call.Answer.{Answer}
use Rattle.calls.specs.declared.call.Answer.TheVariants.{Done, Refused}
use Rattle.calls.specs.declared.call.Call.{Call}
use Rattle.calls.specs.declared.call.Call.TheVariants.{Open, Close, Lock, Unlock, Edit, Discard, Validate, Get, Commit, Cancel, Elapse, Restart}
use Rattle.calls.specs.declared.call.CommitKind.TheVariants.{Plain as plain_kind}
use Rattle.calls.specs.declared.faults.EngineFault.{EngineFault}
use Rattle.model.specs.Link.{Linked}
use Rattle.model.specs.Model.{Model, fresh}
use Rattle.model.specs.Rules.{power_lost, Step, Asks}

-- ---- calls of some kind
abbrev pub PlainCommit : Call → Type 0
PlainCommit c = (s : ℕ) × (timeout : ℕ) × (persist : ℕ) × (id : ℕ) × (c ≡ Commit s plain_kind timeout persist id)

abbrev pub LosesPower : Answer → Type 0
LosesPower a = (at : ℕ) × (a ≡ power_lost at)

-- an answer that refuses, and not because power was lost
abbrev pub Rejected : Answer → Type 0
Rejected a = (f : EngineFault) × (a ≡ Refused f) × (LosesPower a → ⊥)

-- what ends a trial by a revert: a performed cancel or restart, an elapse that reaches the seconds left, the owner's close with
-- persist number 0
abbrev pub Ends : Model → Call → Answer → Type 0
Ends m (Open s) a = ⊥
Ends m (Close s) a = (a ≡ Done) × (owned_by m.trial s ≡ true) × ((m.trial.persist == 0) ≡ true)
Ends m (Lock s n) a = ⊥
Ends m (Unlock s n) a = ⊥
Ends m (Edit s o items) a = ⊥
Ends m (Discard s) a = ⊥
Ends m (Validate s n) a = ⊥
Ends m (Get s n room) a = ⊥
Ends m (Commit s kind timeout persist id) a = ⊥
Ends m (Cancel s id) a = a ≡ Done
Ends m (Elapse n) a = (a ≡ Done) × (is_pending m.trial ≡ true) × (nat_le m.trial.seconds n ≡ true)
Ends m Restart a = a ≡ Done

-- what an engine shows of the model: on or off, datastores, sessions, locks and trial; while on the standing configuration too
pub record ShowsModel (x m : Model) : Type 0 where
  pub on_is : x.on ≡ m.on
  pub running_is : x.running ≡ m.running
  pub candidate_is : x.candidate ≡ m.candidate
  pub held_is : x.held ≡ m.held
  pub trial_is : x.trial ≡ m.trial
  pub standing_is : m.on ≡ true → x.standing ≡ m.standing

pub record Point (D : Type 0) : Type 0 where
  pub call : Call
  pub answer : Answer
  pub next : Model
  pub device : D

module _ {D : Type 0} where
  -- model and device at the end of some points
  abbrev pub reached : Model → List (Point D) → Model
  reached m [] = m
  reached m (p ∷ ps) = reached p.next ps

  abbrev pub left_with : D → List (Point D) → D
  left_with d [] = d
  left_with d (p ∷ ps) = left_with p.device ps

  -- at the beginning and after each point
  abbrev pub AtAll : (Model → D → Type 0) → Model → D → List (Point D) → Type 0
  AtAll P m d [] = P m d
  AtAll P m d (p ∷ ps) = P m d × AtAll P p.next p.device ps

  -- no plain commit among these was performed or cut
  pub data Quiet : List (Point D) → Type 0 where
    end : Quiet []
    other : {p : Point D} {ps : List (Point D)} → (PlainCommit p.call → ⊥) → Quiet ps → Quiet (p ∷ ps)
    rejected : {p : Point D} {ps : List (Point D)} → Rejected p.answer → Quiet ps → Quiet (p ∷ ps)

module _ {D : Type 0} (blocks : D → List Block) (powered : D → Bool) (raises : D → D → Type 0) (reads : D → ℕ → Result Block DeviceFault → D → Type 0) (writes : D → ℕ → List ℕ → Result Unit DeviceFault → D → Type 0) (ns : List Node) (verdict : List Entry → Result Unit Broken) where
  -- each point follows from the one before by the rules
  pub data Follows : Model → D → List (Point D) → Type 0 where
    none : {m : Model} {d : D} → Follows m d []
    more : {m : Model} {d : D} {p : Point D} {ps : List (Point D)} → Step ns verdict m p.call p.answer p.next → Asks blocks raises reads writes verdict m p.call p.answer d p.device → Follows p.next p.device ps → Follows m d (p ∷ ps)

  -- es: the formatted configuration; d: the device that format left; x, e: what the engine shows at the end, and its device
  pub record Promise (es : List Entry) (d : D) (calls : List Call) (answers : List Answer) (x : Model) (e : D) : Type 0 where
    pub points : List (Point D)
    -- one point for each call, through exactly these calls and answers, by the rules
    pub calls_are : map (λ (p : Point D). p.call) points ≡ calls
    pub answers_are : map (λ (p : Point D). p.answer) points ≡ answers
    pub follows : Follows (fresh es) d points
    pub device_is : left_with d points ≡ e
    -- the engine shows the last model
    pub shows : ShowsModel x (reached (fresh es) points)
    -- at every point a restart then would give the standing configuration, from blocks and schema alone; the validator accepts
    -- running and the standing configuration; while on and without a trial these are equal
    pub everywhere : AtAll (Linked blocks powered ns verdict) (fresh es) d points
    -- a restart is performed, or refused because power failed in it
    pub restarts : (before later : List (Point D)) (p : Point D) → points ≡ before ++ p ∷ later → p.call ≡ Restart → (p.answer ≡ Done) ⊎ LosesPower p.answer
    -- after a plain commit that power cut, and until another is performed or cut, the standing configuration is the one before it or
    -- its candidate, whole
    pub whole : (before later rest : List (Point D)) (p : Point D) → points ≡ before ++ p ∷ (later ++ rest) → PlainCommit p.call → LosesPower p.answer → Quiet later → ((reached p.next later).standing ≡ (reached (fresh es) before).standing) ⊎ ((reached p.next later).standing ≡ (reached (fresh es) before).candidate)
    -- what ends a trial by a revert leaves none, and running is the standing configuration
    pub ended : (before later : List (Point D)) (p : Point D) → points ≡ before ++ p ∷ later → Ends (reached (fresh es) before) p.call p.answer → (p.next.trial ≡ idle) × (p.next.running ≡ p.next.standing)
