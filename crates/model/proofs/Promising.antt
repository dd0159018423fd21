-- The promise from the points of a run.
use Rattle.std.proofs.Common.{◌≡◌, ℕ, ◌-◌, Bool, true, false, cond, not, ◌&&◌, eqb, leb, ◌⊎◌, List, [], ◌∷◌, ◌++◌, map, Some, None, Option, Result, sym, refl, ap, ◌∙◌, subst, inl, inr, arith}
use Rattle.std.proofs.lemmas.Bool.{leb-true, le-ltb}
use Rattle.device.specs.declared.Block.{Block}
use Rattle.device.specs.declared.DeviceFault.{DeviceFault}
use Rattle.schema.specs.declared.nodes.Node.{Node}
use Rattle.config.specs.declared.entry.Entry.{Entry}
use Rattle.edit.specs.declared.item.Item.{Item}
use Rattle.edit.specs.declared.option.ErrorOption.{ErrorOption}
use Rattle.session.specs.Locks.{is_open, locked_elsewhere}
use Rattle.session.specs.Numbers.{is_session}
use Rattle.session.specs.Trials.{Pending, Happening, cancel, close, elapse, idle, is_pending, outcome_of, bound_elsewhere, persist_differs, trial_after}
use Rattle.session.specs.declared.event.Outcome.{Outcome}
use Rattle.session.specs.declared.event.Outcome.TheVariants.{Nothing, Reverted}
use Rattle.validate.specs.declared.broken.Broken.{Broken}
use Rattle.calls.specs.declared.call.Answer.{Answer}
use Rattle.calls.specs.declared.call.Answer.TheVariants.{Done}
use Rattle.calls.specs.declared.call.Call.{Call}
use Rattle.calls.specs.declared.call.Call.TheVariants.{Open, Close, Lock, Unlock, Edit, Discard, Validate, Get, Commit, Cancel, Elapse, Restart}
use Rattle.calls.specs.declared.call.CommitKind.TheVariants.{Plain as plain_kind, Confirmed as confirmed_kind}
use Rattle.calls.specs.declared.faults.EngineFault.{EngineFault}
use Rattle.calls.specs.declared.faults.EngineFault.TheVariants.{Plain}
use Rattle.calls.specs.declared.faults.Refusal.TheVariants.{SessionNumber, EngineOff, SessionNotOpen, LockedElsewhere, TrialBound, PersistDiffers, NoTrial}
use Rattle.model.proofs.Tables.{not_false}
use Rattle.model.specs.Link.{Linked}
use Rattle.model.specs.Model.{Model, fresh}
use Rattle.model.specs.Promise.{PlainCommit, LosesPower, Rejected, Ends, ShowsModel, Point, reached, left_with, AtAll, Quiet, end, other, rejected, Follows, none, more, Promise}
use Rattle.model.specs.Refusals.{first, or_invalid, option_at, cancel_refusals, close_refusals, commit_refusals, elapse_refusals}
use Rattle.model.specs.Rules.{Step, Asks, StandsAfter, stored, before, after, StandsUnless, ComesBack, back, lost}
use Rattle.model.specs.Steps.{Judged, EditsItems, EditsUnless, GetsUnless, after_event, by_outcome}

-- ---- which steps leave the standing configuration
judged_stands : (o : Option EngineFault) (m done : Model) (a : Answer) (m' : Model) → done.standing ≡ m.standing → Judged o m done a m' → m'.standing ≡ m.standing
judged_stands (Some f) m done a m' e j = ap (λ (x : Model). x.standing) j.1
judged_stands None m done a m' e j = ap (λ (x : Model). x.standing) j.1 ∙ e

items_stand : (ns : List Node) (m : Model) (w : Option ErrorOption) (items : Option (List Item)) (a : Answer) (m' : Model) → EditsItems ns m w items a m' → m'.standing ≡ m.standing
items_stand ns m None items a m' j = absurd j
items_stand ns m (Some w) None a m' j = absurd j
items_stand ns m (Some w) (Some is) a m' j = ap (λ (x : Model). x.standing) j.1

edits_stand : (o : Option EngineFault) (ns : List Node) (m : Model) (n : ℕ) (items : Option (List Item)) (a : Answer) (m' : Model) → EditsUnless o ns m n items a m' → m'.standing ≡ m.standing
edits_stand (Some f) ns m n items a m' j = ap (λ (x : Model). x.standing) j.1
edits_stand None ns m n items a m' j = items_stand ns m (option_at n) items a m' j

gets_stand : (o : Option EngineFault) (m : Model) (n : ℕ) (a : Answer) (m' : Model) → GetsUnless o m n a m' → m'.standing ≡ m.standing
gets_stand (Some f) m n a m' j = ap (λ (x : Model). x.standing) j.1
gets_stand None m n a m' j = ap (λ (x : Model). x.standing) j.1

comes_stand : {m : Model} {a : Answer} {m' : Model} → ComesBack m a m' → m'.standing ≡ m.standing
comes_stand back = refl
comes_stand lost = refl

module _ (ns : List Node) (verdict : List Entry → Result Unit Broken) where
  -- a call that is no plain commit leaves it
  other_stands : (m : Model) (c : Call) (a : Answer) (m' : Model) → (PlainCommit c → ⊥) → Step ns verdict m c a m' → m'.standing ≡ m.standing
  other_stands m (Open s) a m' h j = judged_stands _ m _ a m' refl j
  other_stands m (Close s) a m' h j = judged_stands (first (close_refusals m s)) m _ a m' refl j
  other_stands m (Lock s n) a m' h j = judged_stands _ m _ a m' refl j
  other_stands m (Unlock s n) a m' h j = judged_stands _ m _ a m' refl j
  other_stands m (Edit s o items) a m' h j = edits_stand _ ns m o j.items a m' j.answer
  other_stands m (Discard s) a m' h j = judged_stands _ m _ a m' refl j
  other_stands m (Validate s n) a m' h j = judged_stands _ m _ a m' refl j
  other_stands m (Get s n room) a m' h j = gets_stand _ m n a m' j
  other_stands m (Commit s plain_kind timeout persist id) a m' h j = absurd (h (s, timeout, persist, id, refl))
  other_stands m (Commit s confirmed_kind timeout persist id) a m' h j = judged_stands _ m _ a m' refl j
  other_stands m (Cancel s id) a m' h j = judged_stands _ m _ a m' refl j
  other_stands m (Elapse n) a m' h j = judged_stands _ m _ a m' refl j
  other_stands m Restart a m' h j = comes_stand j

  -- so does one that is rejected
  stands_rejected : {m : Model} {a : Answer} {m' : Model} → Rejected a → StandsAfter m a m' → m'.standing ≡ m.standing
  stands_rejected r stored = absurd (let e = r.1 in let z : ◌≡◌ {A = ℕ} 0 1 = cc in omega arith)
  stands_rejected r (before {at = at} h k) = refl
  stands_rejected r (after {at = at} h k) = absurd (r.2 (at, refl))

  unless_rejected : (o : Option EngineFault) (m : Model) (a : Answer) (m' : Model) → Rejected a → StandsUnless o m a m' → m'.standing ≡ m.standing
  unless_rejected (Some f) m a m' r j = ap (λ (x : Model). x.standing) j.1
  unless_rejected None m a m' r j = stands_rejected r j

  is_plain : (c : Call) → PlainCommit c ⊎ (PlainCommit c → ⊥)
  is_plain (Open s) = inr (λ p. let e = p.4 in let z : ◌≡◌ {A = ℕ} 0 1 = cc in omega arith)
  is_plain (Close s) = inr (λ p. let e = p.4 in let z : ◌≡◌ {A = ℕ} 0 1 = cc in omega arith)
  is_plain (Lock s n) = inr (λ p. let e = p.4 in let z : ◌≡◌ {A = ℕ} 0 1 = cc in omega arith)
  is_plain (Unlock s n) = inr (λ p. let e = p.4 in let z : ◌≡◌ {A = ℕ} 0 1 = cc in omega arith)
  is_plain (Edit s o items) = inr (λ p. let e = p.4 in let z : ◌≡◌ {A = ℕ} 0 1 = cc in omega arith)
  is_plain (Discard s) = inr (λ p. let e = p.4 in let z : ◌≡◌ {A = ℕ} 0 1 = cc in omega arith)
  is_plain (Validate s n) = inr (λ p. let e = p.4 in let z : ◌≡◌ {A = ℕ} 0 1 = cc in omega arith)
  is_plain (Get s n room) = inr (λ p. let e = p.4 in let z : ◌≡◌ {A = ℕ} 0 1 = cc in omega arith)
  is_plain (Commit s plain_kind timeout persist id) = inl (s, timeout, persist, id, refl)
  is_plain (Commit s confirmed_kind timeout persist id) = inr (λ p. let e = p.4 in let z : ◌≡◌ {A = ℕ} 0 1 = cc in omega arith)
  is_plain (Cancel s id) = inr (λ p. let e = p.4 in let z : ◌≡◌ {A = ℕ} 0 1 = cc in omega arith)
  is_plain (Elapse n) = inr (λ p. let e = p.4 in let z : ◌≡◌ {A = ℕ} 0 1 = cc in omega arith)
  is_plain Restart = inr (λ p. let e = p.4 in let z : ◌≡◌ {A = ℕ} 0 1 = cc in omega arith)

  plain_step : (m : Model) (c : Call) (a : Answer) (m' : Model) (p : PlainCommit c) → Step ns verdict m c a m' → StandsUnless (or_invalid (first (commit_refusals m p.0 plain_kind p.1 p.2 p.3)) (verdict m.candidate)) m a m'
  plain_step m c a m' p j = subst (λ (x : Call). Step ns verdict m x a m') p.4 j

  rejected_stands : (m : Model) (c : Call) (a : Answer) (m' : Model) → Rejected a → Step ns verdict m c a m' → m'.standing ≡ m.standing
  rejected_stands m c a m' r j =
      elim (is_plain c) [
        | inl p ↦ unless_rejected _ m a m' r (plain_step m c a m' p j)
        | inr h ↦ other_stands m c a m' h j
      ]

  -- a cut plain commit leaves the configuration before it or its candidate
  stands_cut : {m : Model} {a : Answer} {m' : Model} → StandsAfter m a m' → (m'.standing ≡ m.standing) ⊎ (m'.standing ≡ m.candidate)
  stands_cut stored = inr refl
  stands_cut (before h k) = inl refl
  stands_cut (after h k) = inr refl

  cut_stands : (o : Option EngineFault) (m : Model) (a : Answer) (m' : Model) → StandsUnless o m a m' → (m'.standing ≡ m.standing) ⊎ (m'.standing ≡ m.candidate)
  cut_stands (Some f) m a m' j = inl (ap (λ (x : Model). x.standing) j.1)
  cut_stands None m a m' j = stands_cut j

  -- ---- restarts
  back_or_lost : {m : Model} {a : Answer} {m' : Model} → ComesBack m a m' → (a ≡ Done) ⊎ LosesPower a
  back_or_lost back = inl refl
  back_or_lost (lost {at = at}) = inr (at, refl)

  restart_step : (m : Model) (c : Call) (a : Answer) (m' : Model) → c ≡ Restart → Step ns verdict m c a m' → (a ≡ Done) ⊎ LosesPower a
  restart_step m c a m' e j = back_or_lost (subst (λ (x : Call). Step ns verdict m x a m') e j)

  -- ---- what ends a trial
  judged_done : (o : Option EngineFault) (m done : Model) (a : Answer) (m' : Model) → a ≡ Done → Judged o m done a m' → m' ≡ done
  judged_done (Some f) m done a m' e j = absurd (let k = j.0 in let z : ◌≡◌ {A = ℕ} 0 1 = cc in omega arith)
  judged_done None m done a m' e j = j.1

  reverts : (m : Model) (h : Happening) (m' : Model) → m'.trial ≡ (after_event m h).trial → m'.running ≡ (after_event m h).running → m'.standing ≡ m.standing → outcome_of m.trial h ≡ Reverted → trial_after m.trial h ≡ idle → (m'.trial ≡ idle) × (m'.running ≡ m'.standing)
  reverts m h m' t r st o i = (t ∙ i, r ∙ ap (λ (x : Outcome). by_outcome x m) o ∙ sym st)

  first_row : (b : Bool) (x : EngineFault) (rest : Option EngineFault) → cond b (Some x) rest ≡ None → b ≡ false
  first_row true x rest e = absurd (let z : ◌≡◌ {A = ℕ} 0 1 = cc in omega arith)
  first_row false x rest e = refl

  seventh : (a b c d e f g : Bool) (p q r t u v w : EngineFault) (rest : Option EngineFault) → cond a (Some p) (cond b (Some q) (cond c (Some r) (cond d (Some t) (cond e (Some u) (cond f (Some v) (cond g (Some w) rest)))))) ≡ None → g ≡ false
  seventh true b c d e f g p q r t u v w rest h = absurd (let z : ◌≡◌ {A = ℕ} 0 1 = cc in omega arith)
  seventh false true c d e f g p q r t u v w rest h = absurd (let z : ◌≡◌ {A = ℕ} 0 1 = cc in omega arith)
  seventh false false true d e f g p q r t u v w rest h = absurd (let z : ◌≡◌ {A = ℕ} 0 1 = cc in omega arith)
  seventh false false false true e f g p q r t u v w rest h = absurd (let z : ◌≡◌ {A = ℕ} 0 1 = cc in omega arith)
  seventh false false false false true f g p q r t u v w rest h = absurd (let z : ◌≡◌ {A = ℕ} 0 1 = cc in omega arith)
  seventh false false false false false true g p q r t u v w rest h = absurd (let z : ◌≡◌ {A = ℕ} 0 1 = cc in omega arith)
  seventh false false false false false false true p q r t u v w rest h = absurd (let z : ◌≡◌ {A = ℕ} 0 1 = cc in omega arith)
  seventh false false false false false false false p q r t u v w rest h = refl

  cancelled : (o : Option EngineFault) (m done : Model) (a : Answer) (m' : Model) → a ≡ Done → Judged o m done a m' → o ≡ None
  cancelled (Some f) m done a m' e j = absurd (let k = j.0 in let z : ◌≡◌ {A = ℕ} 0 1 = cc in omega arith)
  cancelled None m done a m' e j = refl

  cancel_pending : (m : Model) (s id : ℕ) → first (cancel_refusals m s id) ≡ None → is_pending m.trial ≡ true
  cancel_pending m s id e =
      not_false (is_pending m.trial)
      (seventh (not (is_session s)) (not m.on) (not (is_open m.held s)) (locked_elsewhere m.held s 1) (bound_elsewhere m.trial s) (is_pending m.trial && persist_differs m.trial id) (not (is_pending m.trial)) (Plain SessionNumber) (Plain EngineOff) (Plain SessionNotOpen) (Plain LockedElsewhere) (Plain TrialBound) (Plain PersistDiffers) (Plain NoTrial) None e)

  came_back : {m : Model} {a : Answer} {m' : Model} → a ≡ Done → ComesBack m a m' → (m'.trial ≡ idle) × (m'.running ≡ m'.standing)
  came_back e back = (refl, refl)
  came_back e lost = absurd (let z : ◌≡◌ {A = ℕ} 0 1 = cc in omega arith)

  late : (t : Pending) (n : ℕ) → leb t.seconds n ≡ true → trial_after t (elapse n) ≡ idle
  late t n h = ap (λ (x : Bool). cond x (record { owner = t.owner; persist = t.persist; seconds = t.seconds - n }) idle) (le-ltb n t.seconds (leb-true t.seconds n h))

  ending : (m : Model) (c : Call) (a : Answer) (m' : Model) → Step ns verdict m c a m' → Ends m c a → (m'.trial ≡ idle) × (m'.running ≡ m'.standing)
  ending m (Open s) a m' j e = absurd e
  ending m (Close s) a m' j e =
      let is = judged_done (first (close_refusals m s)) m _ a m' e.0 j in
      let t = m.trial in
      let o : outcome_of t (close s) ≡ Reverted = ap (λ (x : Bool). cond (x && eqb t.persist 0) Reverted Nothing) e.1 ∙ ap (λ (x : Bool). cond x Reverted Nothing) e.2 in
      let i : trial_after t (close s) ≡ idle =
      ap (λ (x : Bool). cond x (cond (eqb t.persist 0) idle (record { owner = 0; persist = t.persist; seconds = t.seconds })) t) e.1 ∙ ap (λ (x : Bool). cond x idle (record { owner = 0; persist = t.persist; seconds = t.seconds })) e.2 in
      reverts m (close s) m' (ap (λ (x : Model). x.trial) is) (ap (λ (x : Model). x.running) is) (ap (λ (x : Model). x.standing) is) o i
  ending m (Lock s n) a m' j e = absurd e
  ending m (Unlock s n) a m' j e = absurd e
  ending m (Edit s o items) a m' j e = absurd e
  ending m (Discard s) a m' j e = absurd e
  ending m (Validate s n) a m' j e = absurd e
  ending m (Get s n room) a m' j e = absurd e
  ending m (Commit s kind timeout persist id) a m' j e = absurd e
  ending m (Cancel s id) a m' j e =
      let is = judged_done (first (cancel_refusals m s id)) m _ a m' e j in
      let p = cancel_pending m s id (cancelled (first (cancel_refusals m s id)) m _ a m' e j) in
      let o : outcome_of m.trial cancel ≡ Reverted = ap (λ (x : Bool). cond x Reverted Nothing) p in
      reverts m cancel m' (ap (λ (x : Model). x.trial) is) (ap (λ (x : Model). x.running) is) (ap (λ (x : Model). x.standing) is) o refl
  ending m (Elapse n) a m' j e =
      let is = judged_done (first (elapse_refusals m n)) m _ a m' e.0 j in
      let t = m.trial in
      let o : outcome_of t (elapse n) ≡ Reverted = ap (λ (x : Bool). cond (x && leb t.seconds n) Reverted Nothing) e.1 ∙ ap (λ (x : Bool). cond x Reverted Nothing) e.2 in
      reverts m (elapse n) m' (ap (λ (x : Model). x.trial) is) (ap (λ (x : Model). x.running) is) (ap (λ (x : Model). x.standing) is) o (late t n e.2)
  ending m Restart a m' j e = came_back e j

-- ---- points
module _ {D : Type 0} (blocks : D → List Block) (powered : D → Bool) (raises : D → D → Type 0) (reads : D → ℕ → Result Block DeviceFault → D → Type 0) (writes : D → ℕ → List ℕ → Result Unit DeviceFault → D → Type 0) (ns : List Node) (verdict : List Entry → Result Unit Broken) where
  abbrev F : Model → D → List (Point D) → Type 0
  F m d ps = Follows blocks powered raises reads writes ns verdict m d ps

  -- one more point at the end
  pub follows_push : {m : Model} {d : D} {ps : List (Point D)} (p : Point D) → F m d ps → Step ns verdict (reached m ps) p.call p.answer p.next → Asks blocks raises reads writes verdict (reached m ps) p.call p.answer (left_with d ps) p.device → F m d (ps ++ p ∷ [])
  follows_push p none s a = more s a none
  follows_push p (more t b f) s a = more t b (follows_push p f s a)

  pub reached_push : (m : Model) (ps : List (Point D)) (p : Point D) → reached m (ps ++ p ∷ []) ≡ p.next
  reached_push m [] p = refl
  reached_push m (q ∷ ps) p = reached_push q.next ps p

  pub left_push : (d : D) (ps : List (Point D)) (p : Point D) → left_with d (ps ++ p ∷ []) ≡ p.device
  left_push d [] p = refl
  left_push d (q ∷ ps) p = left_push q.device ps p

  pub all_push : (P : Model → D → Type 0) (m : Model) (d : D) (ps : List (Point D)) (p : Point D) → AtAll P m d ps → P p.next p.device → AtAll P m d (ps ++ p ∷ [])
  all_push P m d [] p h k = (h, k)
  all_push P m d (q ∷ ps) p h k = (h.0, all_push P q.next q.device ps p h.1 k)

  -- the step at a point
  step_at : (xs ys : List (Point D)) (p : Point D) (m : Model) (d : D) → F m d (xs ++ p ∷ ys) → Step ns verdict (reached m xs) p.call p.answer p.next × F p.next p.device ys
  step_at [] ys p m d (more s a f) = (s, f)
  step_at (x ∷ xs) ys p m d (more s a f) = step_at xs ys p x.next x.device f

  follows_front : (xs ys : List (Point D)) (m : Model) (d : D) → F m d (xs ++ ys) → F m d xs
  follows_front [] ys m d f = none
  follows_front (x ∷ xs) ys m d (more s a f) = more s a (follows_front xs ys x.next x.device f)

  -- quiet points leave the standing configuration
  quiet_stands : {ps : List (Point D)} → Quiet ps → (m : Model) (d : D) → F m d ps → (reached m ps).standing ≡ m.standing
  quiet_stands end m d f = refl
  quiet_stands (other {p = p} h q) m d (more s a f) = quiet_stands q p.next p.device f ∙ other_stands ns verdict m p.call p.answer p.next h s
  quiet_stands (rejected {p = p} r q) m d (more s a f) = quiet_stands q p.next p.device f ∙ rejected_stands ns verdict m p.call p.answer p.next r s

  module _ (m : Model) (d : D) (points : List (Point D)) (f : F m d points) where
    pub restarts_are : (xs ys : List (Point D)) (p : Point D) → points ≡ xs ++ p ∷ ys → p.call ≡ Restart → (p.answer ≡ Done) ⊎ LosesPower p.answer
    restarts_are xs ys p e c = restart_step ns verdict (reached m xs) p.call p.answer p.next c (step_at xs ys p m d (subst (F m d) e f)).0

    pub whole_is : (xs ys zs : List (Point D)) (p : Point D) → points ≡ xs ++ p ∷ (ys ++ zs) → PlainCommit p.call → LosesPower p.answer → Quiet ys → ((reached p.next ys).standing ≡ (reached m xs).standing) ⊎ ((reached p.next ys).standing ≡ (reached m xs).candidate)
    whole_is xs ys zs p e c l q =
        let s = step_at xs (ys ++ zs) p m d (subst (F m d) e f) in
        let still = quiet_stands q p.next p.device (follows_front ys zs p.next p.device s.1) in
        elim (cut_stands ns verdict _ (reached m xs) p.answer p.next (plain_step ns verdict (reached m xs) p.call p.answer p.next c s.0)) [
          | inl h ↦ inl (still ∙ h)
          | inr h ↦ inr (still ∙ h)
        ]

    pub ended_is : (xs ys : List (Point D)) (p : Point D) → points ≡ xs ++ p ∷ ys → Ends (reached m xs) p.call p.answer → (p.next.trial ≡ idle) × (p.next.running ≡ p.next.standing)
    ended_is xs ys p e h = ending ns verdict (reached m xs) p.call p.answer p.next (step_at xs ys p m d (subst (F m d) e f)).0 h

  pub promised : (es : List Entry) (d : D) (calls : List Call) (answers : List Answer) (x : Model) (e : D) (points : List (Point D)) → map (λ (p : Point D). p.call) points ≡ calls → map (λ (p : Point D). p.answer) points ≡ answers → F (fresh es) d points → left_with d points ≡ e → ShowsModel x (reached (fresh es) points) → AtAll (Linked blocks powered ns verdict) (fresh es) d points → Promise blocks powered raises reads writes ns verdict es d calls answers x e
  promised es d calls answers x e points c a f l s w =
      record {
        points = points;
        calls_are = c;
        answers_are = a;
        follows = f;
        device_is = l;
        shows = s;
        everywhere = w;
        restarts = restarts_are (fresh es) d points f;
        whole = whole_is (fresh es) d points f;
        ended = ended_is (fresh es) d points f;
      }
