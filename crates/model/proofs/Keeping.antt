-- Every call keeps the link between model and device, and does what the rules say.
use Rattle.std.proofs.Common.{◌≡◌, ℕ, ◌-◌, ◌<◌, ◌≤◌, Bool, true, false, cond, not, ◌&&◌, eqb, ltb, leb, ◌⊎◌, List, [], length, is_some, Some, None, Ok, Err, MatchBool, Option, Result, sym, refl, ap, ◌∙◌, subst, inl, inr, arith}
use Rattle.std.proofs.lemmas.Bool.{and_parts, le-ltb, ltb-true, ltb-false, leb-true, lt-ltb, le-leb, lt-leb}
use Rattle.device.specs.Power.{ReadAnswer, WriteAnswer}
use Rattle.device.specs.declared.Block.{Block}
use Rattle.device.specs.declared.DeviceFault.{DeviceFault}
use Rattle.device.specs.declared.DeviceFault.TheVariants.{Refused as access_refused}
use Rattle.schema.specs.Nodes.{nodes}
use Rattle.schema.specs.declared.typed.Schema.{Schema}
use Rattle.schema.specs.declared.typed.SchemaFault.{SchemaFault}
use Rattle.config.specs.Configs.{used}
use Rattle.config.specs.Images.{image}
use Rattle.config.specs.Lawful.{Lawful}
use Rattle.config.specs.declared.config.Config.{Config}
use Rattle.config.specs.declared.entry.Entry.{Entry}
use Rattle.journal.specs.Laws as journal
use Rattle.journal.specs.Plans.{as_writes, commit_plan}
use Rattle.journal.specs.Restart.{Restores, Idle}
use Rattle.journal.proofs.Promises.{commit_writes, idle_restores, restores_stored}
use Rattle.edit.specs.Does.{does}
use Rattle.edit.specs.Options.{left}
use Rattle.edit.specs.declared.item.Item.{Item}
use Rattle.edit.specs.declared.option.ErrorOption.{ErrorOption}
use Rattle.edit.proofs.Lawful.{left_lawful}
use Rattle.validate.specs.declared.broken.Broken.{Broken}
use Rattle.session.specs.Locks.{Held, opened, closed, locked, unlocked}
use Rattle.session.specs.Numbers.{is_session, is_datastore}
use Rattle.session.specs.Trials.{Pending, Happening, begin, cancel, elapse, close, idle, is_pending, is_timeout, outcome_of, owned_by, trial_after}
use Rattle.session.specs.declared.event.Outcome.{Outcome}
use Rattle.session.specs.declared.event.Outcome.TheVariants.{Nothing, Reverted}
use Rattle.store.specs.Calls.{Formats, Given, Made, Recovers, Replaced, small}
use Rattle.store.specs.Faults.{told}
use Rattle.store.specs.Standing as standing
use Rattle.store.specs.declared.faults.StoreFault.{StoreFault}
use Rattle.store.specs.declared.faults.StoreFault.TheVariants.{TooSmall, Device, Corrupt}
use Rattle.store.proofs.Recovery.{large}
use Rattle.store.proofs.Standing.{blocks_after, stands, off_replaces, not_small}
use Rattle.device.specs.Accesses.{Access}
use Rattle.device.specs.View.{Executed}
use Rattle.device.specs.View as view
use Rattle.device.proofs.Carrying.{length_after, length_torn}
use Rattle.calls.specs.declared.call.Answer.{Answer}
use Rattle.calls.specs.declared.call.Answer.TheVariants.{Done}
use Rattle.calls.specs.declared.call.CommitKind.{CommitKind}
use Rattle.calls.specs.declared.call.CommitKind.TheVariants.{Plain as plain_kind, Confirmed as confirmed_kind}
use Rattle.calls.specs.declared.faults.Refusal.TheVariants.{EditList as no_list, SessionNumber, DatastoreNumber, OptionNumber, CommitNumbers, TooManySeconds, ShortOutput, EngineOff}
use Rattle.calls.specs.declared.call.Call.{Call}
use Rattle.calls.specs.declared.call.Call.TheVariants.{Open, Close, Lock, Unlock, Edit, Discard, Validate, Get, Commit, Cancel, Elapse, Restart}
use Rattle.calls.specs.declared.faults.EngineFault.{EngineFault}
use Rattle.calls.specs.declared.faults.EngineFault.TheVariants.{Plain, Store}
use Rattle.model.specs.Acts.{committed, StoredAs, Stores, StoresUnless, RestartedAs, RecoversTo, Refuses, Restarts, Acts, FormattedAs, FormatsTo, FormatsValid, FormatsImage, Formatting, ImageOf}
use Rattle.model.specs.Link.{Linked, Agrees}
use Rattle.model.specs.Link as link
use Rattle.model.specs.Model.{Model, contents, fresh, with_candidate, with_held, with_on, with_running, with_standing, with_trial}
use Rattle.model.specs.Refusals.{first, or_invalid, commit_refusals, of_kind, option_at, open_refusals, close_refusals, lock_refusals, unlock_refusals, edit_refusals, discard_refusals, validate_refusals, get_refusals, cancel_refusals, elapse_refusals}
use Rattle.model.specs.Rules.{StandsAfter, stored, before, after, StandsUnless, ComesBack, back, lost, ToldBy, Writes, WritesUnless, Repairs, Step, Asks}
use Rattle.model.specs.Steps.{Judged, EditsItems, EditsUnless, GetsUnless, after_event, by_outcome}
use Rattle.model.proofs.Tables.{not_false}

-- ---- what a table says that refuses nothing
valid_of : (o : Option EngineFault) (v : Result Unit Broken) → or_invalid o v ≡ None → (o ≡ None) × (v ≡ Ok tt)
valid_of (Some f) v e = absurd (let z : ◌≡◌ {A = ℕ} 0 1 = cc in omega arith)
valid_of None (Ok done) e = (refl, refl)
valid_of None (Err b) e = absurd (let z : ◌≡◌ {A = ℕ} 0 1 = cc in omega arith)

third : (a b c : Bool) (x y z : EngineFault) (rest : Option EngineFault) → cond a (Some x) (cond b (Some y) (cond c (Some z) rest)) ≡ None → (b ≡ false) × (c ≡ false)
third true b c x y z rest e = absurd (let q : ◌≡◌ {A = ℕ} 0 1 = cc in omega arith)
third false true c x y z rest e = absurd (let q : ◌≡◌ {A = ℕ} 0 1 = cc in omega arith)
third false false true x y z rest e = absurd (let q : ◌≡◌ {A = ℕ} 0 1 = cc in omega arith)
third false false false x y z rest e = (refl, refl)

-- a commit that nothing refuses has the numbers of its kind, and the engine is on
commit_on : (m : Model) (s : ℕ) (kind : CommitKind) (timeout persist id : ℕ) → first (commit_refusals m s kind timeout persist id) ≡ None → (of_kind kind timeout persist ≡ true) × (m.on ≡ true)
commit_on m s kind timeout persist id e =
    let p = third (not (is_session s)) (not (of_kind kind timeout persist)) (not m.on) (Plain SessionNumber) (Plain CommitNumbers) (Plain EngineOff) _ e in
    (not_false (of_kind kind timeout persist) p.0, not_false m.on p.1)

both_false : (b : Bool) → cond (b && false) Reverted Nothing ≡ Nothing
both_false true = refl
both_false false = refl

-- ---- events of the trial
-- it reverts, or nothing happens to running and a trial that was pending still is
abbrev Ending : Pending → Happening → Type 0
Ending t e = (outcome_of t e ≡ Reverted) ⊎ ((outcome_of t e ≡ Nothing) × (is_pending (trial_after t e) ≡ false → is_pending t ≡ false))

cancel_ends : (t : Pending) → Ending t cancel
cancel_ends t = go (is_pending t) refl
  where
    go : (b : Bool) → is_pending t ≡ b → Ending t cancel
    go true p = inl (ap (λ (x : Bool). cond x Reverted Nothing) p)
    go false p = inr (ap (λ (x : Bool). cond x Reverted Nothing) p, λ q. p)

elapse_ends : (t : Pending) (n : ℕ) → Ending t (elapse n)
elapse_ends t n = go (ltb n t.seconds) refl (is_pending t) refl
  where
    go : (a : Bool) → ltb n t.seconds ≡ a → (b : Bool) → is_pending t ≡ b → Ending t (elapse n)
    go true p b q =
        let under : n < t.seconds = ltb-true n t.seconds p in
        let late : leb t.seconds n ≡ false = lt-leb t.seconds n under in
        let more : ltb 0 (t.seconds - n) ≡ true = lt-ltb 0 (t.seconds - n) (omega arith) in
        inr (
          ap (λ (x : Bool). cond (is_pending t && x) Reverted Nothing) late ∙ both_false (is_pending t),
          λ r. absurd (let z : true ≡ false = sym more ∙ sym (ap (λ (x : Bool). is_pending (cond x (record { owner = t.owner; persist = t.persist; seconds = t.seconds - n }) idle)) p) ∙ r in let w : ◌≡◌ {A = ℕ} 0 1 = cc in omega arith),
        )
    go false p true q =
        let spent : leb t.seconds n ≡ true = le-leb t.seconds n (ltb-false n t.seconds p) in
        inl (ap (λ (x : Bool). cond (x && leb t.seconds n) Reverted Nothing) q ∙ ap (λ (x : Bool). cond x Reverted Nothing) spent)
    go false p false q = inr (ap (λ (x : Bool). cond (x && leb t.seconds n) Reverted Nothing) q, λ r. q)

close_ends : (t : Pending) (s : ℕ) → Ending t (close s)
close_ends t s = go (owned_by t s) refl (eqb t.persist 0) refl
  where
    go : (a : Bool) → owned_by t s ≡ a → (b : Bool) → eqb t.persist 0 ≡ b → Ending t (close s)
    go true p true q = inl (ap (λ (x : Bool). cond (x && eqb t.persist 0) Reverted Nothing) p ∙ ap (λ (x : Bool). cond x Reverted Nothing) q)
    go true p false q =
        let goes : trial_after t (close s) ≡ record { owner = 0; persist = t.persist; seconds = t.seconds } =
        ap (λ (x : Bool). cond x (cond (eqb t.persist 0) idle (record { owner = 0; persist = t.persist; seconds = t.seconds })) t) p
        ∙ ap (λ (x : Bool). cond x idle (record { owner = 0; persist = t.persist; seconds = t.seconds })) q in
        inr (ap (λ (x : Bool). cond (x && eqb t.persist 0) Reverted Nothing) p ∙ ap (λ (x : Bool). cond x Reverted Nothing) q, λ r. sym (ap is_pending goes) ∙ r)
    go false p b q =
        let same : trial_after t (close s) ≡ t = ap (λ (x : Bool). cond x (cond (eqb t.persist 0) idle (record { owner = 0; persist = t.persist; seconds = t.seconds })) t) p in
        inr (ap (λ (x : Bool). cond (x && eqb t.persist 0) Reverted Nothing) p, λ r. sym (ap is_pending same) ∙ r)

-- a trial that is begun is pending
begun : (t : Pending) (s timeout persist : ℕ) → is_timeout timeout ≡ true → is_pending (trial_after t (begin s timeout persist)) ≡ true
begun t s timeout persist h =
    let least : 1 ≤ timeout = leb-true 1 timeout (and_parts (leb 1 timeout) (leb timeout 86400) h).0 in
    ap (λ (x : Bool). is_pending (cond x (record { owner = s; persist = persist; seconds = timeout }) t)) h ∙ lt-ltb 0 timeout (omega arith)

module _ {D : Type 0} {blocks : D → List Block} {powered : D → Bool} {raises : D → D → Type 0} {reads : D → ℕ → Result Block DeviceFault → D → Type 0} {writes : D → ℕ → List ℕ → Result Unit DeviceFault → D → Type 0}
    (rule-u : (d e : D) → raises d e → (blocks e ≡ blocks d) × (powered e ≡ true))
    (rule-r : (d e : D) (at : ℕ) (r : Result Block DeviceFault) → reads d at r e → ReadAnswer (blocks d) (powered d) at r (blocks e) (powered e))
    (rule-w : (d e : D) (at : ℕ) (bytes : List ℕ) (r : Result Unit DeviceFault) → writes d at bytes r e → WriteAnswer (blocks d) (powered d) at bytes r (blocks e) (powered e))
    (un-r : (d e : D) (at : ℕ) → reads d at (Err access_refused) e → e ≡ d) (un-w : (d e : D) (at : ℕ) (bytes : List ℕ) → writes d at bytes (Err access_refused) e → e ≡ d)
    (s : Schema) (verdict : List Entry → Result Unit Broken) where
  abbrev L : Model → D → Type 0
  L m d = Linked blocks powered (nodes s) verdict m d

  standing_lawful : {m : Model} {d : D} → L m d → Lawful (nodes s) m.standing
  standing_lawful {m} {d} l = (restores_stored (nodes s) (blocks d) m.standing l.restores).0

  held_links : (m : Model) (d : D) (h : Held) → L m d → L (with_held m h) d
  held_links m d h l =
      record { room = l.room; restores = l.restores; live = l.live; running_lawful = l.running_lawful; candidate_lawful = l.candidate_lawful; running_valid = l.running_valid; standing_valid = l.standing_valid; settled = l.settled }

  candidate_links : (m : Model) (d : D) (es : List Entry) → Lawful (nodes s) es → L m d → L (with_candidate m es) d
  candidate_links m d es h l =
      record { room = l.room; restores = l.restores; live = l.live; running_lawful = l.running_lawful; candidate_lawful = h; running_valid = l.running_valid; standing_valid = l.standing_valid; settled = l.settled }

  event_links : (m : Model) (d : D) (e : Happening) → Ending m.trial e → L m d → L (after_event m e) d
  event_links m d e (inl r) l =
      let same : by_outcome (outcome_of m.trial e) m ≡ m.standing = ap (λ (o : Outcome). by_outcome o m) r in
      record {
        room = l.room;
        restores = l.restores;
        live = l.live;
        running_lawful = subst (Lawful (nodes s)) (sym same) (standing_lawful l);
        candidate_lawful = l.candidate_lawful;
        running_valid = ap verdict same ∙ l.standing_valid;
        standing_valid = l.standing_valid;
        settled = λ on p. same;
      }
  event_links m d e (inr r) l =
      let same : by_outcome (outcome_of m.trial e) m ≡ m.running = ap (λ (o : Outcome). by_outcome o m) r.0 in
      record {
        room = l.room;
        restores = l.restores;
        live = l.live;
        running_lawful = subst (Lawful (nodes s)) (sym same) l.running_lawful;
        candidate_lawful = l.candidate_lawful;
        running_valid = ap verdict same ∙ l.running_valid;
        standing_valid = l.standing_valid;
        settled = λ on p. same ∙ l.settled on (r.1 p);
      }

  -- a call by its rows
  judged_links : (o : Option EngineFault) (m done : Model) (a : Answer) (m' : Model) (d d' : D) → L m d → (o ≡ None → L done d) → Judged o m done a m' → d' ≡ d → L m' d'
  judged_links (Some f) m done a m' d d' l k j same = subst (λ (x : D). L m' x) (sym same) (subst (λ (x : Model). L x d) (sym j.1) l)
  judged_links None m done a m' d d' l k j same = subst (λ (x : D). L m' x) (sym same) (subst (λ (x : Model). L x d) (sym j.1) (k refl))

  -- ---- a confirmed commit
  tried_links : (m : Model) (d : D) (by timeout persist id : ℕ) → or_invalid (first (commit_refusals m by confirmed_kind timeout persist id)) (verdict m.candidate) ≡ None → L m d → L (with_trial (with_running m m.candidate) (trial_after m.trial (begin by timeout persist))) d
  tried_links m d by timeout persist id e l =
      let v = valid_of _ _ e in
      let k = commit_on m by confirmed_kind timeout persist id v.0 in
      let up = begun m.trial by timeout persist k.0 in
      record {
        room = l.room;
        restores = l.restores;
        live = l.live;
        running_lawful = l.candidate_lawful;
        candidate_lawful = l.candidate_lawful;
        running_valid = v.1;
        standing_valid = l.standing_valid;
        settled = λ on p. absurd (let x : true ≡ false = sym up ∙ p in let z : ◌≡◌ {A = ℕ} 0 1 = cc in omega arith);
      }

  -- ---- edits
  edit_links : (o : Option EngineFault) (m : Model) (n : ℕ) (items : Option (List Item)) (way : Option ErrorOption) (a : Answer) (m' : Model) (d d' : D) → L m d → EditsItems (nodes s) m way items a m' → d' ≡ d → L m' d'
  edit_links o m n items None a m' d d' l j same = absurd j
  edit_links o m n None (Some w) a m' d d' l j same = absurd j
  edit_links o m n (Some is) (Some w) a m' d d' l j same =
      subst (λ (x : D). L m' x) (sym same)
      (subst (λ (x : Model). L x d) (sym j.1) (candidate_links m d (left (does (nodes s)) w m.candidate is) (left_lawful s w m.candidate is l.candidate_lawful) l))

  edits_link : (o : Option EngineFault) (m : Model) (n : ℕ) (items : Option (List Item)) (a : Answer) (m' : Model) (d d' : D) → L m d → EditsUnless o (nodes s) m n items a m' → d' ≡ d → L m' d'
  edits_link (Some f) m n items a m' d d' l j same = subst (λ (x : D). L m' x) (sym same) (subst (λ (x : Model). L x d) (sym j.1) l)
  edits_link None m n items a m' d d' l j same = edit_links None m n items (option_at n) a m' d d' l j same

  gets_link : (o : Option EngineFault) (m : Model) (n : ℕ) (a : Answer) (m' : Model) (d d' : D) → L m d → GetsUnless o m n a m' → d' ≡ d → L m' d'
  gets_link (Some f) m n a m' d d' l j same = subst (λ (x : D). L m' x) (sym same) (subst (λ (x : Model). L x d) (sym j.1) l)
  gets_link None m n a m' d d' l j same = subst (λ (x : D). L m' x) (sym same) (subst (λ (x : Model). L x d) (sym j.1) l)

  -- ---- a plain commit
  told_stored : (m : Model) (q : Result Unit DeviceFault) (r : Result Unit StoreFault) (p : Bool) (a : Answer) (m' : Model) → r ≡ told q → StoredAs m r p a m' → ToldBy q a
  told_stored m (Ok done) r p a m' e j = (subst (λ (x : Result Unit StoreFault). StoredAs m x p a m') e j).0
  told_stored m (Err f) r p a m' e j = (subst (λ (x : Result Unit StoreFault). StoredAs m x p a m') e j).0

  -- the new configuration stands
  committed_links : (m : Model) (d' : D) → Lawful (nodes s) m.candidate → verdict m.candidate ≡ Ok tt → powered d' ≡ true → Idle (blocks d') m.candidate → L (committed m) d'
  committed_links m d' lawful valid on idle' =
      record {
        room = idle'.room;
        restores = idle_restores (nodes s) (blocks d') m.candidate lawful idle';
        live = λ x. (on, idle');
        running_lawful = lawful;
        candidate_lawful = lawful;
        running_valid = valid;
        standing_valid = valid;
        settled = λ x y. refl;
      }

  -- power was lost, and this configuration stands
  cut_links : (m : Model) (d d' : D) (es : List Entry) → L m d → 51 ≤ length (blocks d') → Restores (nodes s) (blocks d') (Ok es) → verdict es ≡ Ok tt → L (with_on (with_standing m es) false) d'
  cut_links m d d' es l room found valid =
      record {
        room = room;
        restores = found;
        live = λ on. absurd (let z : ◌≡◌ {A = ℕ} 0 1 = cc in omega arith);
        running_lawful = l.running_lawful;
        candidate_lawful = l.candidate_lawful;
        running_valid = l.running_valid;
        standing_valid = valid;
        settled = λ on p. absurd (let z : ◌≡◌ {A = ℕ} 0 1 = cc in omega arith);
      }

  agree : (m : Model) → Agrees m m
  agree m = record { known = m.standing; same = refl; knows = λ on. refl }

  abbrev Tied : Model → Model → D → Type 0
  Tied x m d = link.Tied blocks powered (nodes s) verdict x m d

  tied : (m : Model) (d : D) → L m d → Tied m m d
  tied m d l = record { agrees = agree m; linked = l }

  while_on : (x m : Model) → Agrees x m → m.on ≡ true → x ≡ m
  while_on x m g on = g.same ∙ ap (with_standing m) (g.knows on)

  by_outcome_of : (m : Model) (d d' : D) (a : Answer) (x : Model) {r : Result Unit StoreFault} {bs : List Block} {p : Bool} → L m d → m.on ≡ true → verdict m.candidate ≡ Ok tt → 51 ≤ length (blocks d') → ((r ≡ Ok tt) ⊎ (m.standing ≡ m.candidate → ⊥)) → standing.ReplaceOutcome (nodes s) m.standing m.candidate r bs p → bs ≡ blocks d' → p ≡ powered d' → StoredAs m r (powered d') a x → (m' : Model) × StandsAfter m a m' × Tied x m' d'
  by_outcome_of m d d' a x l on valid size changed (standing.ReplaceOutcome.done idle') eb ep j =
      let here : L (committed m) d' = committed_links m d' l.candidate_lawful valid (sym ep) (subst (λ (b : List Block). Idle b m.candidate) eb idle') in
      let is : committed m ≡ x = sym (j.1 ∙ ap (with_on (committed m)) (sym ep ∙ sym on)) in
      (committed m, subst (λ (y : Answer). StandsAfter m y (committed m)) (sym j.0) stored, subst (λ (y : Model). Tied y (committed m) d') is (tied (committed m) d' here))
  by_outcome_of m d d' a x l on valid size (inl ok) (standing.ReplaceOutcome.cut rec) eb ep j = absurd (let z : ◌≡◌ {A = ℕ} 0 1 = cc in omega arith)
  by_outcome_of m d d' a x l on valid size (inr differs) (standing.ReplaceOutcome.cut {at = at} (journal.Recovered.kept h found)) eb ep j =
      let m' = with_on m false in
      let is : m' ≡ x = sym (j.1 ∙ ap (with_on m) (sym ep)) in
      let here : L m' d' = cut_links m d d' m.standing l size (subst (λ (b : List Block). Restores (nodes s) b (Ok m.standing)) eb found) l.standing_valid in
      (m', subst (λ (y : Answer). StandsAfter m y m') (sym j.0) (before differs h), subst (λ (y : Model). Tied y m' d') is (tied m' d' here))
  by_outcome_of m d d' a x l on valid size (inr differs) (standing.ReplaceOutcome.cut {at = at} (journal.Recovered.moved h found)) eb ep j =
      let m' = with_on (with_standing m m.candidate) false in
      let is : x ≡ with_on m false = j.1 ∙ ap (with_on m) (sym ep) in
      let here : L m' d' = cut_links m d d' m.candidate l size (subst (λ (b : List Block). Restores (nodes s) b (Ok m.candidate)) eb found) valid in (
        m',
        subst (λ (y : Answer). StandsAfter m y m') (sym j.0) (after differs h),
        record { agrees = record { known = m.standing; same = is; knows = λ up. absurd (let z : ◌≡◌ {A = ℕ} 0 1 = cc in omega arith) }; linked = here },
      )

  executed_length : {xs : List Access} {bs : List Block} {q : Result Unit DeviceFault} {bs' : List Block} {p : Bool} → Executed xs bs q bs' p → length bs' ≡ length bs
  executed_length {xs} {bs} view.Executed.whole = length_after xs bs
  executed_length (view.Executed.torn t) = length_torn t

  -- a plain commit that nothing refuses
  commit_keeps : (m : Model) (d : D) (a : Answer) (x : Model) (d' : D) (by timeout persist id : ℕ) → L m d → or_invalid (first (commit_refusals m by plain_kind timeout persist id)) (verdict m.candidate) ≡ None → Stores blocks powered raises reads writes m d a x d' → (m' : Model) × StandsAfter m a m' × Writes blocks raises reads writes m a d d' × Tied x m' d'
  commit_keeps m d a x d' by timeout persist id l e c =
      let v = valid_of _ _ e in
      let on = (commit_on m by plain_kind timeout persist id v.0).1 in
      let lo = standing_lawful l in
      let up = l.live on in
      let seen_at = (blocks_after rule-u rule-r rule-w un-r un-w).replace d m.standing m.candidate c.result d' l.room up.0 c.stored in
      let wide : 51 ≤ length (blocks d') = omega (arith, l.room, executed_length seen_at.1) in
      let outcome = (stands rule-u rule-r rule-w un-r un-w).replace (nodes s) d m.standing m.candidate c.result d' lo l.candidate_lawful up.1 up.0 c.stored in
      let made = not_small (blocks d) (Made reads writes d (as_writes (commit_plan m.standing m.candidate)) c.result d') c.result d d' l.room c.stored in
      let r = by_outcome_of m d d' a x l on v.1 wide (changed c.result c.stored) outcome refl refl c.answer in
      (r.0, r.1, record { ended = made.ended; carried = made.carried; told = told_stored m made.ended c.result (powered d') a x made.answer c.answer }, r.2)
    where
      changed : (r : Result Unit StoreFault) → Replaced blocks raises reads writes d m.standing m.candidate r d' → (r ≡ Ok tt) ⊎ (m.standing ≡ m.candidate → ⊥)
      changed (Ok done) rep = inl refl
      changed (Err f) rep =
          inr (λ same.
          let none : commit_plan m.standing m.candidate ≡ [] = (commit_writes (nodes s) m.standing m.candidate (standing_lawful l) l.candidate_lawful).1 same in
          let ok : Err f ≡ Ok tt = ((off_replaces rule-u rule-r rule-w un-r un-w).unchanged d m.standing m.candidate (Err f) d' l.room none rep).0 in
          let z : ◌≡◌ {A = ℕ} 0 1 = cc in omega arith)

  -- ---- a restart
  fresh_links : (es : List Entry) (d' : D) → Lawful (nodes s) es → verdict es ≡ Ok tt → powered d' ≡ true → Idle (blocks d') es → L (fresh es) d'
  fresh_links es d' lawful valid on idle' =
      record {
        room = idle'.room;
        restores = idle_restores (nodes s) (blocks d') es lawful idle';
        live = λ x. (on, idle');
        running_lawful = lawful;
        candidate_lawful = lawful;
        running_valid = valid;
        standing_valid = valid;
        settled = λ x y. refl;
      }

  told_restarted : (x : Model) (bs : List Block) (q : Result Unit DeviceFault) (r : Result Config StoreFault) (p : Bool) (a : Answer) (x' : Model) → Given (nodes s) bs q r → RestartedAs x r p a x' → (k : (j : ℕ) → r ≡ Err (Corrupt j) → ⊥) → ToldBy q a
  told_restarted x bs (Err f) r p a x' g j k = (subst (λ (y : Result Config StoreFault). RestartedAs x y p a x') g j).0
  told_restarted x bs (Ok done) (Ok c) p a x' g j k = j.0
  told_restarted x bs (Ok done) (Err TooSmall) p a x' g j k = absurd g
  told_restarted x bs (Ok done) (Err (Device f)) p a x' g j k = absurd g
  told_restarted x bs (Ok done) (Err (Corrupt n)) p a x' g j k = absurd (k n refl)

  -- a recovery is never refused for what it found
  sound_recovery : {es : List Entry} {r : Result Config StoreFault} {bs : List Block} {p : Bool} → standing.RecoverOutcome (nodes s) es r bs p → (j : ℕ) → r ≡ Err (Corrupt j) → ⊥
  sound_recovery (standing.RecoverOutcome.done same idle') j e = let z : ◌≡◌ {A = ℕ} 0 1 = cc in omega arith
  sound_recovery (standing.RecoverOutcome.cut room found) j e = let z : ◌≡◌ {A = ℕ} 0 1 = cc in omega arith

  back_by : (x m : Model) (d d' : D) (a : Answer) (x' : Model) {r : Result Config StoreFault} {bs : List Block} {p : Bool} → Tied x m d → standing.RecoverOutcome (nodes s) m.standing r bs p → bs ≡ blocks d' → p ≡ powered d' → RestartedAs x r (powered d') a x' → (m' : Model) × ComesBack m a m' × Tied x' m' d'
  back_by x m d d' a x' t (standing.RecoverOutcome.done {c = c} same idle') eb ep j =
      let here : L (fresh m.standing) d' = fresh_links m.standing d' (standing_lawful t.linked) t.linked.standing_valid (sym ep) (subst (λ (b : List Block). Idle b m.standing) eb idle') in
      let is : fresh m.standing ≡ x' = sym (j.1 ∙ ap (with_on (fresh (used c))) (sym ep) ∙ ap fresh same) in
      (fresh m.standing, subst (λ (y : Answer). ComesBack m y (fresh m.standing)) (sym j.0) back, subst (λ (y : Model). Tied y (fresh m.standing) d') is (tied (fresh m.standing) d' here))
  back_by x m d d' a x' t (standing.RecoverOutcome.cut room found) eb ep j =
      let m' = with_on m false in
      let wide : 51 ≤ length (blocks d') = subst (λ (b : List Block). 51 ≤ length b) eb room in
      let here : L m' d' = cut_links m d d' m.standing t.linked wide (subst (λ (b : List Block). Restores (nodes s) b (Ok m.standing)) eb found) t.linked.standing_valid in (
        m',
        subst (λ (y : Answer). ComesBack m y m') (sym j.0) lost,
        record { agrees = record { known = t.agrees.known; same = j.1 ∙ ap (λ (y : Model). with_on y false) t.agrees.same; knows = λ up. absurd (let z : ◌≡◌ {A = ℕ} 0 1 = cc in omega arith) }; linked = here },
      )

  restart_keeps : (x m : Model) (d : D) (a : Answer) (x' : Model) (d' : D) → Tied x m d → Restarts blocks powered raises reads writes (Ok s) x d a x' d' → (m' : Model) × ComesBack m a m' × Repairs blocks raises reads writes a d d' × Tied x' m' d'
  restart_keeps x m d a x' d' t c =
      let l = t.linked in
      let r : RecoversTo blocks powered raises reads writes (nodes s) x d a x' d' = subst (λ (b : Bool). MatchBool b (Refuses (Store TooSmall) x d a x' d') (RecoversTo blocks powered raises reads writes (nodes s) x d a x' d')) (le-ltb (length (blocks d)) 51 l.room) c in
      let rec = r.recovered in
      let outcome = (stands rule-u rule-r rule-w un-r un-w).recover (nodes s) d m.standing r.result d' l.room l.restores (large (blocks d) (Recovers blocks raises reads writes (nodes s) d r.result d') r.result d d' l.room rec) in
      let b = back_by x m d d' a x' t outcome refl refl r.answer in
      (b.0, b.1, record { raised = rec.raised; up = rec.up; ended = rec.ended; carried = rec.carried; told = told_restarted x (blocks d) rec.ended r.result (powered d') a x' rec.answer r.answer (sound_recovery outcome) }, b.2)

  -- ---- every call
  abbrev Goes : Model → Model → D → Call → Answer → Model → D → Type 0
  Goes x m d c a x' d' = (m' : Model) × Step (nodes s) verdict m c a m' × Asks blocks raises reads writes verdict m c a d d' × Tied x' m' d'

  abbrev A : Model → D → Call → Answer → Model → D → Type 0
  A x d c a x' d' = Acts blocks powered raises reads writes (Ok s) verdict x d c a x' d'

  commit_goes : (m : Model) (d : D) (a : Answer) (x : Model) (d' : D) (by timeout persist id : ℕ) (o : Option EngineFault) → or_invalid (first (commit_refusals m by plain_kind timeout persist id)) (verdict m.candidate) ≡ o → L m d → StoresUnless blocks powered raises reads writes o m d a x d' → (m' : Model) × StandsUnless o m a m' × WritesUnless blocks raises reads writes o m a d d' × Tied x m' d'
  commit_goes m d a x d' by timeout persist id (Some f) e l j = (m, (j.0, refl), j.2, subst (λ (y : D). Tied x m y) (sym j.2) (subst (λ (y : Model). Tied y m d) (sym j.1) (tied m d l)))
  commit_goes m d a x d' by timeout persist id None e l j = commit_keeps m d a x d' by timeout persist id l e j

  on_goes : (m : Model) (d : D) (c : Call) (a : Answer) (x : Model) (d' : D) → L m d → A m d c a x d' → Goes m m d c a x d'
  on_goes m d (Open n) a x d' l j = (x, j.0, j.1, tied x d' (judged_links (first (open_refusals m n)) m (with_held m (opened m.held n)) a x d d' l (λ e. held_links m d (opened m.held n) l) j.0 j.1))
  on_goes m d (Close n) a x d' l j = (x, j.0, j.1, tied x d' (judged_links (first (close_refusals m n)) m (with_held (after_event m (close n)) (closed m.held n)) a x d d' l (λ e. held_links (after_event m (close n)) d (closed m.held n) (event_links m d (close n) (close_ends m.trial n) l)) j.0 j.1))
  on_goes m d (Lock n k) a x d' l j = (x, j.0, j.1, tied x d' (judged_links (first (lock_refusals m n k)) m (with_held m (locked m.held n k)) a x d d' l (λ e. held_links m d (locked m.held n k) l) j.0 j.1))
  on_goes m d (Unlock n k) a x d' l j = (x, j.0, j.1, tied x d' (judged_links (first (unlock_refusals m n k)) m (with_held m (unlocked m.held n k)) a x d d' l (λ e. held_links m d (unlocked m.held n k) l) j.0 j.1))
  on_goes m d (Edit n o items) a x d' l j = (x, j.0, j.1, tied x d' (edits_link (first (edit_refusals m n o (is_some j.0.items))) m o j.0.items a x d d' l j.0.answer j.1))
  on_goes m d (Discard n) a x d' l j = (x, j.0, j.1, tied x d' (judged_links (first (discard_refusals m n)) m (with_candidate m m.running) a x d d' l (λ e. candidate_links m d m.running l.running_lawful l) j.0 j.1))
  on_goes m d (Validate n k) a x d' l j = (x, j.0, j.1, tied x d' (judged_links (or_invalid (first (validate_refusals m n k)) (verdict (contents m k))) m m a x d d' l (λ e. l) j.0 j.1))
  on_goes m d (Get n k room) a x d' l j = (x, j.0, j.1, tied x d' (gets_link (first (get_refusals m n k room)) m k a x d d' l j.0 j.1))
  on_goes m d (Commit n plain_kind timeout persist id) a x d' l j = commit_goes m d a x d' n timeout persist id (or_invalid (first (commit_refusals m n plain_kind timeout persist id)) (verdict m.candidate)) refl l j
  on_goes m d (Commit n confirmed_kind timeout persist id) a x d' l j = (x, j.0, j.1, tied x d' (judged_links (or_invalid (first (commit_refusals m n confirmed_kind timeout persist id)) (verdict m.candidate)) m (with_trial (with_running m m.candidate) (trial_after m.trial (begin n timeout persist))) a x d d' l (λ e. tried_links m d n timeout persist id e l) j.0 j.1))
  on_goes m d (Cancel n id) a x d' l j = (x, j.0, j.1, tied x d' (judged_links (first (cancel_refusals m n id)) m (after_event m cancel) a x d d' l (λ e. event_links m d cancel (cancel_ends m.trial) l) j.0 j.1))
  on_goes m d (Elapse n) a x d' l j = (x, j.0, j.1, tied x d' (judged_links (first (elapse_refusals m n)) m (after_event m (elapse n)) a x d d' l (λ e. event_links m d (elapse n) (elapse_ends m.trial n) l) j.0 j.1))
  on_goes m d Restart a x d' l j = restart_keeps m m d a x d' (tied m d l) j

  -- ---- while the engine is off every call but a restart is refused, and nothing changes
  off_judged : (o : Option EngineFault) (y m dy dm : Model) (a : Answer) (x' : Model) → is_some o ≡ true → Judged o y dy a x' → Judged o m dm a m × (x' ≡ y)
  off_judged (Some f) y m dy dm a x' h j = ((j.0, refl), j.1)
  off_judged None y m dy dm a x' h j = absurd (let z : ◌≡◌ {A = ℕ} 0 1 = cc in omega arith)

  off_edits : (o : Option EngineFault) (y m : Model) (n : ℕ) (items : Option (List Item)) (a : Answer) (x' : Model) → is_some o ≡ true → EditsUnless o (nodes s) y n items a x' → EditsUnless o (nodes s) m n items a m × (x' ≡ y)
  off_edits (Some f) y m n items a x' h j = ((j.0, refl), j.1)
  off_edits None y m n items a x' h j = absurd (let z : ◌≡◌ {A = ℕ} 0 1 = cc in omega arith)

  off_gets : (o : Option EngineFault) (y m : Model) (k : ℕ) (a : Answer) (x' : Model) → is_some o ≡ true → GetsUnless o y k a x' → GetsUnless o m k a m × (x' ≡ y)
  off_gets (Some f) y m k a x' h j = ((j.0, refl), j.1)
  off_gets None y m k a x' h j = absurd (let z : ◌≡◌ {A = ℕ} 0 1 = cc in omega arith)

  off_stores : (o : Option EngineFault) (y m : Model) (d : D) (a : Answer) (x' : Model) (d' : D) → is_some o ≡ true → StoresUnless blocks powered raises reads writes o y d a x' d' → StandsUnless o m a m × WritesUnless blocks raises reads writes o m a d d' × (x' ≡ y) × (d' ≡ d)
  off_stores (Some f) y m d a x' d' h j = ((j.0, refl), j.2, j.1, j.2)
  off_stores None y m d a x' d' h j = absurd (let z : ◌≡◌ {A = ℕ} 0 1 = cc in omega arith)

  some_or : (o : Option EngineFault) (v : Result Unit Broken) → is_some o ≡ true → is_some (or_invalid o v) ≡ true
  some_or (Some f) v h = refl
  some_or None v h = absurd (let z : ◌≡◌ {A = ℕ} 0 1 = cc in omega arith)

  second_some : (a b : Bool) (p q : EngineFault) (rest : Option EngineFault) → b ≡ false → is_some (cond a (Some p) (cond (not b) (Some q) rest)) ≡ true
  second_some true b p q rest e = refl
  second_some false true p q rest e = absurd (let z : ◌≡◌ {A = ℕ} 0 1 = cc in omega arith)
  second_some false false p q rest e = refl

  third_some : (a b c : Bool) (p q r : EngineFault) (rest : Option EngineFault) → c ≡ false → is_some (cond a (Some p) (cond b (Some q) (cond (not c) (Some r) rest))) ≡ true
  third_some true b c p q r rest e = refl
  third_some false true c p q r rest e = refl
  third_some false false true p q r rest e = absurd (let z : ◌≡◌ {A = ℕ} 0 1 = cc in omega arith)
  third_some false false false p q r rest e = refl

  fourth_some : (a b c d : Bool) (p q r t : EngineFault) (rest : Option EngineFault) → d ≡ false → is_some (cond a (Some p) (cond b (Some q) (cond c (Some r) (cond (not d) (Some t) rest)))) ≡ true
  fourth_some true b c d p q r t rest e = refl
  fourth_some false true c d p q r t rest e = refl
  fourth_some false false true d p q r t rest e = refl
  fourth_some false false false true p q r t rest e = absurd (let z : ◌≡◌ {A = ℕ} 0 1 = cc in omega arith)
  fourth_some false false false false p q r t rest e = refl

  -- the same model, tied to what is left equal
  stays_tied : (m : Model) (k : List Entry) (d d' : D) (x' : Model) → L m d → m.on ≡ false → x' ≡ with_standing m k → d' ≡ d → Tied x' m d'
  stays_tied m k d d' x' l off is same =
      record {
        agrees = record { known = k; same = is; knows = λ on. absurd (let t : true ≡ false = sym on ∙ off in let z : ◌≡◌ {A = ℕ} 0 1 = cc in omega arith) };
        linked = subst (L m) (sym same) l;
      }

  off_goes : (m : Model) (k : List Entry) (d : D) (c : Call) (a : Answer) (x : Model) (d' : D) → L m d → m.on ≡ false → A (with_standing m k) d c a x d' → Goes (with_standing m k) m d c a x d'
  off_goes m k d (Open n) a x d' l off j =
      let o = off_judged (first (open_refusals m n)) (with_standing m k) m _ _ a x (second_some (not (is_session n)) m.on (Plain SessionNumber) (Plain EngineOff) _ off) j.0 in
      (m, o.0, j.1, stays_tied m k d d' x l off o.1 j.1)
  off_goes m k d (Close n) a x d' l off j =
      let o = off_judged (first (close_refusals m n)) (with_standing m k) m _ _ a x (second_some (not (is_session n)) m.on (Plain SessionNumber) (Plain EngineOff) _ off) j.0 in
      (m, o.0, j.1, stays_tied m k d d' x l off o.1 j.1)
  off_goes m k d (Lock n t) a x d' l off j =
      let o = off_judged (first (lock_refusals m n t)) (with_standing m k) m _ _ a x (third_some (not (is_session n)) (not (is_datastore t)) m.on (Plain SessionNumber) (Plain DatastoreNumber) (Plain EngineOff) _ off) j.0 in
      (m, o.0, j.1, stays_tied m k d d' x l off o.1 j.1)
  off_goes m k d (Unlock n t) a x d' l off j =
      let o = off_judged (first (unlock_refusals m n t)) (with_standing m k) m _ _ a x (third_some (not (is_session n)) (not (is_datastore t)) m.on (Plain SessionNumber) (Plain DatastoreNumber) (Plain EngineOff) _ off) j.0 in
      (m, o.0, j.1, stays_tied m k d d' x l off o.1 j.1)
  off_goes m k d (Edit n w items) a x d' l off j =
      let o = off_edits (first (edit_refusals m n w (is_some j.0.items))) (with_standing m k) m w j.0.items a x (fourth_some (not (is_some j.0.items)) (not (is_session n)) (not (is_some (option_at w))) m.on (Plain no_list) (Plain SessionNumber) (Plain OptionNumber) (Plain EngineOff) _ off) j.0.answer in
      (m, record { items = j.0.items; are = j.0.are; answer = o.0 }, j.1, stays_tied m k d d' x l off o.1 j.1)
  off_goes m k d (Discard n) a x d' l off j =
      let o = off_judged (first (discard_refusals m n)) (with_standing m k) m _ _ a x (second_some (not (is_session n)) m.on (Plain SessionNumber) (Plain EngineOff) _ off) j.0 in
      (m, o.0, j.1, stays_tied m k d d' x l off o.1 j.1)
  off_goes m k d (Validate n t) a x d' l off j =
      let o = off_judged (or_invalid (first (validate_refusals m n t)) (verdict (contents m t))) (with_standing m k) m _ _ a x (some_or (first (validate_refusals m n t)) (verdict (contents m t)) (third_some (not (is_session n)) (not (is_datastore t)) m.on (Plain SessionNumber) (Plain DatastoreNumber) (Plain EngineOff) _ off)) j.0 in
      (m, o.0, j.1, stays_tied m k d d' x l off o.1 j.1)
  off_goes m k d (Get n t room) a x d' l off j =
      let o = off_gets (first (get_refusals m n t room)) (with_standing m k) m t a x (fourth_some (not (is_session n)) (not (is_datastore t)) (ltb room 769) m.on (Plain SessionNumber) (Plain DatastoreNumber) (Plain ShortOutput) (Plain EngineOff) _ off) j.0 in
      (m, o.0, j.1, stays_tied m k d d' x l off o.1 j.1)
  off_goes m k d (Commit n plain_kind timeout persist id) a x d' l off j =
      let o = off_stores (or_invalid (first (commit_refusals m n plain_kind timeout persist id)) (verdict m.candidate)) (with_standing m k) m d a x d' (some_or (first (commit_refusals m n plain_kind timeout persist id)) (verdict m.candidate) (third_some (not (is_session n)) (not (of_kind plain_kind timeout persist)) m.on (Plain SessionNumber) (Plain CommitNumbers) (Plain EngineOff) _ off)) j in
      (m, o.0, o.1, stays_tied m k d d' x l off o.2 o.3)
  off_goes m k d (Commit n confirmed_kind timeout persist id) a x d' l off j =
      let o = off_judged (or_invalid (first (commit_refusals m n confirmed_kind timeout persist id)) (verdict m.candidate)) (with_standing m k) m _ _ a x (some_or (first (commit_refusals m n confirmed_kind timeout persist id)) (verdict m.candidate) (third_some (not (is_session n)) (not (of_kind confirmed_kind timeout persist)) m.on (Plain SessionNumber) (Plain CommitNumbers) (Plain EngineOff) _ off)) j.0 in
      (m, o.0, j.1, stays_tied m k d d' x l off o.1 j.1)
  off_goes m k d (Cancel n id) a x d' l off j =
      let o = off_judged (first (cancel_refusals m n id)) (with_standing m k) m _ _ a x (second_some (not (is_session n)) m.on (Plain SessionNumber) (Plain EngineOff) _ off) j.0 in
      (m, o.0, j.1, stays_tied m k d d' x l off o.1 j.1)
  off_goes m k d (Elapse n) a x d' l off j =
      let o = off_judged (first (elapse_refusals m n)) (with_standing m k) m _ _ a x (second_some (ltb 1000000 n) m.on (Plain TooManySeconds) (Plain EngineOff) _ off) j.0 in
      (m, o.0, j.1, stays_tied m k d d' x l off o.1 j.1)
  off_goes m k d Restart a x d' l off j = restart_keeps (with_standing m k) m d a x d' (stays_tied m k d d (with_standing m k) l off refl refl) j

  -- every call goes by the rules, and what it leaves is tied to the next model
  pub keeps : (x m : Model) (d : D) (c : Call) (a : Answer) (x' : Model) (d' : D) → Tied x m d → A x d c a x' d' → Goes x m d c a x' d'
  keeps x m d c a x' d' t j = go m.on refl
    where
      go : (b : Bool) → m.on ≡ b → Goes x m d c a x' d'
      go true on = on_goes m d c a x' d' t.linked (subst (λ (y : Model). A y d c a x' d') (while_on x m t.agrees on) j)
      go false off = off_goes m t.agrees.known d c a x' d' t.linked off (subst (λ (y : Model). A y d c a x' d') t.agrees.same j)

  -- ---- a format that is done
  formatted_by : (es : List Entry) (d d' : D) (m m' : Model) {r : Result Unit StoreFault} {bs : List Block} {p : Bool} → Lawful (nodes s) es → verdict es ≡ Ok tt → standing.FormatOutcome es (blocks d) r bs p → bs ≡ blocks d' → p ≡ powered d' → FormattedAs m es r (powered d') Done m' → (m' ≡ fresh es) × L (fresh es) d'
  formatted_by es d d' m m' lawful valid (standing.FormatOutcome.done idle') eb ep j =
      (j.1 ∙ ap (with_on (fresh es)) (sym ep), fresh_links es d' lawful valid (sym ep) (subst (λ (b : List Block). Idle b es) eb idle'))
  formatted_by es d d' m m' lawful valid (standing.FormatOutcome.cut t) eb ep j = absurd (let k = j.0 in let z : ◌≡◌ {A = ℕ} 0 1 = cc in omega arith)

  abbrev Started : List ℕ → Model → D → Type 0
  Started bytes m' d' = (es : List Entry) × Lawful (nodes s) es × (bytes ≡ image es) × (m' ≡ fresh es) × L (fresh es) d'

  large_starts : (es : List Entry) (bytes : List ℕ) (b : Bool) (m : Model) (d : D) (m' : Model) (d' : D) → small (blocks d) ≡ b → Lawful (nodes s) es → bytes ≡ image es → verdict es ≡ Ok tt → MatchBool b (Refuses (Store TooSmall) m d Done m' d') (FormatsTo blocks powered raises reads writes m es d Done m' d') → Started bytes m' d'
  large_starts es bytes true m d m' d' e lawful is valid j = absurd (let k = j.0 in let z : ◌≡◌ {A = ℕ} 0 1 = cc in omega arith)
  large_starts es bytes false m d m' d' e lawful is valid j =
      let room : 51 ≤ length (blocks d) = ltb-false (length (blocks d)) 51 e in
      let outcome = (stands rule-u rule-r rule-w un-r un-w).format d es j.result d' room (large (blocks d) (Formats blocks raises reads writes d es j.result d') j.result d d' room j.formatted) in
      let f = formatted_by es d d' m m' lawful valid outcome refl refl j.answer in
      (es, lawful, is, f.0, f.1)

  valid_starts : (es : List Entry) (bytes : List ℕ) (v : Result Unit Broken) (m : Model) (d : D) (m' : Model) (d' : D) → verdict es ≡ v → Lawful (nodes s) es → bytes ≡ image es → FormatsValid blocks powered raises reads writes v m es d Done m' d' → Started bytes m' d'
  valid_starts es bytes (Err b) m d m' d' e lawful is j = absurd (let k = j.0 in let z : ◌≡◌ {A = ℕ} 0 1 = cc in omega arith)
  valid_starts es bytes (Ok done) m d m' d' e lawful is j = large_starts es bytes (small (blocks d)) m d m' d' refl lawful is e j

  image_starts : (bytes : List ℕ) (o : Option (List Entry)) (m : Model) (d : D) (m' : Model) (d' : D) → ImageOf (nodes s) bytes o → FormatsImage blocks powered raises reads writes verdict o m d Done m' d' → Started bytes m' d'
  image_starts bytes None m d m' d' i j = absurd (let k = j.0 in let z : ◌≡◌ {A = ℕ} 0 1 = cc in omega arith)
  image_starts bytes (Some es) m d m' d' i j = valid_starts es bytes (verdict es) m d m' d' refl i.0 i.1 j

  -- the formatted configuration is in all places, and its model is tied to the device
  pub starts : (bytes : List ℕ) (m : Model) (d : D) (m' : Model) (d' : D) → Formatting blocks powered raises reads writes (Ok s) verdict bytes m d Done m' d' → (es : List Entry) × Lawful (nodes s) es × (bytes ≡ image es) × (m' ≡ fresh es) × Tied m' (fresh es) d'
  starts bytes m d m' d' j =
      let r = image_starts bytes j.entries m d m' d' j.are j.answer in
      (r.0, r.1, r.2, r.3, subst (λ (y : Model). Tied y (fresh r.0) d') (sym r.3) (tied (fresh r.0) d' r.4))

-- a format that is done has a lawful schema
pub lawful_schema : {D : Type 0} (blocks : D → List Block) (powered : D → Bool) (raises : D → D → Type 0) (reads : D → ℕ → Result Block DeviceFault → D → Type 0) (writes : D → ℕ → List ℕ → Result Unit DeviceFault → D → Type 0) (schema : Result Schema SchemaFault) (verdict : List Entry → Result Unit Broken) (bytes : List ℕ) (m : Model) (d : D) (m' : Model) (d' : D) → Formatting blocks powered raises reads writes schema verdict bytes m d Done m' d' → (s : Schema) × (schema ≡ Ok s)
lawful_schema blocks powered raises reads writes (Ok s) verdict bytes m d m' d' j = (s, refl)
lawful_schema blocks powered raises reads writes (Err f) verdict bytes m d m' d' j = absurd (let k = j.0 in let z : ◌≡◌ {A = ℕ} 0 1 = cc in omega arith)
