-- The parts of a recovery put together.
use Rattle.std.proofs.Common.{◌≡◌, ℕ, ◌≤◌, Bool, List, [], ◌∷◌, ◌++◌, length, get_or, Some, None, Ok, Err, MatchBool, Option, Result, sym, refl, ap, ◌∙◌, subst, arith}
use Rattle.std.specs.Option.{ok_or}
use Rattle.std.proofs.lemmas.List.{append_assoc}
use Rattle.std.proofs.lemmas.Bool.{le-ltb}
use Rattle.device.specs.declared.Block.{Block}
use Rattle.device.specs.declared.Block.TheVariants.{Good, Damaged}
use Rattle.device.specs.declared.DeviceFault.{DeviceFault}
use Rattle.device.specs.Power.{ReadAnswer, WriteAnswer}
use Rattle.device.specs.Accesses.{Access, read, Carried, all, read_on, read_fails}
use Rattle.device.specs.View.{after}
use Rattle.device.proofs.Carrying.{carried_then, carried_ends, after_append}
use Rattle.schema.specs.declared.nodes.Node.{Node}
use Rattle.config.specs.Configs.{used}
use Rattle.config.specs.declared.config.Config.{Config}
use Rattle.config.specs.declared.entry.Entry.{Entry}
use Rattle.journal.specs.Layout.{Pages, parse}
use Rattle.journal.specs.Plans.{Write, as_writes, closed}
use Rattle.journal.specs.Restart.{read_run, homes_after, paired, with_records, by_targets, by_header, pending, stored, Judged, Restores, reads_until, target_reads, record_reads, repairs, restart_plan}
use Rattle.journal.proofs.Plan.{written_out}
use Rattle.journal.proofs.Restarting.{reads_leave, records_read}
use Rattle.journal.proofs.Steps.{closed_homes}
use Rattle.store.specs.Accepting.{Accepts}
use Rattle.store.specs.Calls.{Given, UnlessSmall}
use Rattle.store.specs.Faults.{told}
use Rattle.store.specs.Mending.{mends, EndedBy, Redone, Mended}
use Rattle.store.specs.Running.{Ran, RanTo}
use Rattle.store.specs.declared.faults.StoreFault.{StoreFault}
use Rattle.store.specs.declared.faults.StoreFault.TheVariants.{TooSmall, Device, Corrupt}
use Rattle.store.proofs.Made.{carried_blocks}

-- a device that is not too small
pub large : {D T : Type 0} (bs : List Block) (made : Type 0) (r : Result T StoreFault) (d e : D) → 51 ≤ length bs → made → UnlessSmall bs made r d e
large bs made r d e h m = subst (λ (b : Bool). MatchBool b ((r ≡ Err TooSmall) × (e ≡ d)) made) (sym (le-ltb (length bs) 51 h)) m

append_none : (xs : List Access) → xs ++ [] ≡ xs
append_none [] = refl
append_none (x ∷ xs) = ap (λ (l : List Access). x ∷ l) (append_none xs)

module _ {D : Type 0} {reads : D → ℕ → Result Block DeviceFault → D → Type 0} {writes : D → ℕ → List ℕ → Result Unit DeviceFault → D → Type 0} where
  then_none : {xs : List Access} {d e : D} {r : Result Unit DeviceFault} → Carried reads writes d xs r e → Carried reads writes d (xs ++ []) r e
  then_none {xs} c = rw (append_none xs) c

  -- ---- the records
  -- a record was not read
  unread : (ts : List ℕ) (s : Result Pages ℕ) (q : Result Unit DeviceFault) (f : StoreFault) (rows : Pages) {plan : List Access} {d e : D} {r : Result Unit StoreFault} → RanTo s q (Err f) rows → Carried reads writes d plan q e → r ≡ Err f → Carried reads writes d (plan ++ mends (with_records ts s)) q e × EndedBy (with_records ts s) q r
  unread ts s (Err h) f rows a c e = (carried_ends (mends (with_records ts s)) c, e ∙ a)
  unread ts (Ok ps) (Ok done) f rows a c e = absurd (let x = a.0 in let z : ◌≡◌ {A = ℕ} 0 1 = cc in omega arith)
  unread ts (Err k) (Ok done) f rows a c e = (then_none c, e ∙ a)

  -- all were, and the writes home follow
  were_read : (ts : List ℕ) (s : Result Pages ℕ) (q : Result Unit DeviceFault) (rows : Pages) {plan : List Access} {d e e' : D} (q' : Result Unit DeviceFault) {r : Result Unit StoreFault} → RanTo s q (Ok tt) rows → Carried reads writes d plan q e → Carried reads writes e (as_writes (closed (paired ts rows))) q' e' → r ≡ told q' → Carried reads writes d (plan ++ mends (with_records ts s)) q' e' × EndedBy (with_records ts s) q' r
  were_read ts s (Err h) rows q' a c c' e = absurd (let z : ◌≡◌ {A = ℕ} 0 1 = cc in omega arith)
  were_read ts (Err k) (Ok done) rows q' a c c' e = absurd (let z : ◌≡◌ {A = ℕ} 0 1 = cc in omega arith)
  were_read ts (Ok ps) (Ok done) rows {plan} {d} {e = m} {e' = e'} q' a c c' e = (
    carried_then c (subst (λ (l : Pages). Carried reads writes m (as_writes (closed (paired ts l))) q' e') a.1 c'),
    ended q' e,
  )
    where
      ended : (x : Result Unit DeviceFault) {r : Result Unit StoreFault} → r ≡ told x → EndedBy (Ok (paired ts ps)) x r
      ended (Ok done') h = h
      ended (Err f) h = h

module _ {D : Type 0} {blocks : D → List Block} {reads : D → ℕ → Result Block DeviceFault → D → Type 0} {writes : D → ℕ → List ℕ → Result Unit DeviceFault → D → Type 0} (ts : List ℕ) {rows rows' : Pages} (long : length rows ≡ length ts) {d e : D} {r : Result Unit StoreFault} where
  pub redo_unread : (f : StoreFault) → Ran blocks reads writes d 1 rows (Err f) rows' e → r ≡ Err f → Redone blocks reads writes ts d r e
  redo_unread f ran lost =
      let p = unread ts (read_run (blocks d) 1 (length ts)) ran.ended f rows' (rw long at ran.answer) (rw long at ran.made) lost in
      record { ended = ran.ended; carried = p.0; answer = p.1 }

  pub redo_done : {m : D} (q : Result Unit DeviceFault) → Ran blocks reads writes d 1 rows (Ok tt) rows' m → Carried reads writes m (as_writes (closed (paired ts rows'))) q e → r ≡ told q → Redone blocks reads writes ts d r e
  redo_done q ran made is =
      let p = were_read ts (read_run (blocks d) 1 (length ts)) ran.ended rows' q {r = r} (rw long at ran.answer) (rw long at ran.made) made is in
      record { ended = q; carried = p.0; answer = p.1 }

-- ---- the header
module _ {D : Type 0} (blocks : D → List Block) (reads : D → ℕ → Result Block DeviceFault → D → Type 0) (writes : D → ℕ → List ℕ → Result Unit DeviceFault → D → Type 0) (d e : D) (r : Result Unit StoreFault) where
  abbrev ToldBy : Block → Type 0
  ToldBy b = (q : Result Unit DeviceFault) × Carried reads writes d (read 0 ∷ (record_reads (blocks d) b ++ mends (by_header (blocks d) b))) q e × EndedBy (by_header (blocks d) b) q r

  pub by_block : (b : Block) → b ≡ get_or (blocks d) 0 Damaged → ToldBy b → Mended blocks reads writes d r e
  by_block b is t =
      let u : ToldBy (get_or (blocks d) 0 Damaged) = subst ToldBy is t in
      record { ended = u.0; carried = u.1; answer = u.2 }

  abbrev ToldOf : Option (List ℕ) → Type 0
  ToldOf o = (q : Result Unit DeviceFault) × Carried reads writes d (read 0 ∷ (target_reads (blocks d) o ++ mends (by_targets (blocks d) o))) q e × EndedBy (by_targets (blocks d) o) q r

  pub by_parse : (h : List ℕ) (o : Option (List ℕ)) → Good h ≡ get_or (blocks d) 0 Damaged → o ≡ parse h → ToldOf o → Mended blocks reads writes d r e
  by_parse h o is p t = by_block (Good h) is (subst ToldOf p t)

  pub unread_header : (f : DeviceFault) → reads d 0 (Err f) e → r ≡ Err (Device f) → Mended blocks reads writes d r e
  unread_header f s a = record { ended = Err f; carried = read_fails s; answer = a }

  pub damaged_header : (b : Block) → b ≡ Damaged → reads d 0 (Ok b) e → b ≡ get_or (blocks d) 0 Damaged → r ≡ Ok tt → Mended blocks reads writes d r e
  damaged_header b is s there a = by_block Damaged (sym is ∙ there) (Ok tt, read_on s all, a)

  pub bad_header : (b : Block) (h : List ℕ) → b ≡ Good h → reads d 0 (Ok b) e → b ≡ get_or (blocks d) 0 Damaged → None ≡ parse h → r ≡ Err (Corrupt 0) → Mended blocks reads writes d r e
  bad_header b h is s there p a = by_parse h None (sym is ∙ there) p (Ok tt, read_on s all, a)

  pub empty_header : (b : Block) (h : List ℕ) → b ≡ Good h → reads d 0 (Ok b) e → b ≡ get_or (blocks d) 0 Damaged → Some [] ≡ parse h → r ≡ Ok tt → Mended blocks reads writes d r e
  unfolding read_run reads_until
  empty_header b h is s there p a = by_parse h (Some []) (sym is ∙ there) p (Ok tt, read_on s all, a)

  pub full_header : (b : Block) (h ts : List ℕ) (d' : D) → b ≡ Good h → reads d 0 (Ok b) d' → b ≡ get_or (blocks d) 0 Damaged → Some ts ≡ parse h → blocks d' ≡ blocks d → Redone blocks reads writes ts d' r e → Mended blocks reads writes d r e
  full_header b h ts d' is s there p same m =
      let plan : List Block → Type 0 = λ l. Carried reads writes d' (reads_until l 1 (length ts) ++ mends (with_records ts (read_run l 1 (length ts)))) m.ended e in
      let answer : List Block → Type 0 = λ l. EndedBy (with_records ts (read_run l 1 (length ts))) m.ended r in
      by_parse h (Some ts) (sym is ∙ there) p (m.ended, read_on s (subst plan same m.carried), subst answer same m.answer)

-- ---- the home blocks
abbrev home_reads : List Block → Result (List Write) ℕ → List Access
home_reads bs (Err k) = []
home_reads bs (Ok ws) = reads_until (after (as_writes (closed ws)) bs) 26 25

repairs_are : (bs : List Block) (o : Result (List Write) ℕ) → repairs bs o ≡ mends o ++ home_reads bs o
repairs_are bs (Err k) = refl
repairs_are bs (Ok ws) = refl

abbrev mend_plan : List Block → List Access
mend_plan bs = read 0 ∷ (record_reads bs (get_or bs 0 Damaged) ++ mends (pending bs))

restart_parts : (bs : List Block) → restart_plan bs ≡ mend_plan bs ++ home_reads bs (pending bs)
unfolding restart_plan
restart_parts bs =
    let rs = record_reads bs (get_or bs 0 Damaged) in
    ap (λ (l : List Access). read 0 ∷ (rs ++ l)) (repairs_are bs (pending bs))
    ∙ ap (λ (l : List Access). read 0 ∷ l) (sym (append_assoc rs (mends (pending bs)) (home_reads bs (pending bs))))

mended_blocks : (bs : List Block) (ws : List Write) → pending bs ≡ Ok ws → after (mend_plan bs) bs ≡ written_out (closed ws) bs
mended_blocks bs ws e =
    let rs = record_reads bs (get_or bs 0 Damaged) in
    after_append rs (mends (pending bs)) bs
    ∙ ap (after (mends (pending bs))) (reads_leave rs bs (records_read bs (get_or bs 0 Damaged)))
    ∙ ap (λ (o : Result (List Write) ℕ). after (mends o) bs) e

stored_by : (bs : List Block) (ws : List Write) (s : Result Pages ℕ) → pending bs ≡ Ok ws → read_run (written_out (closed ws) bs) 26 25 ≡ s → stored bs ≡ s
unfolding stored
stored_by bs ws s e h = ap (homes_after bs) e ∙ sym (closed_homes bs ws) ∙ h

stored_fault : (bs : List Block) (k : ℕ) → pending bs ≡ Err k → stored bs ≡ Err k
unfolding stored
stored_fault bs k e = ap (homes_after bs) e

judged_as : (ns : List Node) (bs : List Block) (s : Result Pages ℕ) (q : Result (List Entry) ℕ) → stored bs ≡ s → Judged ns s q → Restores ns bs q
judged_as ns bs s q e j = subst (λ (t : Result Pages ℕ). Judged ns t q) (sym e) j

-- what is answered to the home blocks
abbrev pub answered : Option Config → Result Config StoreFault
answered o = ok_or o (Corrupt 26)

module _ {D : Type 0} (reads : D → ℕ → Result Block DeviceFault → D → Type 0) (writes : D → ℕ → List ℕ → Result Unit DeviceFault → D → Type 0) (ns : List Node) (bs : List Block) (d : D) where
  -- how a recovery ended, over the blocks that it found
  abbrev pub Whole : Result Config StoreFault → D → Type 0
  Whole r e = (q : Result Unit DeviceFault) × Carried reads writes d (restart_plan bs) q e × Given ns bs q r

  as_restart : (xs : List Access) {e : D} {q : Result Unit DeviceFault} → mend_plan bs ++ xs ≡ restart_plan bs → Carried reads writes d (mend_plan bs ++ xs) q e → Carried reads writes d (restart_plan bs) q e
  as_restart xs {e = e} {q = q} h c = subst (λ (l : List Access). Carried reads writes d l q e) h c

  -- the journal was not mended
  pub not_mended : (o : Result (List Write) ℕ) (q : Result Unit DeviceFault) (f : StoreFault) {e : D} {r : Result Config StoreFault} → pending bs ≡ o → EndedBy o q (Err f) → Carried reads writes d (mend_plan bs) q e → r ≡ Err f → Whole r e
  not_mended o (Err h) f p a c is =
      let k : Err f ≡ Err (Device h) = a in
      (Err h, as_restart (home_reads bs (pending bs)) (sym (restart_parts bs)) (carried_ends (home_reads bs (pending bs)) c), is ∙ ap Err (of k))
    where
      of : {x y : StoreFault} → ◌≡◌ {A = Result Unit StoreFault} (Err x) (Err y) → x ≡ y
      of e = cc
  not_mended (Ok ws) (Ok done) f p a c is = absurd (let z : ◌≡◌ {A = ℕ} 0 1 = cc in omega arith)
  not_mended (Err k) (Ok done) f {e} {r} p a c is =
      let none : mend_plan bs ++ [] ≡ restart_plan bs = ap (λ (o : Result (List Write) ℕ). mend_plan bs ++ home_reads bs o) (sym p) ∙ sym (restart_parts bs) in
      let h : ◌≡◌ {A = Result Config StoreFault} r (Err (Corrupt k)) = is ∙ ap Err (of a) in
      (Ok tt, as_restart [] none (then_none c), subst (Given ns bs (Ok tt)) (sym h) (judged_as ns bs (Err k) (Err k) (stored_fault bs k p) refl))
    where
      of : {x y : StoreFault} → ◌≡◌ {A = Result Unit StoreFault} (Err x) (Err y) → x ≡ y
      of w = cc

  -- it was, and the home blocks are read
  module _ (ws : List Write) (p : pending bs ≡ Ok ws) {d' : D} (c : Carried reads writes d (mend_plan bs) (Ok tt) d') where
    then_homes : {e : D} {q : Result Unit DeviceFault} → Carried reads writes d' (reads_until (written_out (closed ws) bs) 26 25) q e → Carried reads writes d (restart_plan bs) q e
    then_homes m =
        as_restart (reads_until (written_out (closed ws) bs) 26 25) (ap (λ (o : Result (List Write) ℕ). mend_plan bs ++ home_reads bs o) (sym p) ∙ sym (restart_parts bs)) (carried_then c m)

    pub homes_unread : (s : Result Pages ℕ) (q : Result Unit DeviceFault) (f : StoreFault) (rows : Pages) {e : D} {r : Result Config StoreFault} → read_run (written_out (closed ws) bs) 26 25 ≡ s → RanTo s q (Err f) rows → Carried reads writes d' (reads_until (written_out (closed ws) bs) 26 25) q e → r ≡ Err f → Whole r e
    homes_unread s (Err h) f rows i a m is = (Err h, then_homes m, is ∙ ap Err (of a))
      where
        of : {x y : StoreFault} → ◌≡◌ {A = Result Unit StoreFault} (Err x) (Err y) → x ≡ y
        of w = cc
    homes_unread (Ok ps) (Ok done) f rows i a m is = absurd (let x = a.0 in let z : ◌≡◌ {A = ℕ} 0 1 = cc in omega arith)
    homes_unread (Err k) (Ok done) f rows {r = r} i a m is =
        let h : ◌≡◌ {A = Result Config StoreFault} r (Err (Corrupt k)) = is ∙ ap Err (of a) in
        (Ok tt, then_homes m, subst (Given ns bs (Ok tt)) (sym h) (judged_as ns bs (Err k) (Err k) (stored_by bs ws (Err k) p i) refl))
      where
        of : {x y : StoreFault} → ◌≡◌ {A = Result Unit StoreFault} (Err x) (Err y) → x ≡ y
        of w = cc

    judged : (ps : Pages) (o : Option Config) → stored bs ≡ Ok ps → Accepts ns ps o → Given ns bs (Ok tt) (answered o)
    judged ps (Some cf) i a = judged_as ns bs (Ok ps) (Ok (used cf)) i a
    judged ps None i a = judged_as ns bs (Ok ps) (Err 26) i a

    pub homes_read : (s : Result Pages ℕ) (q : Result Unit DeviceFault) (rows : Pages) (o : Option Config) {e : D} → read_run (written_out (closed ws) bs) 26 25 ≡ s → RanTo s q (Ok tt) rows → Carried reads writes d' (reads_until (written_out (closed ws) bs) 26 25) q e → Accepts ns rows o → Whole (answered o) e
    homes_read s (Err h) rows o i a m acc = absurd (let z : ◌≡◌ {A = ℕ} 0 1 = cc in omega arith)
    homes_read (Err k) (Ok done) rows o i a m acc = absurd (let z : ◌≡◌ {A = ℕ} 0 1 = cc in omega arith)
    homes_read (Ok ps) (Ok done) rows o i a m acc = (Ok tt, then_homes m, judged ps o (stored_by bs ws (Ok ps) p i) (subst (λ (l : Pages). Accepts ns l o) a.1 acc))

-- a journal that was mended
pub mended_ok : (o : Result (List Write) ℕ) (q : Result Unit DeviceFault) → EndedBy o q (Ok tt) → (ws : List Write) × (o ≡ Ok ws) × (q ≡ Ok tt)
mended_ok o (Err f) a = absurd (let z : ◌≡◌ {A = ℕ} 0 1 = cc in omega arith)
mended_ok (Ok ws) (Ok done) a = (ws, refl, refl)
mended_ok (Err k) (Ok done) a = absurd (let z : ◌≡◌ {A = ℕ} 0 1 = cc in omega arith)

-- ---- a recovery, by its calls
module _ {D : Type 0} (blocks : D → List Block) (powered : D → Bool) (reads : D → ℕ → Result Block DeviceFault → D → Type 0) (writes : D → ℕ → List ℕ → Result Unit DeviceFault → D → Type 0)
    (rule-r : (d e : D) (at : ℕ) (r : Result Block DeviceFault) → reads d at r e → ReadAnswer (blocks d) (powered d) at r (blocks e) (powered e))
    (rule-w : (d e : D) (at : ℕ) (bytes : List ℕ) (r : Result Unit DeviceFault) → writes d at bytes r e → WriteAnswer (blocks d) (powered d) at bytes r (blocks e) (powered e))
    (ns : List Node) (bs : List Block) (d : D) (same : blocks d ≡ bs) where
  mend_carried : {r : Result Unit StoreFault} {e : D} (m : Mended blocks reads writes d r e) → Carried reads writes d (mend_plan bs) m.ended e
  mend_carried {e = e} m = subst (λ (l : List Block). Carried reads writes d (mend_plan l) m.ended e) same m.carried

  mend_answer : {r : Result Unit StoreFault} {e : D} (m : Mended blocks reads writes d r e) → EndedBy (pending bs) m.ended r
  mend_answer {r} m = subst (λ (l : List Block). EndedBy (pending l) m.ended r) same m.answer

  pub unmended : (f : StoreFault) {e : D} {r : Result Config StoreFault} → Mended blocks reads writes d (Err f) e → r ≡ Err f → Whole reads writes ns bs d r e
  unmended f m is = not_mended reads writes ns bs d (pending bs) m.ended f refl (mend_answer m) (mend_carried m) is

  module _ {d' : D} (m : Mended blocks reads writes d (Ok tt) d') where
    mended : (ws : List Write) × (pending bs ≡ Ok ws) × (m.ended ≡ Ok tt)
    mended = mended_ok (pending bs) m.ended (mend_answer m)

    ok_carried : Carried reads writes d (mend_plan bs) (Ok tt) d'
    ok_carried = subst (λ (q : Result Unit DeviceFault). Carried reads writes d (mend_plan bs) q d') mended.2 (mend_carried m)

    then_blocks : blocks d' ≡ written_out (closed mended.0) bs
    then_blocks = carried_blocks rule-r rule-w ok_carried ∙ ap (after (mend_plan bs)) same ∙ mended_blocks bs mended.0 mended.1

    run_is : (n : ℕ) → n ≡ 25 → read_run (blocks d') 26 n ≡ read_run (written_out (closed mended.0) bs) 26 25
    run_is n e = ap (λ (k : ℕ). read_run (blocks d') 26 k) e ∙ ap (λ (l : List Block). read_run l 26 25) then_blocks

    reads_are : (n : ℕ) → n ≡ 25 → reads_until (blocks d') 26 n ≡ reads_until (written_out (closed mended.0) bs) 26 25
    reads_are n e = ap (λ (k : ℕ). reads_until (blocks d') 26 k) e ∙ ap (λ (l : List Block). reads_until l 26 25) then_blocks

    home_carried : {rows rows' : Pages} {r : Result Unit StoreFault} {e : D} → length rows ≡ 25 → (a : Ran blocks reads writes d' 26 rows r rows' e) → Carried reads writes d' (reads_until (written_out (closed mended.0) bs) 26 25) a.ended e
    home_carried {rows} {e = e} long a = subst (λ (l : List Access). Carried reads writes d' l a.ended e) (reads_are (length rows) long) a.made

    home_answer : {rows rows' : Pages} {r : Result Unit StoreFault} {e : D} → length rows ≡ 25 → (a : Ran blocks reads writes d' 26 rows r rows' e) → RanTo (read_run (written_out (closed mended.0) bs) 26 25) a.ended r rows'
    home_answer {rows} {rows'} {r} long a = subst (λ (s : Result Pages ℕ). RanTo s a.ended r rows') (run_is (length rows) long) a.answer

    pub unread_homes : (f : StoreFault) {rows rows' : Pages} {e : D} {r : Result Config StoreFault} → length rows ≡ 25 → Ran blocks reads writes d' 26 rows (Err f) rows' e → r ≡ Err f → Whole reads writes ns bs d r e
    unread_homes f {rows' = rows'} long a is =
        homes_unread reads writes ns bs d mended.0 mended.1 ok_carried (read_run (written_out (closed mended.0) bs) 26 25) a.ended f rows' refl (home_answer long a) (home_carried long a) is

    pub read_homes : (o : Option Config) {rows rows' : Pages} {e : D} → length rows ≡ 25 → Ran blocks reads writes d' 26 rows (Ok tt) rows' e → Accepts ns rows' o → Whole reads writes ns bs d (answered o) e
    read_homes o {rows' = rows'} long a acc =
        homes_read reads writes ns bs d mended.0 mended.1 ok_carried (read_run (written_out (closed mended.0) bs) 26 25) a.ended rows' o refl (home_answer long a) (home_carried long a) acc
