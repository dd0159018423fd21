-- What stands after the calls, from the laws of the device and of the journal.
use Rattle.std.proofs.Common.{◌≡◌, ℕ, ◌≤◌, Bool, true, false, List, [], ◌∷◌, length, Ok, Err, MatchBool, Result, sym, refl, ap, ◌∙◌, subst, arith}
use Rattle.std.proofs.lemmas.Bool.{le-ltb}
use Rattle.device.specs.declared.Block.{Block}
use Rattle.device.specs.declared.DeviceFault.{DeviceFault}
use Rattle.device.specs.declared.DeviceFault.TheVariants.{Refused}
use Rattle.device.specs.Power.{ReadAnswer, WriteAnswer}
use Rattle.device.specs.Accesses.{Access, Carried, all}
use Rattle.device.specs.View.{Executed, Torn, after, Within}
use Rattle.device.specs.View as view
use Rattle.device.proofs.Carrying.{seen, off_carried, length_torn}
use Rattle.schema.specs.declared.nodes.Node.{Node}
use Rattle.config.specs.Configs.{used}
use Rattle.config.specs.Lawful.{Lawful}
use Rattle.config.specs.declared.config.Config.{Config}
use Rattle.config.specs.declared.entry.Entry.{Entry}
use Rattle.journal.specs.Plans.{Write, as_writes, format_plan, commit_plan}
use Rattle.journal.specs.Restart.{Restores, restart_plan, Idle}
use Rattle.journal.proofs.Promises.{format_finishes, commit_recovers, commit_finishes, repair_recovers, repair_finishes, restores_once, plans_within}
use Rattle.store.specs.Calls.{Made, Formats, Recovers, Given, UnlessSmall}
use Rattle.store.specs.Faults.{told}
use Rattle.store.specs.Standing.{lost_at, FormatOutcome, ReplaceOutcome, RecoverOutcome, BlocksAfter, OffReplaces, Stands}
use Rattle.store.specs.Standing as standing
use Rattle.store.specs.declared.faults.StoreFault.{StoreFault}
use Rattle.store.specs.declared.faults.StoreFault.TheVariants.{TooSmall, Device, Corrupt}

-- a device that is not too small was not refused for that
pub not_small : {D T : Type 0} (bs : List Block) (made : Type 0) (r : Result T StoreFault) (d e : D) → 51 ≤ length bs → UnlessSmall bs made r d e → made
not_small bs made r d e h u = subst (λ (b : Bool). MatchBool b ((r ≡ Err TooSmall) × (e ≡ d)) made) (le-ltb (length bs) 51 h) u

within_more : (m n : ℕ) (xs : List Access) → m ≤ n → Within m xs → Within n xs
within_more m n [] h w = tt
within_more m n (x ∷ xs) h w = (omega (arith, w.0), within_more m n xs h w.1)

module _ {D : Type 0} {blocks : D → List Block} {powered : D → Bool} {raises : D → D → Type 0} {reads : D → ℕ → Result Block DeviceFault → D → Type 0} {writes : D → ℕ → List ℕ → Result Unit DeviceFault → D → Type 0}
    (rule-u : (d e : D) → raises d e → (blocks e ≡ blocks d) × (powered e ≡ true))
    (rule-r : (d e : D) (at : ℕ) (r : Result Block DeviceFault) → reads d at r e → ReadAnswer (blocks d) (powered d) at r (blocks e) (powered e))
    (rule-w : (d e : D) (at : ℕ) (bytes : List ℕ) (r : Result Unit DeviceFault) → writes d at bytes r e → WriteAnswer (blocks d) (powered d) at bytes r (blocks e) (powered e))
    (un-r : (d e : D) (at : ℕ) → reads d at (Err Refused) e → e ≡ d) (un-w : (d e : D) (at : ℕ) (bytes : List ℕ) → writes d at bytes (Err Refused) e → e ≡ d) where
  -- accesses of the first 51 blocks, seen on the blocks
  seen_in : {d e : D} {xs : List Access} {q : Result Unit DeviceFault} → 51 ≤ length (blocks d) → powered d ≡ true → Within 51 xs → Carried reads writes d xs q e → Executed xs (blocks d) q (blocks e) (powered e)
  seen_in {d} {xs = xs} room on near c = seen rule-r rule-w on (within_more 51 (length (blocks d)) xs room near) c

  -- the same after a power-up
  raised_in : {d d' e : D} {xs : List Access} {q : Result Unit DeviceFault} → 51 ≤ length (blocks d) → raises d d' → Within 51 xs → Carried reads writes d' xs q e → Executed xs (blocks d) q (blocks e) (powered e)
  raised_in {d} {d'} {e} {xs} {q} room up near c =
      let u = rule-u d d' up in
      subst (λ (bs : List Block). Executed xs bs q (blocks e) (powered e)) u.0 (seen_in (subst (λ (bs : List Block). 51 ≤ length bs) (sym u.0) room) u.1 near c)

  pub blocks_after : BlocksAfter blocks powered raises reads writes
  blocks_after = record {
    format = λ d es r e room f. let m = not_small (blocks d) (Formats blocks raises reads writes d es r e) r d e room f in (m.made.ended, raised_in room m.up (plans_within.format es) m.made.carried, m.made.answer);
    replace = λ d old new r e room on f. let m = not_small (blocks d) (Made reads writes d (as_writes (commit_plan old new)) r e) r d e room f in (m.ended, seen_in room on (plans_within.commit old new) m.carried, m.answer);
    recover = λ ns d r e room f. let m = not_small (blocks d) (Recovers blocks raises reads writes ns d r e) r d e room f in (m.ended, raised_in room m.up (plans_within.restart (blocks d)) m.carried, m.answer);
  }

  no_access : (q : Result Unit DeviceFault) (plan : List Write) (d e : D) → plan ≡ [] → Carried reads writes d (as_writes plan) q e → (q ≡ Ok tt) × (e ≡ d)
  no_access q plan d e is c = go (subst (λ (ws : List Write). Carried reads writes d (as_writes ws) q e) is c)
    where
      go : {x y : D} {p : Result Unit DeviceFault} → Carried reads writes x [] p y → (p ≡ Ok tt) × (y ≡ x)
      go all = (refl, refl)

  off_access : (plan : List Write) (d e : D) (q : Result Unit DeviceFault) → powered d ≡ false → (plan ≡ [] → ⊥) → Carried reads writes d (as_writes plan) q e → (q ≡ Err Refused) × (e ≡ d)
  off_access [] d e q off some c = absurd (some refl)
  off_access (w ∷ ws) d e q off some c = off_carried rule-r rule-w un-r un-w off c

  pub off_replaces : OffReplaces blocks powered raises reads writes
  off_replaces = record {
    unchanged = λ d old new r e room none f.
        let m = not_small (blocks d) (Made reads writes d (as_writes (commit_plan old new)) r e) r d e room f in
        let p = no_access m.ended (commit_plan old new) d e none m.carried in
        (m.answer ∙ ap told p.0, p.1);
    refused = λ d old new r e room off some f.
        let m = not_small (blocks d) (Made reads writes d (as_writes (commit_plan old new)) r e) r d e room f in
        let p = off_access (commit_plan old new) d e m.ended off some m.carried in
        (m.answer ∙ ap told p.0, p.1);
  }

  -- ---- what stands
  formatted : (es : List Entry) (before : List Block) (q : Result Unit DeviceFault) {bs : List Block} {p : Bool} (r : Result Unit StoreFault) → 51 ≤ length before → Executed (as_writes (format_plan es)) before q bs p → r ≡ told q → FormatOutcome es before r bs p
  formatted es before q r room view.Executed.whole is = subst (λ (x : Result Unit StoreFault). FormatOutcome es before x (after (as_writes (format_plan es)) before) true) (sym is) (standing.FormatOutcome.done (format_finishes before es room))
  formatted es before q r room (view.Executed.torn {bs' = bs} t) is = subst (λ (x : Result Unit StoreFault). FormatOutcome es before x bs false) (sym is) (standing.FormatOutcome.cut t)

  replaced : (ns : List Node) (old new : List Entry) (before : List Block) (q : Result Unit DeviceFault) {bs : List Block} {p : Bool} (r : Result Unit StoreFault) → Lawful ns old → Lawful ns new → Idle before old → Executed (as_writes (commit_plan old new)) before q bs p → r ≡ told q → ReplaceOutcome ns old new r bs p
  replaced ns old new before q r lo ln idle view.Executed.whole is = subst (λ (x : Result Unit StoreFault). ReplaceOutcome ns old new x (after (as_writes (commit_plan old new)) before) true) (sym is) (standing.ReplaceOutcome.done (commit_finishes before old new idle))
  replaced ns old new before q r lo ln idle (view.Executed.torn {at = at} {bs' = bs} t) is = subst (λ (x : Result Unit StoreFault). ReplaceOutcome ns old new x bs false) (sym is) (standing.ReplaceOutcome.cut (commit_recovers ns before old new at bs lo ln idle t))

  given : (ns : List Node) (es : List Entry) (before : List Block) (r : Result Config StoreFault) → 51 ≤ length before → Restores ns before (Ok es) → Given ns before (Ok tt) r → RecoverOutcome ns es r (after (restart_plan before) before) true
  given ns es before (Ok c) room s a =
      let same : used c ≡ es = of (restores_once ns before (Ok (used c)) (Ok es) a s) in
      standing.RecoverOutcome.done same (repair_finishes ns before es room s)
    where
      of : {x y : List Entry} → ◌≡◌ {A = Result (List Entry) ℕ} (Ok x) (Ok y) → x ≡ y
      of e = cc
  given ns es before (Err TooSmall) room s a = absurd a
  given ns es before (Err (Device f)) room s a = absurd a
  given ns es before (Err (Corrupt k)) room s a = absurd (of (restores_once ns before (Err k) (Ok es) a s))
    where
      of : {x : List Entry} {y : ℕ} → ◌≡◌ {A = Result (List Entry) ℕ} (Err y) (Ok x) → ⊥
      of e = let z : ◌≡◌ {A = ℕ} 0 1 = cc in omega arith

  recovered : (ns : List Node) (es : List Entry) (before : List Block) (q : Result Unit DeviceFault) {bs : List Block} {p : Bool} (r : Result Config StoreFault) → 51 ≤ length before → Restores ns before (Ok es) → Executed (restart_plan before) before q bs p → Given ns before q r → RecoverOutcome ns es r bs p
  recovered ns es before q r room s view.Executed.whole a = given ns es before r room s a
  recovered ns es before q r room s (view.Executed.torn {at = at} {bs' = bs} t) a =
      let wide : 51 ≤ length bs = omega (arith, length_torn t) in
      subst (λ (x : Result Config StoreFault). RecoverOutcome ns es x bs false) (sym a) (standing.RecoverOutcome.cut wide (repair_recovers ns before (Ok es) at bs room s t))

  pub stands : Stands blocks powered raises reads writes
  stands = record {
    format = λ d es r e room f. let v = blocks_after.format d es r e room f in formatted es (blocks d) v.0 r room v.1 v.2;
    replace = λ ns d old new r e lo ln idle on f. let v = blocks_after.replace d old new r e idle.room on f in replaced ns old new (blocks d) v.0 r lo ln idle v.1 v.2;
    recover = λ ns d es r e room s f. let v = blocks_after.recover ns d r e room f in recovered ns es (blocks d) v.0 r room s v.1 v.2;
  }
