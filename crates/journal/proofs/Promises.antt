-- The laws of the journal, over configurations.
use Rattle.std.proofs.Common.{◌≡◌, ℕ, zero, suc, ◌+◌, ◌≤◌, Bool, true, false, cond, List, [], ◌∷◌, ◌++◌, length, get_or, set, Some, None, Ok, Err, Option, Result, sym, refl, ap, ◌∙◌, subst, inr, arith, length-set, get_or-set_same}
use lib.ListN.{length-map}
use Rattle.std.proofs.lemmas.Slice.Eq.{bytes_eq-Decides}
use Rattle.std.specs.Str.{bytes_eq}
use Rattle.device.specs.declared.Block.{Block}
use Rattle.device.specs.declared.Block.TheVariants.{Good, Damaged}
use Rattle.device.specs.Accesses.{Access}
use Rattle.device.specs.View.{after, Within}
use Rattle.device.proofs.Carrying.{length_torn, within_append}
use Rattle.schema.specs.declared.nodes.Node.{Node}
use Rattle.config.specs.Lawful.{Lawful}
use Rattle.config.specs.declared.entry.Entry.{Entry}
use Rattle.journal.specs.Layout.{Pages, header_of, home_pages, parse}
use Rattle.journal.specs.Plans.{Write, as_writes, run_from, empty_header, format_plan, changes, changed, targets, pages, records, header_write, closed, journalled, commit_plan}
use Rattle.journal.specs.Restart.{read_run, pending, stored, Accepted, Judged, Restores, reads_until, unless_damaged, target_reads, record_reads, repairs, restart_plan, Idle}
use Rattle.journal.specs.Laws.{HeaderReads, HeaderAlone, RestoresOnce, IdleRestores, Recovered, kept, moved, CommitRecovers, CommitDecides, CommitFinishes, CommitWrites, FormatFinishes, RepairRecovers, RepairFinishes, none, again, RestartsKeep, PlansWithin}
use Rattle.journal.proofs.Plan.{Cut, cut_of, written_out, as_writes_append}
use Rattle.journal.proofs.Frame.{Rises, Reached, torn_reached, done_reached, same_length, frame, written_out_both, run_rises, apart_below}
use Rattle.journal.proofs.Frame as plan
use Rattle.journal.proofs.Found.{Holds, holds_read, read_holds, header_reads, header_length, few, parse_rising, parse_whole, pending_rises, rises_rising}
use Rattle.journal.proofs.Repair.{IdlePages, homes_set, quiet_restored}
use Rattle.journal.proofs.Commit.{FoundPages, changes_rise, changes_done, run_done, early, late, cut_off, finished}
use Rattle.journal.proofs.Commit as commit
use Rattle.journal.proofs.Pages.{length_homes, homes_same}
use Rattle.journal.proofs.Restarting.{stored_kept, stored_finishes}

pub headers_read : HeaderReads
headers_read ts r = (header_length ts (few 26 ts (omega arith) r), header_reads ts r)

pub headers_alone : HeaderAlone
headers_alone h ts e = (parse_whole h ts e, parse_rising h ts e)

-- ---- what blocks restore to
accepted_once : (ns : List Node) (ps : Pages) (r q : Result (List Entry) ℕ) → Accepted ns ps r → Accepted ns ps q → r ≡ q
accepted_once ns ps (Ok es) (Ok fs) a b = ap Ok (homes_same es fs a.0.few b.0.few (sym a.1 ∙ b.1))
accepted_once ns ps (Ok es) (Err k) a b = absurd (b.1 es a.0 a.1)
accepted_once ns ps (Err k) (Ok fs) a b = absurd (a.1 fs b.0 b.1)
accepted_once ns ps (Err k) (Err j) a b = ap Err (a.0 ∙ sym b.0)

judged_once : (ns : List Node) (s : Result Pages ℕ) (r q : Result (List Entry) ℕ) → Judged ns s r → Judged ns s q → r ≡ q
judged_once ns (Ok ps) r q a b = accepted_once ns ps r q a b
judged_once ns (Err k) r q a b = a ∙ sym b

pub restores_once : RestoresOnce
restores_once ns bs r q a b = judged_once ns (stored bs) r q a b

pub restores_from : (ns : List Node) (bs : List Block) (es : List Entry) → Lawful ns es → stored bs ≡ Ok (home_pages es) → Restores ns bs (Ok es)
restores_from ns bs es l e = subst (λ (s : Result Pages ℕ). Judged ns s (Ok es)) (sym e) (l, refl)

judged_stored : (ns : List Node) (s : Result Pages ℕ) (es : List Entry) → Judged ns s (Ok es) → Lawful ns es × (s ≡ Ok (home_pages es))
judged_stored ns (Ok ps) es a = (a.0, ap Ok a.1)
judged_stored ns (Err k) es a = absurd (let z : ◌≡◌ {A = ℕ} 0 1 = cc in omega arith)

pub restores_stored : (ns : List Node) (bs : List Block) (es : List Entry) → Restores ns bs (Ok es) → Lawful ns es × (stored bs ≡ Ok (home_pages es))
restores_stored ns bs es a = judged_stored ns (stored bs) es a

pub idle_stored : (bs : List Block) (es : List Entry) → Idle bs es → stored bs ≡ Ok (home_pages es)
idle_stored bs es i = quiet_restored bs i.header ∙ i.home

pub idle_restores : IdleRestores
idle_restores ns bs es l i = restores_from ns bs es l (idle_stored bs es i)

as_idle : (bs : List Block) (es : List Entry) → IdlePages bs (home_pages es) → Idle bs es
as_idle bs es i = record { room = i.room; header = i.header; home = i.home }

as_pages : (bs : List Block) (es : List Entry) → Idle bs es → IdlePages bs (home_pages es)
as_pages bs es i = record { room = i.room; header = i.header; home = i.home }

-- ---- commits
module _ (ns : List Node) (old new : List Entry) (lo : Lawful ns old) (ln : Lawful ns new) where
  found : {at : ℕ} {bs' : List Block} → FoundPages (home_pages old) (home_pages new) at bs' → Recovered ns old new at bs'
  found {bs' = bs'} (commit.FoundPages.kept h e) = kept h (restores_from ns bs' old lo e)
  found {bs' = bs'} (commit.FoundPages.moved h e) = moved h (restores_from ns bs' new ln e)

  recovers : (bs : List Block) (at : ℕ) (bs' : List Block) → Idle bs old → (cs : List Write) → changed old new ≡ cs → Cut (journalled cs) bs at bs' → Recovered ns old new at bs'
  recovers bs at bs' idle [] is t = absurd (plan.none t)
  recovers bs at bs' idle (w ∷ ws) is t =
      found (cut_off bs (home_pages old) (home_pages new) (length_homes new) (as_pages bs old idle) (w ∷ ws) is t)

pub commit_recovers : CommitRecovers
commit_recovers ns bs old new at bs' lo ln idle t =
    recovers ns old new lo ln bs at bs' idle (changed old new) refl (cut_of (commit_plan old new) t)

pub commit_decides : CommitDecides
commit_decides ns bs old new at bs' lo ln idle =
    let cs = changed old new in
    let i = as_pages bs old idle in (
      λ t. restores_from ns bs' old lo (early bs (home_pages old) (home_pages new) (length_homes new) i cs refl bs' (torn_reached (cut_of (records cs) t))),
      λ t. restores_from ns bs' new ln
          (late bs (home_pages old) (home_pages new) (length_homes new) i cs refl
          (subst (λ (l : List Block). Cut (closed cs) l at bs') (written_out_both (records cs) (header_write cs ∷ []) bs) (cut_of (closed cs) t))),
    )

finishes : (bs : List Block) (old new : List Entry) → Idle bs old → (cs : List Write) → changed old new ≡ cs → IdlePages (written_out (journalled cs) bs) (home_pages new)
finishes bs old new idle [] is =
    let i = as_pages bs old idle in
    let h = read_holds bs 26 25 (home_pages old) i.home in
    let size : length (home_pages new) ≡ length (home_pages old) = length_homes new ∙ sym (length_homes old) in
    let d : Holds (written_out (changed old new) bs) 26 (home_pages new) = changes_done 26 (home_pages old) (home_pages new) bs size (omega (arith, i.room, h.1)) h.0 in
    record {
      room = i.room;
      header = i.header;
      home = subst (λ (k : ℕ). read_run bs 26 k ≡ Ok (home_pages new)) (length_homes new) (holds_read bs 26 (home_pages new) (subst (λ (l : List Write). Holds (written_out l bs) 26 (home_pages new)) is d));
    }
finishes bs old new idle (w ∷ ws) is = finished bs (home_pages old) (home_pages new) (length_homes new) (as_pages bs old idle) (w ∷ ws) is

pub commit_finishes : CommitFinishes
commit_finishes bs old new idle = as_idle (written_out (commit_plan old new) bs) new (finishes bs old new idle (changed old new) refl)

-- no changes between equal blocks, and none only between those
pub no_change : (n : ℕ) (ps : Pages) → changes n ps ps ≡ []
no_change n [] = refl
no_change n (p ∷ ps) =
    ap (λ (b : Bool). cond b (changes (n + 1) ps ps) ((n, p) ∷ changes (n + 1) ps ps)) ((bytes_eq-Decides p p).1 refl) ∙ no_change (n + 1) ps

no_change_step : (n : ℕ) (o x : List ℕ) (os xs : Pages) (b : Bool) → bytes_eq o x ≡ b → (changes (n + 1) os xs ≡ [] → os ≡ xs) → cond b (changes (n + 1) os xs) ((n, x) ∷ changes (n + 1) os xs) ≡ [] → ◌≡◌ {A = Pages} (o ∷ os) (x ∷ xs)
no_change_step n o x os xs true same rest none' =
    let first : o ≡ x = (bytes_eq-Decides o x).0 same in
    let more : os ≡ xs = rest none' in
    cc
no_change_step n o x os xs false differ rest none' = absurd (let z : ◌≡◌ {A = ℕ} 0 1 = cc in omega arith)

pub none_changed : (n : ℕ) (os xs : Pages) → length os ≡ length xs → changes n os xs ≡ [] → os ≡ xs
none_changed n [] [] l e = refl
none_changed n [] (x ∷ xs) l e = absurd (omega arith)
none_changed n (o ∷ os) [] l e = absurd (omega arith)
none_changed n (o ∷ os) (x ∷ xs) l e = no_change_step n o x os xs (bytes_eq o x) refl (none_changed (n + 1) os xs (omega arith)) e

nothing_journalled : (cs : List Write) → journalled cs ≡ [] → cs ≡ []
nothing_journalled [] e = refl
nothing_journalled (w ∷ ws) e = absurd (let z : ◌≡◌ {A = ℕ} 0 1 = cc in omega arith)

pub commit_writes : CommitWrites
commit_writes ns old new lo ln = (
  λ e. homes_same old new lo.few ln.few (none_changed 26 (home_pages old) (home_pages new) (length_homes old ∙ sym (length_homes new)) (nothing_journalled (changed old new) e)),
  λ e. ap (λ (es : List Entry). commit_plan old es) (sym e) ∙ ap journalled (no_change 26 (home_pages old)),
)

-- ---- formats
pub format_finishes : FormatFinishes
format_finishes bs es room =
    let ps = home_pages es in
    let rows = run_from 26 ps in
    let size : 26 + length ps ≤ 51 = omega (arith, length_homes es) in
    let end : written_out (format_plan es) bs ≡ set (written_out rows bs) 0 (Good (header_of [])) = written_out_both rows (empty_header ∷ []) bs in
    let long : length (written_out rows bs) ≡ length bs = same_length (done_reached rows bs) in
    let holds : Holds (written_out rows bs) 26 ps = run_done 26 ps bs (omega arith) in
    subst (λ (l : List Block). Idle l es) (sym end)
    (record {
      room = omega (arith, length-set (written_out rows bs) 0 (Good (header_of [])));
      header = inr (get_or-set_same (written_out rows bs) 0 (Good (header_of [])) Damaged (omega arith));
      home =
          homes_set (written_out rows bs) (Good (header_of []))
          ∙ subst (λ (k : ℕ). read_run (written_out rows bs) 26 k ≡ Ok ps) (length_homes es) (holds_read (written_out rows bs) 26 ps holds);
    })

-- ---- restarts
pub repair_recovers : RepairRecovers
repair_recovers ns bs r at bs' room a t = subst (λ (s : Result Pages ℕ). Judged ns s r) (sym (stored_kept bs room t)) a

pub repair_finishes : RepairFinishes
repair_finishes ns bs es room a = as_idle (after (restart_plan bs) bs) es (stored_finishes bs room (home_pages es) (restores_stored ns bs es a).1)

pub restarts_keep : RestartsKeep
restarts_keep ns bs bs' r room none a = a
restarts_keep ns bs bs'' r room (again {bs' = bs'} {at = at} t more) a =
    restarts_keep ns bs' bs'' r (omega (arith, length_torn t)) more (repair_recovers ns bs r at bs' room a t)

-- ---- which blocks are touched
within_writes : (lo : ℕ) (ws : List Write) → Rises lo 51 ws → Within 51 (as_writes ws)
within_writes lo [] r = tt
within_writes lo (w ∷ ws) r = (r.1, within_writes (w.0 + 1) ws r.2)

within_both : (xs ys : List Write) → Within 51 (as_writes xs) → Within 51 (as_writes ys) → Within 51 (as_writes (xs ++ ys))
within_both xs ys a b = subst (Within 51) (sym (as_writes_append xs ys)) (within_append 51 (as_writes xs) (as_writes ys) a b)

within_closed : (ws : List Write) → Rises 26 51 ws → Within 51 (as_writes (closed ws))
within_closed [] r = tt
within_closed (w ∷ ws) r = within_both (w ∷ ws) (empty_header ∷ []) (within_writes 26 (w ∷ ws) r) (omega arith, tt)

within_format : (es : List Entry) → Within 51 (as_writes (format_plan es))
within_format es =
    within_both (run_from 26 (home_pages es)) (empty_header ∷ []) (within_writes 26 (run_from 26 (home_pages es)) (run_rises 26 51 (home_pages es) (omega (arith, length_homes es)))) (omega arith, tt)

within_journalled : (cs : List Write) → Rises 26 51 cs → Within 51 (as_writes (journalled cs))
within_journalled [] r = tt
within_journalled (w ∷ ws) r =
    let short : 26 + length (targets (w ∷ ws)) ≤ 51 = few 26 (targets (w ∷ ws)) (omega arith) (rises_rising 26 (w ∷ ws) r) in
    let count : length (pages (w ∷ ws)) ≡ length (targets (w ∷ ws)) = length-map (w ∷ ws) (λ (x : Write). x.1) ∙ sym (length-map (w ∷ ws) (λ (x : Write). x.0)) in
    within_both (records (w ∷ ws)) (header_write (w ∷ ws) ∷ closed (w ∷ ws))
    (within_writes 1 (records (w ∷ ws)) (run_rises 1 51 (pages (w ∷ ws)) (omega arith)))
    (omega arith, within_closed (w ∷ ws) r)

within_commit : (old new : List Entry) → Within 51 (as_writes (commit_plan old new))
within_commit old new = within_journalled (changed old new) (changes_rise 26 51 (home_pages old) (home_pages new) (omega (arith, length_homes old)))

within_unless : (b : Block) (more : List Access) → Within 51 more → Within 51 (unless_damaged b more)
within_unless (Good x) more w = w
within_unless Damaged more w = tt

within_until : (bs : List Block) (first n : ℕ) → first + n ≤ 51 → Within 51 (reads_until bs first n)
unfolding reads_until
within_until bs first zero h = tt
within_until bs first (suc n) h =
    (omega arith, within_unless (get_or bs first Damaged) (reads_until bs (first + 1) n) (within_until bs (first + 1) n (omega arith)))

within_targets : (bs : List Block) (h : List ℕ) (o : Option (List ℕ)) → parse h ≡ o → Within 51 (target_reads bs o)
within_targets bs h None e = tt
within_targets bs h (Some ts) e = within_until bs 1 (length ts) (omega (arith, few 26 ts (omega arith) (parse_rising h ts e)))

within_records : (bs : List Block) (b : Block) → Within 51 (record_reads bs b)
within_records bs Damaged = tt
within_records bs (Good h) = within_targets bs h (parse h) refl

within_repairs : (bs : List Block) (o : Result (List Write) ℕ) → pending bs ≡ o → Within 51 (repairs bs o)
within_repairs bs (Err k) e = tt
within_repairs bs (Ok ws) e =
    within_append 51 (as_writes (closed ws)) (reads_until (after (as_writes (closed ws)) bs) 26 25) (within_closed ws (pending_rises bs ws e)) (within_until (after (as_writes (closed ws)) bs) 26 25 (omega arith))

within_restart : (bs : List Block) → Within 51 (restart_plan bs)
unfolding restart_plan
within_restart bs =
    (omega arith, within_append 51 (record_reads bs (get_or bs 0 Damaged)) (repairs bs (pending bs)) (within_records bs (get_or bs 0 Damaged)) (within_repairs bs (pending bs) refl))

pub plans_within : PlansWithin
plans_within = record { format = within_format; commit = within_commit; restart = within_restart }
