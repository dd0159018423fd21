-- Restarts that are cut off, and restarts that are carried out, reads and writes together.
use Rattle.std.proofs.Common.{◌≡◌, ℕ, zero, suc, ◌+◌, ◌≤◌, List, [], ◌∷◌, length, get_or, set, Some, None, Ok, Err, Option, Result, sym, refl, ap, ◌∙◌, subst, inl, inr, arith, get_or-set_same}
use Rattle.device.specs.declared.Block.{Block}
use Rattle.device.specs.declared.Block.TheVariants.{Good, Damaged}
use Rattle.device.specs.Accesses.{Access, read, write}
use Rattle.device.specs.View.{Torn, after}
use Rattle.device.specs.View as view
use Rattle.device.proofs.Carrying.{after_append, torn_cases}
use Rattle.journal.specs.Layout.{Pages, header_of, parse}
use Rattle.journal.specs.Plans.{Write, as_writes, closed, empty_header}
use Rattle.journal.specs.Restart.{homes, homes_after, pending, stored, unless_damaged, reads_until, target_reads, record_reads, repairs, restart_plan}
use Rattle.journal.proofs.Plan.{written_out, cut_of}
use Rattle.journal.proofs.Frame.{written_out_both}
use Rattle.journal.proofs.Repair.{IdlePages, homes_set, quiet_restored, pending_recovers, pending_finishes, wide}

-- accesses that are all reads
abbrev pub OnlyReads : List Access → Type 0
OnlyReads [] = Unit {0}
OnlyReads (read at ∷ rest) = OnlyReads rest
OnlyReads (write at bytes ∷ rest) = ⊥

pub reads_leave : (as' : List Access) (bs : List Block) → OnlyReads as' → after as' bs ≡ bs
reads_leave [] bs o = refl
reads_leave (read at ∷ rest) bs o = reads_leave rest bs o
reads_leave (write at bytes ∷ rest) bs o = absurd o

pub reads_torn : (as' : List Access) {bs bs' : List Block} {at : ℕ} → OnlyReads as' → Torn as' bs at bs' → bs' ≡ bs
reads_torn [] o t = elim t [ ]
reads_torn (read at ∷ rest) o (view.Torn.here view.Struck.reading) = refl
reads_torn (read at ∷ rest) o (view.Torn.later t) = reads_torn rest o t
reads_torn (write at bytes ∷ rest) o t = absurd o

unless_reads : (b : Block) (more : List Access) → OnlyReads more → OnlyReads (unless_damaged b more)
unless_reads (Good x) more o = o
unless_reads Damaged more o = tt

pub until_reads : (bs : List Block) (first n : ℕ) → OnlyReads (reads_until bs first n)
unfolding reads_until
until_reads bs first zero = tt
until_reads bs first (suc n) = unless_reads (get_or bs first Damaged) (reads_until bs (first + 1) n) (until_reads bs (first + 1) n)

targets_read : (bs : List Block) (o : Option (List ℕ)) → OnlyReads (target_reads bs o)
targets_read bs None = tt
targets_read bs (Some ts) = until_reads bs 1 (length ts)

pub records_read : (bs : List Block) (b : Block) → OnlyReads (record_reads bs b)
records_read bs Damaged = tt
records_read bs (Good h) = targets_read bs (parse h)

-- a repair that is carried out leaves what was pending
pub closed_stored : (bs : List Block) (ws : List Write) → 51 ≤ length bs → pending bs ≡ Ok ws → stored (written_out (closed ws) bs) ≡ homes (written_out ws bs)
unfolding stored
closed_stored bs [] room asks = ap (homes_after bs) asks
closed_stored bs (w ∷ ws) room asks =
    let end : written_out (closed (w ∷ ws)) bs ≡ set (written_out (w ∷ ws) bs) 0 (Good (header_of [])) = written_out_both (w ∷ ws) (empty_header ∷ []) bs in
    ap stored end
    ∙ quiet_restored (set (written_out (w ∷ ws) bs) 0 (Good (header_of []))) (inr (get_or-set_same (written_out (w ∷ ws) bs) 0 (Good (header_of [])) Damaged (wide bs (w ∷ ws) room asks)))
    ∙ homes_set (written_out (w ∷ ws) bs) (Good (header_of []))

module _ (bs : List Block) (room : 51 ≤ length bs) where
  was : (ws : List Write) → pending bs ≡ Ok ws → homes (written_out ws bs) ≡ stored bs
  unfolding stored
  was ws e = sym (ap (homes_after bs) e)

  in_repair : {at : ℕ} {bs' : List Block} (o : Result (List Write) ℕ) → pending bs ≡ o → Torn (repairs bs o) bs at bs' → stored bs' ≡ stored bs
  in_repair (Err k) e t = elim t [ ]
  in_repair (Ok ws) e t =
      elim (torn_cases (as_writes (closed ws)) t) [
        | inl a ↦ pending_recovers bs ws room e (cut_of (closed ws) a) ∙ was ws e
        | inr b ↦ ap stored (reads_torn (reads_until (written_out (closed ws) bs) 26 25) (until_reads (written_out (closed ws) bs) 26 25) b) ∙ closed_stored bs ws room e ∙ was ws e
      ]

  -- a cut restart leaves what it found to the next one
  pub stored_kept : {at : ℕ} {bs' : List Block} → Torn (restart_plan bs) bs at bs' → stored bs' ≡ stored bs
  unfolding restart_plan
  stored_kept (view.Torn.here view.Struck.reading) = refl
  stored_kept {at} {bs'} (view.Torn.later t) =
      let rs = record_reads bs (get_or bs 0 Damaged) in
      let only : OnlyReads rs = records_read bs (get_or bs 0 Damaged) in
      elim (torn_cases rs t) [
        | inl a ↦ ap stored (reads_torn rs only a)
        | inr b ↦ in_repair (pending bs) refl (subst (λ (l : List Block). Torn (repairs bs (pending bs)) l at bs') (reads_leave rs bs only) b)
      ]

  repaired : (o : Result (List Write) ℕ) (ws : List Write) → o ≡ Ok ws → after (repairs bs o) bs ≡ written_out (closed ws) bs
  repaired (Err k) ws e = absurd (let z : ◌≡◌ {A = ℕ} 0 1 = cc in omega arith)
  repaired (Ok vs) ws e =
      let same : vs ≡ ws = cc in
      after_append (as_writes (closed vs)) (reads_until (written_out (closed vs) bs) 26 25) bs
      ∙ reads_leave (reads_until (written_out (closed vs) bs) 26 25) (written_out (closed vs) bs) (until_reads (written_out (closed vs) bs) 26 25)
      ∙ ap (λ (l : List Write). written_out (closed l) bs) same

  -- a restart that is carried out leaves the blocks with what was pending done
  pub restarted : (ws : List Write) → pending bs ≡ Ok ws → after (restart_plan bs) bs ≡ written_out (closed ws) bs
  unfolding restart_plan
  restarted ws e =
      let rs = record_reads bs (get_or bs 0 Damaged) in
      after_append rs (repairs bs (pending bs)) bs
      ∙ ap (after (repairs bs (pending bs))) (reads_leave rs bs (records_read bs (get_or bs 0 Damaged)))
      ∙ repaired (pending bs) ws e

  finishes : (hs : Pages) (o : Result (List Write) ℕ) → pending bs ≡ o → homes_after bs o ≡ Ok hs → IdlePages (after (restart_plan bs) bs) hs
  finishes hs (Err k) e h = absurd (let z : ◌≡◌ {A = ℕ} 0 1 = cc in omega arith)
  finishes hs (Ok ws) e h = subst (λ (l : List Block). IdlePages l hs) (sym (restarted ws e)) (pending_finishes bs ws hs room e h)

  pub stored_finishes : (hs : Pages) → stored bs ≡ Ok hs → IdlePages (after (restart_plan bs) bs) hs
  unfolding stored
  stored_finishes hs h = finishes hs (pending bs) refl h
