-- A commit that is cut off is stored to the old home blocks or to the new.
use Rattle.std.proofs.Common.{◌≡◌, ℕ, ◌+◌, ◌<◌, ◌≤◌, Bool, true, false, cond, ◌⊎◌, List, [], ◌∷◌, ◌++◌, length, get_or, set, Ok, sym, refl, ap, ◌∙◌, subst, inl, inr, arith, length-set, get_or-set_other, get_or-set_same}
use lib.ListN.{length-map}
use Rattle.std.proofs.lemmas.Slice.Eq.{bytes_eq-Decides}
use Rattle.std.specs.Str.{bytes_eq}
use Rattle.device.specs.declared.Block.{Block}
use Rattle.device.specs.declared.Block.TheVariants.{Good, Damaged}
use Rattle.journal.proofs.Plan.{Cut, written_out}
use Rattle.journal.specs.Layout.{Pages, header_of}
use Rattle.journal.specs.Plans.{Write, run_from, closed, changes, targets, pages, records, header_write}
use Rattle.journal.specs.Restart.{read_run, homes, with_records, by_targets, by_header, pending, homes_after, stored}
use Rattle.journal.proofs.Frame.{Rises, Reached, torn_reached, done_reached, same_length, frame, split, written_out_both, none, one, apart_below, apart_above, rises_sooner, run_rises, failed_at}
use Rattle.journal.proofs.Found.{Holds, holds_read, read_holds, same_run, header_reads, few, rises_rising, paired_parts}
use Rattle.journal.proofs.Repair.{IdlePages, homes_set, quiet_restored, pending_recovers, pending_finishes}

-- the home blocks that differ rise
pub changes_rise : (n hi : ℕ) (old new : Pages) → n + length old ≤ hi → Rises n hi (changes n old new)
changes_rise n hi [] new h = tt
changes_rise n hi (o ∷ os) [] h = tt
changes_rise n hi (o ∷ os) (x ∷ xs) h =
    let rest : Rises (n + 1) hi (changes (n + 1) os xs) = changes_rise (n + 1) hi os xs (omega arith) in
    elim (bytes_eq o x) as (λ b. Rises n hi (cond b (changes (n + 1) os xs) ((n, x) ∷ changes (n + 1) os xs))) [
      | true ↦ rises_sooner n (n + 1) hi (changes (n + 1) os xs) (omega arith) rest
      | false ↦ (omega arith, omega arith, rest)
    ]

holds_same : (bs bs' : List Block) (n : ℕ) (xs : Pages) → ((i : ℕ) → n ≤ i → i < n + length xs → get_or bs' i Damaged ≡ get_or bs i Damaged) → Holds bs n xs → Holds bs' n xs
holds_same bs bs' n [] s h = tt
holds_same bs bs' n (x ∷ xs) s h = (s n (omega arith) (omega arith) ∙ h.0, holds_same bs bs' (n + 1) xs (λ i p q. s i (omega arith) (omega arith)) h.1)

change_done : (b : Bool) (n hi : ℕ) (o x : List ℕ) (cs : List Write) (xs : Pages) (bs : List Block) → bytes_eq o x ≡ b → Rises (n + 1) hi cs → n < length bs → get_or bs n Damaged ≡ Good o → Holds (written_out cs bs) (n + 1) xs → Holds (written_out cs (set bs n (Good x))) (n + 1) xs → Holds (written_out (cond b cs ((n, x) ∷ cs)) bs) n (x ∷ xs)
change_done true n hi o x cs xs bs e up room h same differ =
    (frame (done_reached cs bs) n (apart_below n (n + 1) hi cs (omega arith) up) ∙ h ∙ ap Good ((bytes_eq-Decides o x).0 e), same)
change_done false n hi o x cs xs bs e up room h same differ =
    (frame (done_reached cs (set bs n (Good x))) n (apart_below n (n + 1) hi cs (omega arith) up) ∙ get_or-set_same bs n (Good x) Damaged room, differ)

-- written over the old home blocks, they make the new
pub changes_done : (n : ℕ) (old new : Pages) (bs : List Block) → length new ≡ length old → n + length old ≤ length bs → Holds bs n old → Holds (written_out (changes n old new) bs) n new
changes_done n [] [] bs l room h = tt
changes_done n [] (x ∷ xs) bs l room h = absurd (omega arith)
changes_done n (o ∷ os) [] bs l room h = absurd (omega arith)
changes_done n (o ∷ os) (x ∷ xs) bs l room h =
    let wide : (n + 1) + length os ≤ length (set bs n (Good x)) = omega (arith, length-set bs n (Good x)) in
    change_done (bytes_eq o x) n ((n + 1) + length os) o x (changes (n + 1) os xs) xs bs refl
    (changes_rise (n + 1) ((n + 1) + length os) os xs (omega arith)) (omega arith) h.0
    (changes_done (n + 1) os xs bs (omega arith) (omega arith) h.1)
    (changes_done (n + 1) os xs (set bs n (Good x)) (omega arith) wide (holds_same bs (set bs n (Good x)) (n + 1) os (λ i p q. get_or-set_other bs n i (Good x) Damaged (omega arith)) h.1))

-- a run of blocks that was written
pub run_done : (n : ℕ) (xs : Pages) (bs : List Block) → n + length xs ≤ length bs → Holds (written_out (run_from n xs) bs) n xs
run_done n [] bs room = tt
run_done n (x ∷ xs) bs room =
    let wide : (n + 1) + length xs ≤ length (set bs n (Good x)) = omega (arith, length-set bs n (Good x)) in (
      frame (done_reached (run_from (n + 1) xs) (set bs n (Good x))) n (apart_below n (n + 1) ((n + 1) + length xs) (run_from (n + 1) xs) (omega arith) (run_rises (n + 1) ((n + 1) + length xs) xs (omega arith)))
          ∙ get_or-set_same bs n (Good x) Damaged (omega arith),
      run_done (n + 1) xs (set bs n (Good x)) wide,
    )

-- power that fails in the writes home or in the empty header
closed_at : (ws : List Write) {bs : List Block} {at : ℕ} {bs' : List Block} → Rises 26 51 ws → Cut (closed ws) bs at bs' → (at ≡ 0) ⊎ (26 ≤ at)
closed_at [] up t = absurd (none t)
closed_at (w ∷ ws) up t =
    elim (split (w ∷ ws) ((0, header_of []) ∷ []) t) [
      | inl a ↦ inr (failed_at 26 51 up a).0
      | inr b ↦ one 0 (header_of []) (λ k l. (k ≡ 0) ⊎ (26 ≤ k)) (inl refl) (inl refl) (inl refl) b
    ]

-- what a restart finds after a cut: the old home blocks, or the new
pub data FoundPages (old new : Pages) (at : ℕ) (bs : List Block) : Type 0 where
  kept : at < 26 → stored bs ≡ Ok old → FoundPages old new at bs
  moved : (at ≡ 0) ⊎ (26 ≤ at) → stored bs ≡ Ok new → FoundPages old new at bs

module _ (bs : List Block) (old new : Pages) (size : length new ≡ 25) (idle : IdlePages bs old) (cs : List Write) (is : changes 26 old new ≡ cs) where
  olds : Holds bs 26 old × (length old ≡ 25)
  olds = read_holds bs 26 25 old idle.home

  up : Rises 26 51 cs
  up = subst (Rises 26 51) is (changes_rise 26 51 old new (omega (arith, olds.1)))

  short : 26 + length cs ≤ 51
  short = omega (arith, few 26 (targets cs) (omega arith) (rises_rising 26 cs up), length-map cs (λ (w : Write). w.0))

  records_rise : Rises 1 26 (records cs)
  records_rise = run_rises 1 26 (pages cs) (omega (arith, short, length-map cs (λ (w : Write). w.1)))

  -- before the header a restart finds the old home blocks
  early_homes : (bs' : List Block) → Reached (records cs) bs bs' → homes bs' ≡ Ok old
  early_homes bs' r = same_run bs' bs 26 25 (λ i p q. frame r i (apart_above i 1 26 (records cs) p records_rise)) ∙ idle.home

  pub early : (bs' : List Block) → Reached (records cs) bs bs' → stored bs' ≡ Ok old
  early bs' r =
      let head : get_or bs' 0 Damaged ≡ get_or bs 0 Damaged = frame r 0 (apart_below 0 1 26 (records cs) (omega arith) records_rise) in
      quiet_restored bs' (subst (λ (b : Block). (b ≡ Damaged) ⊎ (b ≡ Good (header_of []))) (sym head) idle.header) ∙ early_homes bs' r

  -- the blocks with their records, and then with the header
  abbrev recorded : List Block
  recorded = written_out (records cs) bs

  abbrev headed : List Block
  headed = set recorded 0 (Good (header_of (targets cs)))

  recorded_room : 51 ≤ length recorded
  recorded_room = omega (arith, idle.room, same_length (done_reached (records cs) bs))

  headed_room : 51 ≤ length headed
  headed_room = omega (arith, recorded_room, length-set recorded 0 (Good (header_of (targets cs))))

  headed_records : Holds headed 1 (pages cs)
  headed_records =
      holds_same recorded headed 1 (pages cs) (λ i p q. get_or-set_other recorded 0 i (Good (header_of (targets cs))) Damaged (omega arith))
      (run_done 1 (pages cs) bs (omega (arith, idle.room, short, length-map cs (λ (w : Write). w.1))))

  headed_homes : homes headed ≡ Ok old
  headed_homes = homes_set recorded (Good (header_of (targets cs))) ∙ early_homes recorded (done_reached (records cs) bs)

  -- with the header a restart finds the changes
  headed_pending : pending headed ≡ Ok cs
  headed_pending =
      let count : length (targets cs) ≡ length (pages cs) = length-map cs (λ (w : Write). w.0) ∙ sym (length-map cs (λ (w : Write). w.1)) in
      ap (by_header headed) (get_or-set_same recorded 0 (Good (header_of (targets cs))) Damaged (omega (arith, recorded_room)))
      ∙ ap (by_targets headed) (header_reads (targets cs) (rises_rising 26 cs up))
      ∙ ap (λ (k : ℕ). with_records (targets cs) (read_run headed 1 k)) count
      ∙ ap (with_records (targets cs)) (holds_read headed 1 (pages cs) headed_records)
      ∙ ap Ok (paired_parts cs)

  -- and they make the new home blocks
  headed_new : homes (written_out cs headed) ≡ Ok new
  headed_new =
      let h : Holds headed 26 old = (read_holds headed 26 25 old headed_homes).0 in
      let d : Holds (written_out (changes 26 old new) headed) 26 new = changes_done 26 old new headed (size ∙ sym olds.1) (omega (arith, headed_room, olds.1)) h in
      subst (λ (k : ℕ). read_run (written_out cs headed) 26 k ≡ Ok new) size
      (holds_read (written_out cs headed) 26 new (subst (λ (l : List Write). Holds (written_out l headed) 26 new) is d))

  -- from the header on a restart finds the new home blocks
  pub late : {at : ℕ} {bs' : List Block} → Cut (closed cs) headed at bs' → stored bs' ≡ Ok new
  late d = pending_recovers headed cs headed_room headed_pending d ∙ headed_new

  pub cut_off : {at : ℕ} {bs' : List Block} → Cut (records cs ++ (header_write cs ∷ closed cs)) bs at bs' → FoundPages old new at bs'
  unfolding stored
  cut_off {bs' = bs'} t =
      elim (split (records cs) (header_write cs ∷ closed cs) t) [
        | inl a ↦ kept (failed_at 1 26 records_rise a).1 (early bs' (torn_reached a))
        | inr b ↦ elim (split (header_write cs ∷ []) (closed cs) b) [
          | inl c ↦ one 0 (header_of (targets cs)) (λ k l. FoundPages old new k l)
              (kept (omega arith) (early recorded (done_reached (records cs) bs)))
              (moved (inl refl) (ap (homes_after headed) headed_pending ∙ headed_new))
              (kept (omega arith)
              (quiet_restored (set recorded 0 Damaged) (inl (get_or-set_same recorded 0 Damaged Damaged (omega (arith, recorded_room))))
              ∙ homes_set recorded Damaged ∙ early_homes recorded (done_reached (records cs) bs)))
              c
          | inr d ↦ moved (closed_at cs up d) (late d)
        ]
      ]

  pub finished : IdlePages (written_out (records cs ++ (header_write cs ∷ closed cs)) bs) new
  finished =
      subst (λ (l : List Block). IdlePages l new) (sym (written_out_both (records cs) (header_write cs ∷ closed cs) bs))
      (pending_finishes headed cs new headed_room headed_pending headed_new)
