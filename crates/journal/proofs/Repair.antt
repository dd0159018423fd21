-- A restart that is cut off leaves what it found to the next one.
use Rattle.std.proofs.Common.{◌≡◌, ℕ, ◌<◌, ◌≤◌, List, [], ◌∷◌, length, set, Ok, sym, refl, ap, ◌∙◌, subst, inl, inr, arith, length-set, get_or-set_other, get_or-set_same}
use Rattle.device.specs.declared.Block.{Block}
use Rattle.device.specs.declared.Block.TheVariants.{Good, Damaged}
use Rattle.journal.proofs.Plan.{Cut, written_out}
use Rattle.journal.specs.Layout.{Pages, header_of}
use Rattle.journal.specs.Plans.{Write, closed}
use Rattle.journal.specs.Restart.{read_run, homes, by_targets, by_header, pending, homes_after, stored, Quiet}
use Rattle.journal.proofs.Frame.{Reached, torn_reached, done_reached, same_length, frame, redo, split, written_out_both, none, one, apart_below}
use Rattle.journal.proofs.Found.{same_run, same_pending, pending_rises, pending_none, header_reads}

-- nothing is journalled, and the home blocks have these bytes
pub record IdlePages (bs : List Block) (hs : Pages) : Type 0 where
  pub room : 51 ≤ length bs
  pub header : Quiet bs
  pub home : homes bs ≡ Ok hs

-- the header is no home block
pub homes_set : (bs : List Block) (b : Block) → homes (set bs 0 b) ≡ homes bs
homes_set bs b = same_run (set bs 0 b) bs 26 25 (λ i p q. get_or-set_other bs 0 i b Damaged (omega arith))

pub quiet_pending : (bs : List Block) → Quiet bs → pending bs ≡ Ok []
unfolding read_run
quiet_pending bs (inl e) = ap (by_header bs) e
quiet_pending bs (inr e) = ap (by_header bs) e ∙ ap (by_targets bs) (header_reads [] refl)

pub quiet_restored : (bs : List Block) → Quiet bs → stored bs ≡ homes bs
unfolding stored
quiet_restored bs q = ap (homes_after bs) (quiet_pending bs q)

-- writes home that are pending, and were begun
module _ (bs : List Block) (ws : List Write) (room : 51 ≤ length bs) (asks : pending bs ≡ Ok ws) where
  begun : (bs' : List Block) → Reached ws bs bs' → stored bs' ≡ homes (written_out ws bs)
  unfolding stored
  begun bs' r =
      let up = pending_rises bs ws asks in
      let still : pending bs' ≡ pending bs = same_pending bs' bs (λ i h. frame r i (apart_below i 26 51 ws h up)) in
      ap (homes_after bs') (still ∙ asks) ∙ ap homes (redo 26 51 up room r)

  pub wide : 0 < length (written_out ws bs)
  wide = omega (arith, same_length (done_reached ws bs))

  -- the header written_out the writes home, left in any of the three ways
  ended : {at : ℕ} {bs' : List Block} → Cut ((0, header_of []) ∷ []) (written_out ws bs) at bs' → stored bs' ≡ homes (written_out ws bs)
  ended t =
      one 0 (header_of []) (λ at l. stored l ≡ homes (written_out ws bs))
      (begun (written_out ws bs) (done_reached ws bs))
      (quiet_restored (set (written_out ws bs) 0 (Good (header_of []))) (inr (get_or-set_same (written_out ws bs) 0 (Good (header_of [])) Damaged wide)) ∙ homes_set (written_out ws bs) (Good (header_of [])))
      (quiet_restored (set (written_out ws bs) 0 Damaged) (inl (get_or-set_same (written_out ws bs) 0 Damaged Damaged wide)) ∙ homes_set (written_out ws bs) Damaged)
      t

pub pending_recovers : (bs : List Block) (ws : List Write) → 51 ≤ length bs → pending bs ≡ Ok ws → {at : ℕ} {bs' : List Block} → Cut (closed ws) bs at bs' → stored bs' ≡ homes (written_out ws bs)
pending_recovers bs [] room asks t = absurd (none t)
pending_recovers bs (w ∷ ws) room asks {bs' = bs'} t =
    elim (split (w ∷ ws) ((0, header_of []) ∷ []) t) [
      | inl a ↦ begun bs (w ∷ ws) room asks bs' (torn_reached a)
      | inr b ↦ ended bs (w ∷ ws) room asks b
    ]

pub pending_finishes : (bs : List Block) (ws : List Write) (hs : Pages) → 51 ≤ length bs → pending bs ≡ Ok ws → homes (written_out ws bs) ≡ Ok hs → IdlePages (written_out (closed ws) bs) hs
pending_finishes bs [] hs room asks h = record { room = room; header = pending_none bs asks; home = h }
pending_finishes bs (w ∷ ws) hs room asks h =
    let end : written_out (closed (w ∷ ws)) bs ≡ set (written_out (w ∷ ws) bs) 0 (Good (header_of [])) = written_out_both (w ∷ ws) ((0, header_of []) ∷ []) bs in
    let size : length (written_out (w ∷ ws) bs) ≡ length bs = same_length (done_reached (w ∷ ws) bs) in
    subst (λ (l : List Block). IdlePages l hs) (sym end)
    (record {
      room = omega (arith, length-set (written_out (w ∷ ws) bs) 0 (Good (header_of [])));
      header = inr (get_or-set_same (written_out (w ∷ ws) bs) 0 (Good (header_of [])) Damaged (omega arith));
      home = homes_set (written_out (w ∷ ws) bs) (Good (header_of [])) ∙ h;
    })
