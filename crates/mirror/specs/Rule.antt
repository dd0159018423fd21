-- A mirror keeps the power rule where its sides do. Assumes nothing.
use Rattle.std.specs.Prelude.{◌≡◌, ℕ, ◌<◌, true, List, length, get_or, set, Ok, Err, Result, slice_index_or, slice_set, refl}
use Rattle.std.proofs.Common.{sym, ap, ◌∙◌, arith}
use Rattle.std.proofs.lemmas.List.{set-get_or}
use Rattle.std.proofs.lemmas.Bool.{and_parts, and_from, and_left, and_right}
use Rattle.device.specs.declared.Block.{Block}
use Rattle.device.specs.declared.Block.TheVariants.{Good, Damaged}
use Rattle.device.specs.declared.Device.{Ghosts}
use Rattle.device.specs.declared.DeviceFault.{DeviceFault}
use Rattle.device.specs.declared.DeviceFault.TheVariants.{Refused}
use Rattle.device.specs.Power.{Left, ReadAnswer, WriteAnswer}
use Rattle.device.specs.Power as power
use Rattle.device.proofs.Answers.{read_same, read_lost, write_done, write_cut, left_before, left_written}
use Rattle.device.proofs.Facts.{found, wrote, lost_read, lost_write}
use Rattle.mirror.specs.Sides.{better, merged, both, both_on, MirrorRead, MirrorWrite}
use Rattle.mirror.specs.Sides as sides
use Rattle.mirror.specs.Merged.{length_merged, getD_merged, set_first, set_second, set_both}

-- what a cut write leaves in one side's block leaves in the mirror's
first_last : {x old : Block} (bytes kept : List ℕ) → old ≡ Good kept → Left old bytes x → Left (Good kept) bytes (better x (Good bytes))
first_last bytes kept is power.Left.before = rw is power.Left.before
first_last bytes kept is power.Left.written = power.Left.written
first_last bytes kept is power.Left.torn = power.Left.written

first_only : {x old : Block} (bytes : List ℕ) (other : Block) → old ≡ Damaged → Left old bytes x → Left other bytes (better x other)
first_only bytes other is power.Left.before = rw is power.Left.before
first_only bytes other is power.Left.written = power.Left.written
first_only bytes other is power.Left.torn = power.Left.before

module _ {A B : Type 0} (one : Ghosts A) (two : Ghosts B)
    (reading₁ : (d e : A) (at : ℕ) (r : Result Block DeviceFault) → one.reads d at r e → ReadAnswer (one.blocks d) (one.powered d) at r (one.blocks e) (one.powered e))
    (writing₁ : (d e : A) (at : ℕ) (bytes : List ℕ) (r : Result Unit DeviceFault) → one.writes d at bytes r e → WriteAnswer (one.blocks d) (one.powered d) at bytes r (one.blocks e) (one.powered e))
    (reading₂ : (d e : B) (at : ℕ) (r : Result Block DeviceFault) → two.reads d at r e → ReadAnswer (two.blocks d) (two.powered d) at r (two.blocks e) (two.powered e))
    (writing₂ : (d e : B) (at : ℕ) (bytes : List ℕ) (r : Result Unit DeviceFault) → two.writes d at bytes r e → WriteAnswer (two.blocks d) (two.powered d) at bytes r (two.blocks e) (two.powered e)) where
  here₁ : (a : A) (b : B) (at : ℕ) → at < length (both one two a b) → at < length (one.blocks a)
  here₁ a b at h = omega (arith, length_merged (one.blocks a) (two.blocks b))

  here₂ : (a : A) (b : B) (at : ℕ) → at < length (both one two a b) → at < length (two.blocks b)
  here₂ a b at h = omega (arith, length_merged (one.blocks a) (two.blocks b))

  pub read_rule : {a : A} {b : B} {at : ℕ} {r : Result Block DeviceFault} {a' : A} {b' : B} → both_on one two a b ≡ true → at < length (both one two a b) → MirrorRead one.reads two.reads a b at r a' b' → ReadAnswer (both one two a b) (both_on one two a b) at r (both one two a' b') (both_on one two a' b')
  read_rule on here (sides.MirrorRead.good {a} {a'} {b} {at} {bytes} s) =
      let o = and_parts (one.powered a) (two.powered b) on in
      let f = found (reading₁ a a' at (Ok (Good bytes)) s) in
      let is : Good bytes ≡ get_or (both one two a b) at Damaged = sym (getD_merged (one.blocks a) (two.blocks b) at (here₁ a b at here) (here₂ a b at here) ∙ ap (λ (x : Block). better x (slice_index_or (two.blocks b) at Damaged)) (sym f.block)) in
      read_same on here is (ap (λ (x : List Block). merged x (two.blocks b)) f.same) (and_from (one.powered a') (two.powered b) f.on o.1)
  read_rule on here (sides.MirrorRead.lost {a} {a'} {b} {at} {f} s) =
      let o = and_parts (one.powered a) (two.powered b) on in
      let l = lost_read o.0 (here₁ a b at here) (reading₁ a a' at (Err f) s) in
      read_lost on here l.fault (ap (λ (x : List Block). merged x (two.blocks b)) l.same) (and_left (one.powered a') (two.powered b) l.off)
  read_rule on here (sides.MirrorRead.damaged {a} {a'} {b} {b'} {at} {r = Ok x} s t) =
      let f = found (reading₁ a a' at (Ok Damaged) s) in
      let g = found (reading₂ b b' at (Ok x) t) in
      let is : x ≡ get_or (both one two a b) at Damaged = g.block ∙ sym (getD_merged (one.blocks a) (two.blocks b) at (here₁ a b at here) (here₂ a b at here) ∙ ap (λ (y : Block). better y (slice_index_or (two.blocks b) at Damaged)) (sym f.block)) in
      read_same on here is (ap (λ (y : List Block). merged y (two.blocks b')) f.same ∙ ap (merged (one.blocks a)) g.same) (and_from (one.powered a') (two.powered b') f.on g.on)
  read_rule on here (sides.MirrorRead.damaged {a} {a'} {b} {b'} {at} {r = Err e} s t) =
      let o = and_parts (one.powered a) (two.powered b) on in
      let f = found (reading₁ a a' at (Ok Damaged) s) in
      let l = lost_read o.1 (here₂ a b at here) (reading₂ b b' at (Err e) t) in
      read_lost on here l.fault (ap (λ (y : List Block). merged y (two.blocks b')) f.same ∙ ap (merged (one.blocks a)) l.same) (and_right (one.powered a') (two.powered b') l.off)

  -- the mirror's block, by the sides'
  block_is : (a : A) (b : B) (at : ℕ) → at < length (both one two a b) → slice_index_or (both one two a b) at Damaged ≡ better (slice_index_or (one.blocks a) at Damaged) (slice_index_or (two.blocks b) at Damaged)
  block_is a b at here = getD_merged (one.blocks a) (two.blocks b) at (here₁ a b at here) (here₂ a b at here)

  good_is : (a : A) (b : B) (at : ℕ) (old : List ℕ) → at < length (both one two a b) → Good old ≡ slice_index_or (one.blocks a) at Damaged → slice_index_or (both one two a b) at Damaged ≡ Good old
  good_is a b at old here e = block_is a b at here ∙ ap (λ (x : Block). better x (slice_index_or (two.blocks b) at Damaged)) (sym e)

  damaged_is : (a : A) (b : B) (at : ℕ) → at < length (both one two a b) → Damaged ≡ slice_index_or (one.blocks a) at Damaged → slice_index_or (both one two a b) at Damaged ≡ slice_index_or (two.blocks b) at Damaged
  damaged_is a b at here e = block_is a b at here ∙ ap (λ (x : Block). better x (slice_index_or (two.blocks b) at Damaged)) (sym e)

  pub write_rule : {a : A} {b : B} {at : ℕ} {bytes : List ℕ} {r : Result Unit DeviceFault} {a' : A} {b' : B} → both_on one two a b ≡ true → at < length (both one two a b) → MirrorWrite one.reads one.writes two.writes a b at bytes r a' b' → WriteAnswer (both one two a b) (both_on one two a b) at bytes r (both one two a' b') (both_on one two a' b')
  write_rule on here (sides.MirrorWrite.unread {a} {a'} {b} {at} {bytes} {f} s) =
      let o = and_parts (one.powered a) (two.powered b) on in
      let l = lost_read o.0 (here₁ a b at here) (reading₁ a a' at (Err f) s) in
      let same : both one two a' b ≡ set (both one two a b) at (slice_index_or (both one two a b) at Damaged) = ap (λ (x : List Block). merged x (two.blocks b)) l.same ∙ sym (set-get_or (both one two a b) at Damaged) in
      write_cut on here l.fault same (left_before refl) (and_left (one.powered a') (two.powered b) l.off)
  write_rule on here (sides.MirrorWrite.second_cut {a} {a'} {b} {b'} {at} {old} {bytes} {f} s t) =
      let o = and_parts (one.powered a) (two.powered b) on in
      let d = found (reading₁ a a' at (Ok (Good old)) s) in
      let l = lost_write o.1 (here₂ a b at here) (writing₂ b b' at bytes (Err f) t) in
      let is : both one two a' b' ≡ set (both one two a b) at (Good old) =
      ap (λ (x : List Block). merged x (two.blocks b')) d.same
      ∙ ap (merged (one.blocks a)) l.blocks
      ∙ set_second (one.blocks a) (two.blocks b) at l.block
      ∙ ap (λ (x : Block). set (both one two a b) at (better x l.block)) (sym d.block) in
      write_cut on here l.fault is (left_before (sym (good_is a b at old here d.block))) (and_right (one.powered a') (two.powered b') l.off)
  write_rule on here (sides.MirrorWrite.second_first {a} {a'} {a''} {b} {b'} {at} {old} {bytes} {r = Ok u} s t v) =
      let d = found (reading₁ a a' at (Ok (Good old)) s) in
      let w = wrote (writing₂ b b' at bytes (Ok tt) t) in
      let x = wrote (writing₁ a' a'' at bytes (Ok u) v) in
      let is : both one two a'' b' ≡ set (both one two a b) at (Good bytes) =
      ap (λ (y : List Block). merged y (two.blocks b')) (x.blocks ∙ ap (λ (y : List Block). set y at (Good bytes)) d.same)
      ∙ ap (merged (slice_set (one.blocks a) at (Good bytes))) w.blocks
      ∙ set_both (one.blocks a) (two.blocks b) at (Good bytes) (Good bytes) (here₂ a b at here) in
      write_done on here is (and_from (one.powered a'') (two.powered b') x.on w.on)
  write_rule on here (sides.MirrorWrite.second_first {a} {a'} {a''} {b} {b'} {at} {old} {bytes} {r = Err f} s t v) =
      let d = found (reading₁ a a' at (Ok (Good old)) s) in
      let w = wrote (writing₂ b b' at bytes (Ok tt) t) in
      let there : at < length (one.blocks a') = omega (arith, ap length d.same, here₁ a b at here) in
      let l = lost_write d.on there (writing₁ a' a'' at bytes (Err f) v) in
      let is : both one two a'' b' ≡ set (both one two a b) at (better l.block (Good bytes)) =
      ap (λ (y : List Block). merged y (two.blocks b')) (l.blocks ∙ ap (λ (y : List Block). set y at l.block) d.same)
      ∙ ap (merged (slice_set (one.blocks a) at l.block)) w.blocks
      ∙ set_both (one.blocks a) (two.blocks b) at l.block (Good bytes) (here₂ a b at here) in
      let was : get_or (one.blocks a') at Damaged ≡ Good old = ap (λ (y : List Block). get_or y at Damaged) d.same ∙ sym d.block in
      let left : Left (slice_index_or (both one two a b) at Damaged) bytes (better l.block (Good bytes)) = rw (good_is a b at old here d.block) (first_last bytes old was l.left) in
      write_cut on here l.fault is left (and_left (one.powered a'') (two.powered b') l.off)
  write_rule on here (sides.MirrorWrite.first_cut {a} {a'} {a''} {b} {at} {bytes} {f} s t) =
      let d = found (reading₁ a a' at (Ok Damaged) s) in
      let there : at < length (one.blocks a') = omega (arith, ap length d.same, here₁ a b at here) in
      let l = lost_write d.on there (writing₁ a' a'' at bytes (Err f) t) in
      let is : both one two a'' b ≡ set (both one two a b) at (better l.block (slice_index_or (two.blocks b) at Damaged)) =
      ap (λ (y : List Block). merged y (two.blocks b)) (l.blocks ∙ ap (λ (y : List Block). set y at l.block) d.same)
      ∙ set_first (one.blocks a) (two.blocks b) at l.block in
      let was : get_or (one.blocks a') at Damaged ≡ Damaged = ap (λ (y : List Block). get_or y at Damaged) d.same ∙ sym d.block in
      let left : Left (slice_index_or (both one two a b) at Damaged) bytes (better l.block (slice_index_or (two.blocks b) at Damaged)) = rw (damaged_is a b at here d.block) (first_only bytes (slice_index_or (two.blocks b) at Damaged) was l.left) in
      write_cut on here l.fault is left (and_left (one.powered a'') (two.powered b) l.off)
  write_rule on here (sides.MirrorWrite.first_first {a} {a'} {a''} {b} {b'} {at} {bytes} {r = Ok u} s t v) =
      let d = found (reading₁ a a' at (Ok Damaged) s) in
      let w = wrote (writing₁ a' a'' at bytes (Ok tt) t) in
      let x = wrote (writing₂ b b' at bytes (Ok u) v) in
      let is : both one two a'' b' ≡ set (both one two a b) at (Good bytes) =
      ap (λ (y : List Block). merged y (two.blocks b')) (w.blocks ∙ ap (λ (y : List Block). set y at (Good bytes)) d.same)
      ∙ ap (merged (slice_set (one.blocks a) at (Good bytes))) x.blocks
      ∙ set_both (one.blocks a) (two.blocks b) at (Good bytes) (Good bytes) (here₂ a b at here) in
      write_done on here is (and_from (one.powered a'') (two.powered b') w.on x.on)
  write_rule on here (sides.MirrorWrite.first_first {a} {a'} {a''} {b} {b'} {at} {bytes} {r = Err f} s t v) =
      let o = and_parts (one.powered a) (two.powered b) on in
      let d = found (reading₁ a a' at (Ok Damaged) s) in
      let w = wrote (writing₁ a' a'' at bytes (Ok tt) t) in
      let l = lost_write o.1 (here₂ a b at here) (writing₂ b b' at bytes (Err f) v) in
      let is : both one two a'' b' ≡ set (both one two a b) at (Good bytes) =
      ap (λ (y : List Block). merged y (two.blocks b')) (w.blocks ∙ ap (λ (y : List Block). set y at (Good bytes)) d.same)
      ∙ ap (merged (slice_set (one.blocks a) at (Good bytes))) l.blocks
      ∙ set_both (one.blocks a) (two.blocks b) at (Good bytes) l.block (here₂ a b at here) in
      write_cut on here l.fault is (left_written refl) (and_right (one.powered a'') (two.powered b') l.off)

  -- in reach no access is refused
  pub read_made : {a : A} {b : B} {at : ℕ} {a' : A} {b' : B} → both_on one two a b ≡ true → at < length (both one two a b) → MirrorRead one.reads two.reads a b at (Err Refused) a' b' → ⊥
  read_made {a} {b} {at} {a'} {b'} on here m =
      let l = lost_read on here (read_rule on here m) in let e = l.fault in let z : ◌≡◌ {A = ℕ} 0 1 = cc in omega arith

  pub write_made : {a : A} {b : B} {at : ℕ} {bytes : List ℕ} {a' : A} {b' : B} → both_on one two a b ≡ true → at < length (both one two a b) → MirrorWrite one.reads one.writes two.writes a b at bytes (Err Refused) a' b' → ⊥
  write_made {a} {b} {at} {bytes} {a'} {b'} on here m =
      let l = lost_write on here (write_rule on here m) in let e = l.fault in let z : ◌≡◌ {A = ℕ} 0 1 = cc in omega arith
