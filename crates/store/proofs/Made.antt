-- What follows from accesses that were made, whatever the device.
use Rattle.std.proofs.Common.{◌≡◌, ℕ, ◌<◌, Bool, List, [], ◌∷◌, ◌++◌, length, get_or, Ok, Err, Result, refl, ap, ◌∙◌, subst, arith}
use Rattle.device.specs.declared.Block.{Block}
use Rattle.device.specs.declared.Block.TheVariants.{Damaged}
use Rattle.device.specs.declared.DeviceFault.{DeviceFault}
use Rattle.device.specs.Power.{ReadAnswer, WriteAnswer}
use Rattle.device.specs.Accesses.{Access, write, Carried, all, read_on, write_on, write_fails}
use Rattle.device.specs.View.{after}
use Rattle.device.proofs.Facts.{found, wrote}
use Rattle.journal.specs.Layout.{Pages, header_of, home_pages}
use Rattle.journal.specs.Plans.{Write, as_writes, run_from, closed, empty_header, format_plan}
use Rattle.config.specs.declared.entry.Entry.{Entry}
use Rattle.journal.specs.Restart.{paired}
use Rattle.journal.proofs.Plan.{as_writes_append}

module _ {D : Type 0} {blocks : D → List Block} {powered : D → Bool} {reads : D → ℕ → Result Block DeviceFault → D → Type 0} (rule : (d e : D) (at : ℕ) (r : Result Block DeviceFault) → reads d at r e → ReadAnswer (blocks d) (powered d) at r (blocks e) (powered e)) where
  -- a block that was read, and the blocks afterwards
  pub read_block : (d e : D) (at : ℕ) (b : Block) → reads d at (Ok b) e → (b ≡ get_or (blocks d) at Damaged) × (blocks e ≡ blocks d)
  read_block d e at b s = let f = found (rule d e at (Ok b) s) in (f.block, f.same)

  module _ {writes : D → ℕ → List ℕ → Result Unit DeviceFault → D → Type 0} (rule-w : (d e : D) (at : ℕ) (bytes : List ℕ) (r : Result Unit DeviceFault) → writes d at bytes r e → WriteAnswer (blocks d) (powered d) at bytes r (blocks e) (powered e)) where
    -- accesses that were all done leave their blocks
    pub carried_blocks : {d e : D} {xs : List Access} → Carried reads writes d xs (Ok tt) e → blocks e ≡ after xs (blocks d)
    carried_blocks all = refl
    carried_blocks (read_on {d} {d'} {at = at} {b = b} {rest = rest} s t) = carried_blocks t ∙ ap (after rest) (read_block d d' at b s).1
    carried_blocks (write_on {d} {d'} {at = at} {bytes = bytes} {rest = rest} s t) = carried_blocks t ∙ ap (after rest) (wrote (rule-w d d' at bytes (Ok tt) s)).blocks

module _ {D : Type 0} {reads : D → ℕ → Result Block DeviceFault → D → Type 0} {writes : D → ℕ → List ℕ → Result Unit DeviceFault → D → Type 0} where
  -- one access more, done or not
  pub one_write : {d e : D} {at : ℕ} {bytes : List ℕ} (r : Result Unit DeviceFault) → writes d at bytes r e → Carried reads writes d (write at bytes ∷ []) r e
  one_write (Ok done) s = write_on s all
  one_write (Err f) s = write_fails s

  -- writes home, and then the empty header
  pub closed_of : (w : Write) (ws : List Write) {d e : D} {r : Result Unit DeviceFault} → Carried reads writes d (as_writes (w ∷ ws) ++ write 0 (header_of []) ∷ []) r e → Carried reads writes d (as_writes (closed (w ∷ ws))) r e
  closed_of w ws c = rw (as_writes_append (w ∷ ws) (empty_header ∷ [])) c

  pub closed_paired : (ts : List ℕ) (rows : Pages) {d e : D} {r : Result Unit DeviceFault} → 0 < length ts → 0 < length rows → Carried reads writes d (as_writes (paired ts rows) ++ write 0 (header_of []) ∷ []) r e → Carried reads writes d (as_writes (closed (paired ts rows))) r e
  closed_paired [] rows h k c = absurd (omega arith)
  closed_paired (t ∷ ts) [] h k c = absurd (omega arith)
  closed_paired (t ∷ ts) (p ∷ rows) h k c = closed_of (t, p) (paired ts rows) c

  -- the home blocks, and then the empty header
  pub format_of : (es : List Entry) (ps : Pages) {d e : D} {r : Result Unit DeviceFault} → ps ≡ home_pages es → Carried reads writes d (as_writes (run_from 26 ps) ++ write 0 (header_of []) ∷ []) r e → Carried reads writes d (as_writes (format_plan es)) r e
  format_of es ps {d} {e} {r} is c =
      rw (as_writes_append (run_from 26 (home_pages es)) (empty_header ∷ []))
      (subst (λ (l : Pages). Carried reads writes d (as_writes (run_from 26 l) ++ write 0 (header_of []) ∷ []) r e) is c)
