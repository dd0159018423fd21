-- Each turn hands its write on to the writes that are left; one that is not done ends them there.
use Rattle.std.proofs.Common.{◌≡◌, List, ℕ, ◌⊎◌, [], ◌∷◌, length, Err, refl, inl, inr, arith, rules}
use Rattle.device.specs.Accesses.{all, write_on, write_fails}
use Rattle.journal.specs.Layout.{Pages}
use Rattle.journal.specs.Plans.{as_writes}
use Rattle.journal.specs.Restart.{paired}
use Rattle.store.proofs.access.write_home.Goals as goal

none_left : (ts : List ℕ) (rows : Pages) → (length ts ≡ 0) ⊎ (length rows ≡ 0) → as_writes (paired ts rows) ≡ []
none_left [] rows e = refl
none_left (t ∷ ts) [] e = refl
none_left (t ∷ ts) (p ∷ rows) e = absurd (elim e [ inl h ↦ omega (arith, h) | inr h ↦ omega (arith, h) ])

pub returns-in_err-write : goal.returns-in_err-write
returns-in_err-write g c =
    let lost : c.from_residual.result ≡ Err c.in_err-write.field-0.0 = search rules in
    let s = c.in-Some.ensures.steps in
    c.loop-block.invariant _ _ (rw (s.0, s.1, lost) (write_fails (rw c.from.ensures at c.in_err-write.ensures)))

pub loop-block-preserved : goal.loop-block-preserved
loop-block-preserved g c r e rest =
    let s = c.in-Some.ensures.steps in
    c.loop-block.invariant r e (rw (s.0, s.1) (write_on (rw c.from.ensures at c.in_ok-write.ensures) rest))

pub returns : goal.returns
returns g c =
    let end : (length c.loop-block.block-iterator.a.rest.now ≡ 0) ⊎ (length c.loop-block.block-iterator.b.rest.now ≡ 0) =
    elim c.in-None.ensures.steps [ inl h ↦ inl h.1.0 | inr h ↦ inr h.1.0 ] in
    c.loop-block.invariant _ _ (rw (none_left _ _ end) all)
