-- Each turn hands its read on to the reads that are left; one that is not done, or finds a damaged block, ends them there.
use Rattle.std.proofs.Common.{◌≡◌, ℕ, ◌+◌, ◌-◌, ◌<◌, List, [], ◌∷◌, length, get_or, Ok, Err, Result, sym, refl, ap, ◌∙◌, subst, arith, rules}
use Rattle.device.specs.Accesses.{read, all, read_on, read_fails}
use Rattle.device.specs.declared.Block.{Block}
use Rattle.device.specs.declared.Block.TheVariants.{Good, Damaged}
use Rattle.journal.specs.Layout.{Pages}
use Rattle.journal.specs.Restart.{reads_until, unless_damaged}
use Rattle.journal.proofs.Steps.{reads_left, no_reads_left, reading_none, reading_more, reading_fault, reading_all}
use Rattle.store.specs.Running.{RanTo}
use Rattle.store.specs.declared.faults.StoreFault.TheVariants.{Device, Corrupt}
use Rattle.store.proofs.Made.{read_block}
use Rattle.store.proofs.access.read_run.Goals as goal

-- what is left, by the block that is read next
with_good : (bs : List Block) (first i n : ℕ) (x : List ℕ) → i < n → Good x ≡ get_or bs (first + i) Damaged → reads_until bs (first + i) (n - i) ≡ read (first + i) ∷ reads_until bs (first + (i + 1)) (n - (i + 1))
with_good bs first i n x h e =
    reads_left bs first i n h ∙ ap (λ (b : Block). read (first + i) ∷ unless_damaged b (reads_until bs (first + (i + 1)) (n - (i + 1)))) (sym e)

with_damaged : (bs : List Block) (first i n : ℕ) → i < n → Damaged ≡ get_or bs (first + i) Damaged → reads_until bs (first + i) (n - i) ≡ read (first + i) ∷ []
with_damaged bs first i n h e =
    reads_left bs first i n h ∙ ap (λ (b : Block). read (first + i) ∷ unless_damaged b (reads_until bs (first + (i + 1)) (n - (i + 1)))) (sym e)

found_fault : (s : Result Pages ℕ) (k : ℕ) (rows : Pages) → s ≡ Err k → RanTo s (Ok tt) (Err (Corrupt k)) rows
found_fault s k rows e = subst (λ (t : Result Pages ℕ). RanTo t (Ok tt) (Err (Corrupt k)) rows) (sym e) refl

found_all : (s : Result Pages ℕ) (rows : Pages) → s ≡ Ok rows → RanTo s (Ok tt) (Ok tt) rows
found_all s rows e = subst (λ (t : Result Pages ℕ). RanTo t (Ok tt) (Ok tt) rows) (sym e) (refl, refl)

pub loop-i-init : goal.loop-i-init
loop-i-init g c =
    let bs = g.D.Device.blocks c.args.device.now in
    let n = length c.args.rows.now in
    let here : c.args.first + 0 ≡ c.args.first = omega arith in
    let whole : n - 0 ≡ n = omega arith in
    (refl, reading_none bs c.args.first n c.args.rows.now, λ r e made. rw (here, whole) at made)

pub returns-in_err-bytes : goal.returns-in_err-bytes
returns-in_err-bytes g c =
    let bs = g.D.Device.blocks c.args.device.now in
    let lost : c.from_residual.result ≡ Err (Device c.in_err-bytes.field-0.0) = search rules in
    let left = reads_left bs c.args.first c.loop-i.i (length c.args.rows.now) (omega arith) in
    record {
      ended = Err c.in_err-bytes.field-0.0;
      made = c.loop-i.invariant.2 _ _ (rw left (read_fails c.in_err-bytes.ensures));
      answer = lost;
    }

pub returns-in-Damaged : goal.returns-in-Damaged
returns-in-Damaged g c =
    let bs = g.D.Device.blocks c.args.device.now in
    let n = length c.args.rows.now in
    let there : c.loop-i.i < n = omega arith in
    let b = read_block g.met.D.Device.reading _ _ _ _ c.in_ok-bytes.ensures in
    let hit : Damaged ≡ get_or bs (c.args.first + c.loop-i.i) Damaged = sym c.in-Damaged.is ∙ b.0 ∙ ap (λ (l : List Block). get_or l (c.args.first + c.loop-i.i) Damaged) c.loop-i.invariant.0 in
    record {
      ended = Ok tt;
      made = c.loop-i.invariant.2 _ _ (rw (with_damaged bs c.args.first c.loop-i.i n there hit) (read_on c.in_ok-bytes.ensures all));
      answer = found_fault _ _ _ (reading_fault bs c.args.first n c.loop-i.i c.loop-i.rows there c.loop-i.invariant.1 hit);
    }

pub loop-i-preserved : goal.loop-i-preserved
loop-i-preserved g c =
    let bs = g.D.Device.blocks c.args.device.now in
    let n = length c.args.rows.now in
    let there : c.loop-i.i < n = omega arith in
    let room : c.loop-i.i < length c.loop-i.rows = omega arith in
    let b = read_block g.met.D.Device.reading _ _ _ _ c.in_ok-bytes.ensures in
    let hit : Good c.in-Good.bytes ≡ get_or bs (c.args.first + c.loop-i.i) Damaged = sym c.in-Good.is ∙ b.0 ∙ ap (λ (l : List Block). get_or l (c.args.first + c.loop-i.i) Damaged) c.loop-i.invariant.0 in (
      b.1 ∙ c.loop-i.invariant.0,
      reading_more bs c.args.first n c.loop-i.i c.loop-i.rows there c.loop-i.invariant.1 c.in-Good.bytes room hit,
      λ r e rest. c.loop-i.invariant.2 r e (rw (with_good bs c.args.first c.loop-i.i n c.in-Good.bytes there hit) (read_on c.in_ok-bytes.ensures rest)),
    )

pub returns : goal.returns
returns g c =
    let bs = g.D.Device.blocks c.args.device.now in
    let n = length c.args.rows.now in
    let end : c.loop-i.i ≡ n = omega arith in
    let long : length c.loop-i.rows ≡ n = omega arith in
    record {
      ended = Ok tt;
      made = c.loop-i.invariant.2 _ _ (rw (no_reads_left bs c.args.first c.loop-i.i n end) all);
      answer = found_all _ _ (reading_all bs c.args.first n c.loop-i.i c.loop-i.rows end long c.loop-i.invariant.1);
    }
