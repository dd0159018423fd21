use Rattle.std.proofs.Common.{◌≡◌, ◌+◌, ◌<◌, [], length, sym, refl, ap, ◌∙◌, subst, arith}
use Rattle.std.proofs.lemmas.Bool.{false≢true}
use Rattle.std.proofs.lemmas.List.{length-drop}
use Rattle.encoding.specs.Counts.{Decoded, slot_bytes}
use Rattle.encoding.proofs.Lists.{Filled, counted_first, filled_all, filled_more, length_counted, parts_slots, slot_known}
use Rattle.encoding.proofs.counted.decode.Goals as goal
use Rattle.encoding.proofs.counted.decode.Goals.{in-Some, in_default}

pub returns-in_err-count : goal.returns-in_err-count
returns-in_err-count g c =
    let form = g.T.Coded.form in
    let bytes = c.args.bytes.now in
    subst (λ r. Decoded form bytes c.args.slots.now c.args.slots.now r) (sym c.from_residual.ensures) (
      λ xs few is. c.in_err-count.ensures (length xs) few (ap length is ∙ length_counted form xs) (counted_first form bytes xs is),
      refl,
    )

pub returns-then-not-all_known : goal.returns-then-not-all_known
returns-then-not-all_known g c =
    let form = g.T.Coded.form in
    let bytes = c.args.bytes.now in
    let n = c.in_ok-count.ensures in (
      λ xs few is.
          let many : length xs ≡ c.in_ok-count.count = sym (counted_first form bytes xs is) ∙ n.2 in
          false≢true (c.if-not-all_known.ensures.1 (λ i d lt.
          let within : i < length xs = omega (arith, lt, c.as_chunks.ensures.front_len, length-drop 1 bytes, n.1) in
          let one = slot_known form xs i within in
          (one.0, parts_slots bytes _ (length xs) (ap length is ∙ length_counted form xs) c.as_chunks.ensures.front i d within ∙ ap (λ b. slot_bytes b i) is ∙ one.1))),
      refl,
    )

pub loop-i-preserved : goal.loop-i-preserved
loop-i-preserved g c =
    let form = g.T.Coded.form in
    let bytes = c.args.bytes.now in
    let i = c.loop-i.i in
    let count = c.in_ok-count.count in
    let n = c.in_ok-count.ensures in
    let within : i < count = omega (arith, c.loop-i-test.true, c.as_chunks.ensures.front_len, length-drop 1 bytes, n.1) in
    elim c.match-read.branch [
      | in-Some w ↦
          let room : i < length c.loop-i.slots = omega (arith, c.loop-i.auto.slots, n.0) in
          let is = sym (parts_slots bytes c.as_chunks.result.0.now count n.1 c.as_chunks.ensures.front i [] within) ∙ w.in-Some.ensures in
          subst (λ l. Filled form bytes count (i + 1) c.args.slots.now l) (sym w.slots-is)
          (filled_more form bytes count i c.args.slots.now c.loop-i.slots w.in-Some.record room is c.loop-i.invariant)
      | in_default w ↦
          let one = c.all_known.ensures.0 c.if-not-all_known.false i [] c.loop-i-test.true in
          absurd (w.in_default.ensures one.0 one.1)
    ]

pub returns : goal.returns
returns g c =
    let form = g.T.Coded.form in
    let bytes = c.args.bytes.now in
    let count = c.in_ok-count.count in
    let n = c.in_ok-count.ensures in
    let done : c.loop-i.i ≡ count = omega (arith, c.loop-i-test.false, c.loop-i.auto.i-end, c.as_chunks.ensures.front_len, length-drop 1 bytes, n.1) in
    let f : Filled form bytes count count c.args.slots.now c.loop-i.slots =
    subst (λ k. Filled form bytes count k c.args.slots.now c.loop-i.slots) done c.loop-i.invariant in (
      n.0,
      filled_all form bytes count c.args.slots.now c.loop-i.slots n.1 (omega (arith, n.0, c.loop-i.auto.slots)) f,
      f.1,
    )
