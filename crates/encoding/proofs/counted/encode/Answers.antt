use Rattle.std.proofs.Common.{◌≡◌, ◌+◌, ◌*◌, ◌<◌, ◌≤◌, ◌++◌, length, get_or, set, sym, refl, ap, ◌∙◌, subst, arith}
use Rattle.std.proofs.lemmas.List.{drop-set-lt, take_more_set, length-set}
use Rattle.encoding.specs.Counts.{counted, record_bytes}
use Rattle.encoding.specs.Forms.{form_bytes}
use Rattle.encoding.proofs.Lists.{Written, written_more, written_all, length_counted}
use Rattle.encoding.proofs.counted.encode.Goals as goal
use Rattle.encoding.proofs.counted.encode.Goals.{then-count-gt255-via-then-count-gt255, then-count-gt255-via-else-count-gt255+then-out-count}

pub returns-then-count-gt255 : goal.returns-then-count-gt255
returns-then-count-gt255 g c =
    let size = length_counted g.T.Coded.form c.args.records.now in (
      λ few. elim c.then-count-gt255.branch [ then-count-gt255-via-then-count-gt255 w ↦ omega (arith, w.if-count-gt255.true) | then-count-gt255-via-else-count-gt255+then-out-count w ↦ omega (arith, size, w.if-out-count.true) ],
      refl,
    )

pub loop-i-init : goal.loop-i-init
loop-i-init g c = let room : 0 < length c.args.out.now = omega arith in (take_more_set c.args.out.now 0 _ room, refl)

pub loop-i-preserved : goal.loop-i-preserved
loop-i-preserved g c =
    let form = g.T.Coded.form in
    let xs = c.args.records.now in
    let long : length c.loop-i.out ≡ length c.args.out.now = c.loop-i.auto.out ∙ length-set c.args.out.now 0 (length xs) in
    let room : 1 + 16 * c.loop-i.i + 16 ≤ length c.loop-i.out = omega (arith, c.if-out-count.false, c.loop-i-test.true) in
    let is : c.copy_from_slice.new.self ≡ record_bytes form (get_or xs c.loop-i.i c.index-records-i.result) =
    c.copy_from_slice.ensures.after ∙ c.to_bytes.ensures ∙ ap form_bytes (c.to_form.ensures ∙ ap form c.index-records-i.is) in
    written_more form (length xs) xs c.loop-i.i c.index-records-i.result _ c.loop-i.out c.copy_from_slice.new.self c.loop-i-test.true room is c.loop-i.invariant

pub returns : goal.returns
returns g c =
    let form = g.T.Coded.form in
    let xs = c.args.records.now in
    let start = set c.args.out.now 0 (length xs) in
    let done : c.loop-i.i ≡ length xs = omega (arith, c.loop-i-test.false, c.loop-i.auto.i-end) in
    let inv : Written form (length xs) xs (length xs) start c.loop-i.out =
    subst (λ n. Written form (length xs) xs n start c.loop-i.out) done c.loop-i.invariant in (
      omega arith,
      sym (length_counted form xs),
      c.if-out-count.false,
      written_all form (length xs) xs start c.loop-i.out refl inv
          ∙ ap (λ l. counted form xs ++ l) (drop-set-lt (1 + 16 * length xs) c.args.out.now 0 (length xs) (omega arith)),
    )
