-- Each turn makes one byte write more; where power fails at it, all ends.
use Rattle.std.proofs.Common.{◌≡◌, ℕ, ◌<◌, min, List, length, get_or, set, ap, ◌∙◌, arith, length-take}
use Rattle.std.proofs.lemmas.List.{set-get_or, get_or-take}
use Rattle.supply.proofs.Writes.{one_more, ends_here, written_more}
use Rattle.supply.proofs.Supply.write_all.Goals as goal

pub returns-then-not-write : goal.returns-then-not-write
returns-then-not-write c =
    let far : c.loop-i.i < min (length c.args.bytes.now) (length c.args.part.now) = omega (arith, length-take c.min.result c.args.bytes.now) in
    ends_here far c.loop-i.invariant c.if-not-write.ensures.power (ap (set c.loop-i.part c.loop-i.i) c.if-not-write.ensures.slot ∙ set-get_or c.loop-i.part c.loop-i.i 0)

pub loop-i-preserved : goal.loop-i-preserved
loop-i-preserved c =
    let new : List ℕ = c.args.bytes.now in
    let far : c.loop-i.i < c.min.result = omega (arith, length-take c.min.result c.args.bytes.now) in
    let slot : c.write.new.slot ≡ get_or new c.loop-i.i 0 = c.if-not-write.ensures.slot ∙ get_or-take c.min.result new c.loop-i.i 0 far in
    one_more c.loop-i.invariant c.if-not-write.ensures.power
    (λ so_far. ap (set c.loop-i.part c.loop-i.i) slot ∙ ap (λ (x : List ℕ). set x c.loop-i.i (get_or new c.loop-i.i 0)) so_far ∙ written_more c.loop-i.i new c.args.part.now (omega arith) (omega arith))
