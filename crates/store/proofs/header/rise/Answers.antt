use Rattle.std.proofs.Common.{◌≡◌, ℕ, ◌+◌, ◌<◌, ◌≤◌, Bool, true, false, ◌&&◌, ltb, leb, get_or, drop, sym, refl, ap, ◌∙◌, inl, inr, arith}
use Rattle.std.proofs.lemmas.Bool.{le-leb, lt-ltb, lt-leb, le-ltb}
use Rattle.journal.specs.Layout.{rising}
use Rattle.journal.proofs.Steps.{rising_left}
use Rattle.store.proofs.header.rise.Goals as goal

and_false : (a : Bool) → (a && false) ≡ false
and_false true = refl
and_false false = refl

-- a block out of place or past the last one ends the test
out_of_place : (least b : ℕ) (rest : Bool) → b < least → (leb least b && (ltb b 51 && rest)) ≡ false
out_of_place least b rest h = ap (λ (x : Bool). x && (ltb b 51 && rest)) (lt-leb least b h)

past_the_end : (least b : ℕ) (rest : Bool) → 51 ≤ b → (leb least b && (ltb b 51 && rest)) ≡ false
past_the_end least b rest h = ap (λ (x : Bool). leb least b && (x && rest)) (le-ltb b 51 h) ∙ and_false (leb least b)

goes_on : (least b : ℕ) (rest : Bool) → least ≤ b → b < 51 → (leb least b && (ltb b 51 && rest)) ≡ rest
goes_on least b rest h k =
    ap (λ (x : Bool). x && (ltb b 51 && rest)) (le-leb least b h) ∙ ap (λ (x : Bool). x && rest) (lt-ltb b 51 k)

pub returns-then-at-least : goal.returns-then-at-least
returns-then-at-least c =
    let bs = c.args.blocks.now in
    let i = c.loop-block.block-index in
    let least = c.loop-block.least in
    let b = get_or bs i 0 in
    let rest = rising (b + 1) (drop (i + 1) bs) in
    let all : rising 26 bs ≡ (leb least b && (ltb b 51 && rest)) = c.loop-block.invariant.1 ∙ rising_left least i bs c.loop-block-test.true in
    elim c.then-at-least.either [
      | inl h ↦ sym (all ∙ out_of_place least b rest (omega (arith, c.from-at.ensures, h)))
      | inr h ↦ sym (all ∙ past_the_end least b rest (omega (arith, c.from-at.ensures, h.1)))
    ]

pub loop-block-preserved : goal.loop-block-preserved
loop-block-preserved c =
    let bs = c.args.blocks.now in
    let i = c.loop-block.block-index in
    let least = c.loop-block.least in
    let b = get_or bs i 0 in
    let rest = rising (b + 1) (drop (i + 1) bs) in (
      omega arith,
      c.loop-block.invariant.1
          ∙ rising_left least i bs c.loop-block-test.true
          ∙ goes_on least b rest (omega arith) (omega arith)
          ∙ ap (λ (n : ℕ). rising (n + 1) (drop (i + 1) bs)) (sym c.from-at.ensures),
    )
