use Rattle.std.proofs.Common.{◌≡◌, ℕ, Bool, true, false, List, get_or, take, drop, Some, None, sym, refl, ap, ◌∙◌, arith}
use Rattle.std.specs.Bool.{then_some, Decides}
use Rattle.std.specs.Option.{option_map}
use Rattle.std.proofs.lemmas.Slice.Eq.{slice_eq-Decides}
use Rattle.std.proofs.lemmas.Bool.Decides.{Decides-eqb}
use Rattle.table.specs.Slots.{items}
use Rattle.journal.specs.Layout.{header_of, parse, rising}
use Rattle.journal.proofs.Found.{header_reads, parse_rising, parse_whole}
use Rattle.journal.proofs.Steps.{parsed_places, parse_none}
use Rattle.store.specs.Targets.{listed}
use Rattle.store.specs.declared.targets.Targets.{Targets}
use Rattle.store.proofs.header.parse_header.Goals as goal

-- the first places of a header
module _ (h ns : List ℕ) (places : ns ≡ take (get_or h 0 0) (take 25 (drop 1 h))) where
  these : (ts : List ℕ) → parse h ≡ Some ts → ns ≡ ts
  these ts e = places ∙ (parsed_places h ts e).2

  falling : rising 26 ns ≡ false → parse h ≡ None
  falling low = parse_none h (λ ts e. let up : true ≡ false = sym (parse_rising h ts e) ∙ ap (rising 26) (sym (these ts e)) ∙ low in let z : ◌≡◌ {A = ℕ} 0 1 = cc in omega arith)

  -- targets that rise, by the test of their header
  by_test : (t : Targets) (b : Bool) → listed t ≡ ns → Decides b (header_of ns ≡ h) → option_map listed (then_some b t) ≡ parse h
  by_test t true is d = ap Some is ∙ sym (ap parse (sym (d.0 refl)) ∙ header_reads ns (ap (rising 26) (sym is) ∙ t.rises))
  by_test t false is d = sym (parse_none h (λ ts e. let same = d.1 (ap header_of (these ts e) ∙ sym (parse_whole h ts e)) in let z : ◌≡◌ {A = ℕ} 0 1 = cc in omega arith))

pub returns-then-not-rise : goal.returns-then-not-rise
returns-then-not-rise c =
    let h = c.args.bytes.now in
    let ns = items c.first-blocks.result in
    let places : ns ≡ take (get_or h 0 0) (take 25 (drop 1 h)) = c.first-blocks.ensures ∙ ap (λ (k : ℕ). take k c.target_bytes.result) c.from.ensures ∙ ap (take (get_or h 0 0)) c.target_bytes.ensures in
    sym (falling h ns places (ap (rising 26) (sym c.as_slice.ensures.items) ∙ sym c.rise.ensures ∙ c.if-not-rise.true))

pub returns : goal.returns
returns c =
    let h = c.args.bytes.now in
    let ns = items c.first-blocks.result in
    let places : ns ≡ take (get_or h 0 0) (take 25 (drop 1 h)) = c.first-blocks.ensures ∙ ap (λ (k : ℕ). take k c.target_bytes.result) c.from.ensures ∙ ap (take (get_or h 0 0)) c.target_bytes.ensures in
    let same : Decides c.eq.result (c.header.result ≡ h) = slice_eq-Decides Decides-eqb _ _ _ c.eq.ensures in
    rw c.then_some.ensures (by_test h ns places _ c.eq.result refl (rw c.header.ensures at same))
