use Rattle.std.proofs.Common.{◌≡◌, ℕ, ◌+◌, ◌<◌, Bool, true, false, cond, List, [], ◌∷◌, ◌++◌, length, Ok, Err, Result, refl, sym, ap, ◌∙◌, inl, inr, rules, arith, length-append}
use Rattle.std.proofs.lemmas.List.{append-nil, append_assoc}
use Rattle.std.specs.Str.{bytes_eq}
use Rattle.table.specs.Slots.{items, Pushed}
use Rattle.table.specs.declared.slots.Slots.{Slots}
use Rattle.journal.specs.Layout.{Pages, rising}
use Rattle.journal.specs.Plans.{Write, changes, targets}
use Rattle.journal.specs.Restart.{paired}
use Rattle.journal.proofs.Steps.{changes_rising, paired_targets}
use Rattle.store.proofs.changed.changed.Goals as goal

-- where there is room, an item is added
added : {T E : Type 0} {N : ℕ} (before after : Slots T N) (item : T) (r : Result Unit E) → length (items before) < N → Pushed before item after r → items after ≡ items before ++ item ∷ []
added before after item (Ok done) room p = p.1
added before after item (Err full) room p = absurd (omega (arith, p.0))

paired_more : (ts : List ℕ) (rows : Pages) (t : ℕ) (row : List ℕ) → length rows ≡ length ts → paired (ts ++ t ∷ []) (rows ++ row ∷ []) ≡ paired ts rows ++ (t, row) ∷ []
paired_more [] [] t row e = refl
paired_more [] (p ∷ rows) t row e = absurd (omega arith)
paired_more (u ∷ ts) [] t row e = absurd (omega arith)
paired_more (u ∷ ts) (p ∷ rows) t row e = ap (λ (ws : List Write). (u, p) ∷ ws) (paired_more ts rows t row (omega arith))

-- the next pair of blocks is the same, or a change
module _ (got all : List Write) (n n' : ℕ) (o x : List ℕ) (os xs old new : Pages) (on : n' ≡ n + 1) (eo : old ≡ o ∷ os) (en : new ≡ x ∷ xs) (so_far : got ++ changes n old new ≡ all) where
  by_test : (b : Bool) → bytes_eq o x ≡ b → got ++ cond b (changes n' os xs) ((n, x) ∷ changes n' os xs) ≡ all
  by_test b e =
      ap (λ (k : ℕ). got ++ cond b (changes k os xs) ((n, x) ∷ changes k os xs)) on
      ∙ ap (λ (t : Bool). got ++ cond t (changes (n + 1) os xs) ((n, x) ∷ changes (n + 1) os xs)) (sym e)
      ∙ ap (λ (l : Pages). got ++ changes n (o ∷ os) l) (sym en)
      ∙ ap (λ (l : Pages). got ++ changes n l new) (sym eo)
      ∙ so_far

  passed : bytes_eq o x ≡ true → got ++ changes n' os xs ≡ all
  passed e = by_test true e

  listed_one : bytes_eq o x ≡ false → (got ++ (n, x) ∷ []) ++ changes n' os xs ≡ all
  listed_one e = append_assoc got ((n, x) ∷ []) (changes n' os xs) ∙ by_test false e

no_change_left : (n : ℕ) (old new : Pages) → length old ≡ 0 → changes n old new ≡ []
no_change_left n [] new e = refl
no_change_left n (o ∷ os) new e = absurd (omega arith)

pub loop-i-preserved-then-ne : goal.loop-i-preserved-then-ne
loop-i-preserved-then-ne c =
    let i = c.loop-i in
    let s = c.in-Some.ensures.steps in
    let n = 26 + i.i-iterator.count in
    let on : 26 + c.next.new.self.count ≡ n + 1 = omega (arith, s.2) in
    let differs : bytes_eq c.in-Some.before.now c.in-Some.after.now ≡ false = search rules in
    let at : 26 + c.in-Some.i ≡ n = omega (arith, s.1) in
    let room : length (items i.blocks) < 25 = omega (arith, ap length s.0.0) in
    let blocks = added i.blocks c.push.new.self _ c.push.result room c.push.ensures ∙ ap (λ (k : ℕ). items i.blocks ++ k ∷ []) at in
    let rows = added i.rows c.push-then-ne.new.self _ c.push-then-ne.result (omega (arith, i.invariant.whole)) c.push-then-ne.ensures in
    let got : paired (items c.push.new.self) (items c.push-then-ne.new.self) ≡ paired (items i.blocks) (items i.rows) ++ (n, c.in-Some.after.now) ∷ [] =
    ap (λ (l : List ℕ). paired l (items c.push-then-ne.new.self)) blocks ∙ ap (paired (items i.blocks ++ n ∷ [])) rows ∙ paired_more (items i.blocks) (items i.rows) n c.in-Some.after.now i.invariant.whole in
    let lb : length (items c.push.new.self) ≡ length (items i.blocks) + 1 = ap length blocks ∙ length-append (items i.blocks) (n ∷ []) in
    let lr : length (items c.push-then-ne.new.self) ≡ length (items i.rows) + 1 = ap length rows ∙ length-append (items i.rows) (c.in-Some.after.now ∷ []) in
    record {
      whole = omega (arith, i.invariant.whole);
      few = omega (arith, s.2);
      left = omega (arith, s.2, ap length s.0.0);
      both = omega (arith, ap length s.0.0, ap length s.0.1);
      all = ap (λ (ws : List Write). ws ++ changes (26 + c.next.new.self.count) c.next.new.self.iter.a.rest.now c.next.new.self.iter.b.rest.now) got ∙ listed_one _ _ _ _ _ _ _ _ _ _ on s.0.0 s.0.1 i.invariant.all differs;
    }

-- at the end all changes are listed
all_listed : (got all : List Write) (n : ℕ) (old new : Pages) → length old ≡ 0 → got ++ changes n old new ≡ all → got ≡ all
all_listed got all n old new none e = sym (append-nil got) ∙ ap (λ (ws : List Write). got ++ ws) (sym (no_change_left n old new none)) ∙ e

pub invariant_of-result : goal.invariant_of-result
invariant_of-result c =
    let i = c.loop-i in
    let none : length i.i-iterator.iter.a.rest.now ≡ 0 = elim c.in-None.ensures.steps.0 [ inl h ↦ h.1.0 | inr h ↦ i.invariant.both ∙ h.1.0 ] in
    record { rises = ap (rising 26) (sym (paired_targets (items i.blocks) (items i.rows) i.invariant.whole) ∙ ap targets (all_listed _ _ _ _ _ none i.invariant.all)) ∙ changes_rising c.args.old.now c.args.new.now c.told-old }

pub returns : goal.returns
returns c =
    let i = c.loop-i in
    let none : length i.i-iterator.iter.a.rest.now ≡ 0 = elim c.in-None.ensures.steps.0 [ inl h ↦ h.1.0 | inr h ↦ i.invariant.both ∙ h.1.0 ] in
    all_listed _ _ _ _ _ none i.invariant.all
