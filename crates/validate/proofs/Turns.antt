-- One more turn of the searches of the schema rules.
use Rattle.std.proofs.Common.{◌≡◌, ℕ, suc, zero, ◌+◌, ◌-◌, ◌<◌, ◌≤◌, Bool, ◌&&◌, ◌||◌, eqb, List, [], ◌∷◌, length, get_or, drop, Some, None, Option, sym, refl, ap, ◌∙◌, ⊎_elim, subst, arith}
use Rattle.std.specs.List.{list_any}
use Rattle.std.specs.Option.{option_map, option_or, MatchOption, IfSome, IsSomeAnd}
use Rattle.std.specs.Bool.{IsTrue}
use Rattle.std.specs.Iterator.Runs.{Run, SomeRun, AllItemsGive, IsFirstToGive, CallKeepsClosure}
use Rattle.std.proofs.iter.runs.Sources.{range_runs}
use Rattle.std.proofs.iter.Yields.{nat_range_steps}
use Rattle.std.specs.declared.ops.Range.{Range}
use denote.Param.Members.{Mut, Called}
use Rattle.std.proofs.lemmas.List.{at_drop_more, at_drop_all}
use Rattle.std.proofs.lemmas.Bool.{cases_eq}
use Rattle.schema.specs.declared.path.Path.{Path}
use Rattle.config.specs.declared.entry.Entry.{Entry}
use Rattle.validate.specs.Schemas.{has_key}
use Rattle.validate.specs.Search.{lower, with_keys, lowest_from, first_at}

-- the entry in places that are not used
abbrev pub no_entry : Entry
no_entry = record { path = record { node = 0; k1 = 0; k2 = 0 }; value = 0 }

-- the entry is of the list, with this key
abbrev pub keyed : ℕ → ℕ → Entry → Bool
keyed list key e = eqb e.path.node list && eqb e.path.k1 key

pub any_keyed : (es : List Entry) (list key : ℕ) → list_any (keyed list key) es ≡ has_key es list key
any_keyed [] list key = refl
any_keyed (e ∷ es) list key = ap (λ t. keyed list key e || t) (any_keyed es list key)

pub from_turn : (test : Path → Bool) (n : ℕ) (so_far : Option Path) (es : List Entry) (i : ℕ) → i < length es → lowest_from test n so_far (drop i es) ≡ lowest_from test n (lower test so_far (with_keys n (get_or es i no_entry))) (drop (i + 1) es)
unfolding lowest_from
from_turn test n so_far es i l = at_drop_more (lowest_from test n so_far) es i no_entry l

pub from_done : (test : Path → Bool) (n : ℕ) (so_far : Option Path) (es : List Entry) (i : ℕ) → length es ≤ i → lowest_from test n so_far (drop i es) ≡ so_far
unfolding lowest_from
from_done test n so_far es i l = at_drop_all (lowest_from test n so_far) es i l

-- ---- what the first of so many numbers gives that gives something
module _ {X : Type 0} (f : ℕ → Option X) where
  none_gives : (many n : ℕ) → ((j : ℕ) → n ≤ j → j < n + many → f j ≡ None) → first_at f n many ≡ None
  unfolding first_at
  none_gives zero n h = refl
  none_gives (suc many) n h =
      ap (λ o. option_or o (first_at f (n + 1) many)) (h n (omega arith) (omega arith)) ∙ none_gives many (n + 1) (λ j a b. h j (omega arith) (omega arith))

  one_gives : (many n i : ℕ) (x : X) → n ≤ i → i < n + many → f i ≡ Some x → ((j : ℕ) → n ≤ j → j < i → f j ≡ None) → first_at f n many ≡ Some x
  unfolding first_at
  one_gives zero n i x a b e none = absurd (omega arith)
  one_gives (suc many) n i x a b e none =
      ⊎_elim
      (λ (here : n ≡ i). ap (λ o. option_or o (first_at f (n + 1) many)) (ap f here ∙ e))
      (λ (later : n ≡ i → ⊥).
      ap (λ o. option_or o (first_at f (n + 1) many)) (none n (omega arith) (omega arith))
      ∙ one_gives many (n + 1) i x (omega arith) (omega arith) e (λ j c d. none j (omega arith) d))
      (cases_eq n i)

  module _ {F : Type 0} (g : Mut F (ℕ × Unit {0}) (Option X)) (c : F) (gives : (a : ℕ × Unit {0}) (r : Option X) (q : F) → Called g c a r q → (q ≡ c) × (r ≡ f a.0)) (n many : ℕ) where
    same_option : (o : Option ℕ) (x : ℕ) → option_map (λ y. y) o ≡ Some x → o ≡ Some x
    same_option None x e = cc
    same_option (Some y) x e = e

    -- `find_map` over a range
    pub first_found : (s : Range ℕ) → s ≡ record { start = n; end = n + many } → (r : Option X)
        → SomeRun nat_range_steps s (λ p. MatchOption r (IsTrue p.whole × AllItemsGive p g c None) (λ y. (i : ℕ) × (i < p.len) × (p.len ≡ i + 1) × IsFirstToGive p g c (Some y) None i))
        → r ≡ first_at f n many
    first_found s is r run = go r run.2
      where
        p : Run nat_range_steps
        p = run.0

        begins : p.from.start ≡ n
        begins = ap (λ (x : Range ℕ). x.start) (run.1 ∙ is)

        ends : p.from.end ≡ n + many
        ends = ap (λ (x : Range ℕ). x.end) (run.1 ∙ is)

        keeps : CallKeepsClosure g c
        keeps a r q called = (gives a r q called).0

        item : (k : ℕ) → k < p.len → p.at k ≡ Some (n + k)
        item k l = same_option (p.at k) (n + k) ((range_runs p p.seen).3 k l ∙ ap (λ m. Some (m + k)) begins)

        place : (k : ℕ) (r : Option X) → Called g c (n + k, tt) r c → (j : ℕ) → n + k ≡ j → f j ≡ r
        place k r called j e = sym ((gives (n + k, tt) r c called).1 ∙ ap f e)

        go : (r : Option X) → MatchOption r (IsTrue p.whole × AllItemsGive p g c None) (λ y. (i : ℕ) × (i < p.len) × (p.len ≡ i + 1) × IsFirstToGive p g c (Some y) None i) → r ≡ first_at f n many
        go None h =
            let counts = range_runs p p.seen in
            let all : p.len ≡ p.from.end - p.from.start = counts.1 h.0 in
            sym (none_gives many n (λ j a b.
            let l : j - n < p.len = omega (arith, begins, ends) in
            place (j - n) None (subst (λ o. IfSome o (λ x. Called g c (x, tt) None c)) (item (j - n) l) (h.1 keeps (j - n))) j (omega arith)))
        go (Some y) h =
            let counts = range_runs p p.seen in
            let few : p.len ≤ p.from.end - p.from.start = counts.0 in
            let i = h.0 in
            let within : i < p.len = h.1 in
            let both = h.3 keeps in
            sym (one_gives many n (n + i) y (omega arith) (omega (arith, begins, ends))
            (place i (Some y) (subst (λ o. IsSomeAnd o (λ x. Called g c (x, tt) (Some y) c)) (item i within) both.0) (n + i) refl)
            (λ j a b.
            let l : j - n < i = omega arith in
            place (j - n) None (subst (λ o. IsSomeAnd o (λ x. Called g c (x, tt) None c)) (item (j - n) (omega arith)) (both.1 (j - n) l)) j (omega arith)))
