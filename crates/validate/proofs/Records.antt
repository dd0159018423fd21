-- Required values: their order, and the test of it.
use Rattle.std.proofs.Common.{◌≡◌, ℕ, zero, suc, ◌+◌, ◌-◌, ◌<◌, ◌≤◌, Bool, true, false, ◌&&◌, leb, List, [], ◌∷◌, length, get_or, None, Some, Option, Bor, slice_get, MatchOption, sym, refl, ap, ◌∙◌, subst, not-suc-le-zero, arith}
use Rattle.std.proofs.lemmas.Bool.{and_parts, and_from, and_right, leb-true, le-leb, false≢true}
use Rattle.std.specs.List.{AllAdjacentBelow, IsAllAdjacentAnswer}
use Rattle.std.specs.Option.{option_copied}
use Rattle.table.specs.Table.{Rising}
use Rattle.table.proofs.Rows.{rising_cons, rising_head, rising_tail, greater_cons, greater_far}
use Rattle.config.specs.Order.{path_sooner}
use Rattle.config.proofs.Order.{total}
use Rattle.validate.specs.declared.bound.Bound.{Bound}
use Rattle.validate.specs.Bounds.{bound_path, before_next, bounds_lawful, ranged, Listed}

parts : (b : Bound) (rest : List Bound) → bounds_lawful (b ∷ rest) ≡ true → (leb b.values.lo b.values.hi ≡ true) × (before_next b rest ≡ true) × (bounds_lawful rest ≡ true)
parts b rest h =
    let p = and_parts (leb b.values.lo b.values.hi) (before_next b rest && bounds_lawful rest) h in
    let q = and_parts (before_next b rest) (bounds_lawful rest) p.1 in
    (p.0, q.0, q.1)

pub rises : (bs : List Bound) → bounds_lawful bs ≡ true → Rising bound_path path_sooner bs
rises [] h = record { climbs = λ i j d lt l. absurd (not-suc-le-zero l) }
rises (b ∷ []) h = record { climbs = λ i j d lt l. absurd (omega arith) }
rises (b ∷ (c ∷ rest)) h =
    let p = parts b (c ∷ rest) h in
    let up = rises (c ∷ rest) p.2 in
    rising_cons bound_path path_sooner total b (c ∷ rest)
    (greater_cons bound_path path_sooner total b.path c rest p.1 (greater_far bound_path path_sooner total b.path c.path rest p.1 (rising_head bound_path path_sooner total c rest up)))
    up

pub ranges : (bs : List Bound) → bounds_lawful bs ≡ true → (i : ℕ) (d : Bound) → i < length bs → (get_or bs i d).values.lo ≤ (get_or bs i d).values.hi
ranges [] h i d l = absurd (not-suc-le-zero l)
ranges (b ∷ rest) h zero d l = leb-true _ _ (parts b rest h).0
ranges (b ∷ rest) h (suc i) d l = ranges rest (parts b rest h).2 i d (omega arith)

next : (b : Bound) (rest : List Bound) → Rising bound_path path_sooner (b ∷ rest) → before_next b rest ≡ true
next b [] up = refl
next b (c ∷ rest) up = up.climbs 0 1 b (omega arith) (omega arith)

pub lawful_from : (bs : List Bound) → Rising bound_path path_sooner bs → ((i : ℕ) (d : Bound) → i < length bs → (get_or bs i d).values.lo ≤ (get_or bs i d).values.hi) → bounds_lawful bs ≡ true
lawful_from [] up each = refl
lawful_from (b ∷ rest) up each =
    and_from _ _ (le-leb _ _ (each 0 b (omega arith)))
    (and_from _ _ (next b rest up) (lawful_from rest (rising_tail bound_path path_sooner total b rest up) (λ i d l. each (suc i) d (omega arith))))

pub listed : (bs : List Bound) → length bs ≤ 8 → bounds_lawful bs ≡ true → Listed bs
listed bs few h = record { few = few; rises = rises bs h; ranges = ranges bs h }

-- ---- the test of records: each range and its path against the next one, and then the last range
abbrev pub step : Bound → Bound → Bool
step a b = ranged a && path_sooner a.path b.path

abbrev last_ranged : List Bound → Bool
last_ranged [] = true
last_ranged (b ∷ []) = ranged b
last_ranged (b ∷ (c ∷ rest)) = last_ranged (c ∷ rest)

alone : (a : Bool) → (a && (true && true)) ≡ a
alone true = refl
alone false = refl

both_so : (a b c : Bool) → true ≡ (a && b) → (a && (b && c)) ≡ c
both_so true true c h = refl
both_so true false c h = cc
both_so false b c h = cc

one_not : (a b c : Bool) → false ≡ (a && b) → (a && (b && c)) ≡ false
one_not true true c h = cc
one_not true false c h = refl
one_not false b c h = refl

-- a place of the rest is the next place of the whole
in_rest : (v : Bool) (b : Bound) (rest : List Bound) (k : ℕ) (d : Bound) → v ≡ step (get_or (b ∷ rest) (suc k) d) (get_or (b ∷ rest) (suc k + 1) d) → v ≡ step (get_or rest k d) (get_or rest (k + 1) d)
in_rest v b rest k d h =
    let next : suc k + 1 ≡ suc (k + 1) = omega arith in
    subst (λ n. v ≡ step (get_or rest k d) (get_or (b ∷ rest) n d)) next h

all_step : (bs : List Bound) → AllAdjacentBelow (λ x y. true ≡ step x y) bs (length bs) → bounds_lawful bs ≡ last_ranged bs
all_step [] h = refl
all_step (b ∷ []) h = alone (ranged b)
all_step (b ∷ (c ∷ rest)) h =
    both_so (ranged b) (path_sooner b.path c.path) _ (h 0 b (omega arith)) ∙ all_step (c ∷ rest) (λ k d lt. in_rest true b (c ∷ rest) k d (h (suc k) d (omega arith)))

one_stops : (bs : List Bound) (k : ℕ) → k + 1 < length bs → ((d : Bound) → false ≡ step (get_or bs k d) (get_or bs (k + 1) d)) → bounds_lawful bs ≡ false
one_stops [] k lt h = absurd (omega arith)
one_stops (b ∷ []) k lt h = absurd (omega arith)
one_stops (b ∷ (c ∷ rest)) zero lt h = one_not (ranged b) (path_sooner b.path c.path) _ (h b)
one_stops (b ∷ (c ∷ rest)) (suc k) lt h =
    and_right _ _ (and_right _ _ (one_stops (c ∷ rest) k (omega arith) (λ d. in_rest false b (c ∷ rest) k d (h d))))

abbrev pub if_ranged : Option Bound → Bool
if_ranged None = true
if_ranged (Some b) = ranged b

last_is : (bs : List Bound) → if_ranged (slice_get bs (length bs - 1)) ≡ last_ranged bs
last_is [] = refl
last_is (b ∷ []) = let z : length (b ∷ []) - 1 ≡ 0 = omega arith in ap (λ (n : ℕ). if_ranged (slice_get (b ∷ []) n)) z
last_is (b ∷ (c ∷ rest)) =
    let here : length (b ∷ (c ∷ rest)) - 1 ≡ suc (length rest) = omega arith in
    let there : length rest ≡ length (c ∷ rest) - 1 = omega arith in
    ap (λ (n : ℕ). if_ranged (slice_get (b ∷ (c ∷ rest)) n)) here ∙ ap (λ (n : ℕ). if_ranged (slice_get (c ∷ rest) n)) there ∙ last_is (c ∷ rest)

-- what is said of the last record, where there is one
pub last_told : (o : Option (Bor Bound)) (r : Bool) → MatchOption o (r ≡ true) (λ b. r ≡ ranged b.now) → r ≡ if_ranged (option_copied o)
last_told None r h = h
last_told (Some b) r h = h

pub lawful_then : (bs : List Bound) (s : Bool) → s ≡ true → IsAllAdjacentAnswer (λ x y b. b ≡ step x y) bs s → if_ranged (slice_get bs (length bs - 1)) ≡ bounds_lawful bs
lawful_then bs true y h = last_is bs ∙ sym (all_step bs h)
lawful_then bs false y h = absurd (false≢true y)

pub lawful_else : (bs : List Bound) (s : Bool) → s ≡ false → IsAllAdjacentAnswer (λ x y b. b ≡ step x y) bs s → bounds_lawful bs ≡ false
lawful_else bs true n h = absurd (false≢true (sym n))
lawful_else bs false n h = one_stops bs h.0 h.1 h.2
