-- A plan touches only its own targets, and from wherever it was cut it can be done again.
use Rattle.std.proofs.Common.{◌≡◌, ℕ, ◌+◌, ◌<◌, ◌≤◌, ◌≢◌, ◌⊎◌, List, [], ◌∷◌, ◌++◌, length, get_or, set, sym, refl, ap, ◌∙◌, subst, inl, inr, arith, length-set, get_or-set_other, get_or-set_same, set-set}
use lib.Seq.{set-get_or}
use Rattle.device.specs.declared.Block.{Block}
use Rattle.device.specs.declared.Block.TheVariants.{Good, Damaged}
use Rattle.device.specs.Power.{before, written, torn}
use Rattle.journal.specs.Plans.{Write, run_from}
use Rattle.journal.proofs.Plan.{Cut, here, later, written_out}

-- the targets rise strictly, from a first number on and below an end
abbrev pub Rises : ℕ → ℕ → List Write → Type 0
Rises lo hi [] = Unit {0}
Rises lo hi (w ∷ ws) = (lo ≤ w.0) × (w.0 < hi) × Rises (w.0 + 1) hi ws

-- a block is none of the targets
abbrev pub Apart : ℕ → List Write → Type 0
Apart i [] = Unit {0}
Apart i (w ∷ ws) = (i ≢ w.0) × Apart i ws

pub apart_below : (i lo hi : ℕ) (ws : List Write) → i < lo → Rises lo hi ws → Apart i ws
apart_below i lo hi [] h r = tt
apart_below i lo hi (w ∷ ws) h r = (omega arith, apart_below i (w.0 + 1) hi ws (omega arith) r.2)

pub apart_above : (i lo hi : ℕ) (ws : List Write) → hi ≤ i → Rises lo hi ws → Apart i ws
apart_above i lo hi [] h r = tt
apart_above i lo hi (w ∷ ws) h r = (omega arith, apart_above i (w.0 + 1) hi ws h r.2)

pub rises_sooner : (k lo hi : ℕ) (ws : List Write) → k ≤ lo → Rises lo hi ws → Rises k hi ws
rises_sooner k lo hi [] h r = tt
rises_sooner k lo hi (w ∷ ws) h r = (omega arith, r.1, r.2)

pub run_rises : (n hi : ℕ) (xs : List (List ℕ)) → n + length xs ≤ hi → Rises n hi (run_from n xs)
run_rises n hi [] h = tt
run_rises n hi (x ∷ xs) h = (omega arith, omega arith, run_rises (n + 1) hi xs (omega arith))

-- where a plan may have come to: some writes are done, and one more block may have anything
pub data Reached : List Write → List Block → List Block → Type 0 where
  stop : {ws : List Write} {bs : List Block} → Reached ws bs bs
  cut : {w : Write} {ws : List Write} {bs : List Block} (b : Block) → Reached (w ∷ ws) bs (set bs w.0 b)
  next : {w : Write} {ws : List Write} {bs bs' : List Block} → Reached ws (set bs w.0 (Good w.1)) bs' → Reached (w ∷ ws) bs bs'

pub torn_reached : {ws : List Write} {bs : List Block} {at : ℕ} {bs' : List Block} → Cut ws bs at bs' → Reached ws bs bs'
torn_reached (here {b = b} l) = cut b
torn_reached (later t) = next (torn_reached t)

pub done_reached : (ws : List Write) (bs : List Block) → Reached ws bs (written_out ws bs)
done_reached [] bs = stop
done_reached (w ∷ ws) bs = next (done_reached ws (set bs w.0 (Good w.1)))

pub same_length : {ws : List Write} {bs bs' : List Block} → Reached ws bs bs' → length bs' ≡ length bs
same_length stop = refl
same_length (cut {w = w} {bs = bs} b) = length-set bs w.0 b
same_length (next {w = w} {bs = bs} r) = same_length r ∙ length-set bs w.0 (Good w.1)

-- a block that is no target is as it was
pub frame : {ws : List Write} {bs bs' : List Block} → Reached ws bs bs' → (i : ℕ) → Apart i ws → get_or bs' i Damaged ≡ get_or bs i Damaged
frame stop i a = refl
frame (cut {w = w} {bs = bs} b) i a = get_or-set_other bs w.0 i b Damaged a.0
frame (next {w = w} {bs = bs} r) i a = frame r i a.1 ∙ get_or-set_other bs w.0 i (Good w.1) Damaged a.0

-- a plan done again from where it was cut comes to the same blocks
pub redo : (lo hi : ℕ) {ws : List Write} {bs bs' : List Block} → Rises lo hi ws → hi ≤ length bs → Reached ws bs bs' → written_out ws bs' ≡ written_out ws bs
redo lo hi r room stop = refl
redo lo hi r room (cut {w = w} {ws = ws} {bs = bs} b) = ap (written_out ws) (set-set bs w.0 b (Good w.1))
redo lo hi r room (next {w = w} {ws = ws} {bs = bs} {bs' = bs'} c) =
    let within : w.0 < length bs = omega arith in
    let stands : get_or bs' w.0 Damaged ≡ Good w.1 = frame c w.0 (apart_below w.0 (w.0 + 1) hi ws (omega arith) r.2) ∙ get_or-set_same bs w.0 (Good w.1) Damaged within in
    let again : set bs' w.0 (Good w.1) ≡ bs' = ap (set bs' w.0) (sym stands) ∙ set-get_or bs' w.0 Damaged in
    let wide : hi ≤ length (set bs w.0 (Good w.1)) = omega (arith, length-set bs w.0 (Good w.1)) in
    ap (written_out ws) again ∙ redo (w.0 + 1) hi r.2 wide c

-- power failed in the first of two plans, or in the second
pub split : (xs ys : List Write) {bs : List Block} {at : ℕ} {bs' : List Block} → Cut (xs ++ ys) bs at bs' → Cut xs bs at bs' ⊎ Cut ys (written_out xs bs) at bs'
split [] ys t = inr t
split (x ∷ xs) ys (here l) = inl (here l)
split (x ∷ xs) ys (later t) = elim (split xs ys t) [ inl a ↦ inl (later a) | inr b ↦ inr b ]

pub written_out_both : (xs ys : List Write) (bs : List Block) → written_out (xs ++ ys) bs ≡ written_out ys (written_out xs bs)
written_out_both [] ys bs = refl
written_out_both (x ∷ xs) ys bs = written_out_both xs ys (set bs x.0 (Good x.1))

pub none : {bs : List Block} {at : ℕ} {bs' : List Block} → Cut [] bs at bs' → ⊥
none t = elim t [ ]

-- a plan of one write leaves its block as it was, written or damaged
pub one : (p : ℕ) (h : List ℕ) (P : ℕ → List Block → Type 0) {bs : List Block} {at : ℕ} {bs' : List Block} → P p bs → P p (set bs p (Good h)) → P p (set bs p Damaged) → Cut ((p, h) ∷ []) bs at bs' → P at bs'
one p h P {bs = bs} a b c (here before) = subst (P p) (sym (set-get_or bs p Damaged)) a
one p h P a b c (here written) = b
one p h P a b c (here torn) = c
one p h P a b c (later t) = absurd (none t)

-- power fails at one of the targets
pub failed_at : (lo hi : ℕ) {ws : List Write} {bs : List Block} {at : ℕ} {bs' : List Block} → Rises lo hi ws → Cut ws bs at bs' → (lo ≤ at) × (at < hi)
failed_at lo hi r (here l) = (r.0, r.1)
failed_at lo hi r (later {w = w} t) =
    let k = failed_at (w.0 + 1) hi r.2 t in
    (omega arith, k.1)
