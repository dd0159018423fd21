-- Byte writes one after the other, with power on or off. Assumes nothing.
use Rattle.std.proofs.Common.{◌≡◌, ℕ, ◌+◌, ◌-◌, ◌<◌, Bool, true, false, ◌&&◌, eqb, Some, None, Option, sym, refl, ap, ◌∙◌, subst, ⊎_elim, arith}
use Rattle.std.proofs.lemmas.Bool.{eqb-true, eqb-false, eq-eqb, ne_eqb, cases_lt, false≢true}
use Rattle.supply.specs.Budget.{on_by, left_by, lasts_by, is_on, left_of, lasts, allowed, less, Spent, Asked}
use Rattle.supply.specs.declared.Power.{Power}
use Rattle.supply.specs.declared.Power.TheVariants.{Off, On}
use Rattle.supply.specs.declared.Supply.{Supply}
use Rattle.supply.proofs.Spending.{allowed_le, allowed_none, less_none, allowed_on, allowed_stays, less_more, both_done}

less_stays : (b : Option ℕ) (m n : ℕ) → (allowed b m ≡ m → ⊥) → less b (m + n) ≡ less b m
less_stays None m n a = refl
less_stays (Some q) m n a = ⊎_elim (λ low. ap Some (omega arith)) (λ high. absurd (a (omega arith))) (cases_lt q m)

-- k byte writes were done, or fewer
pub all_done : {k : ℕ} {s p : Supply} → Asked k s true p → allowed (lasts s) k ≡ k
all_done {k} {s} e = eqb-true (allowed (lasts s) k) k (sym e.done)

pub not_all : {k : ℕ} {s p : Supply} → Asked k s false p → allowed (lasts s) k ≡ k → ⊥
not_all {k} {s} e = eqb-false (allowed (lasts s) k) k (sym e.done)

and_true : (b : Bool) → (b && true) ≡ b
and_true true = refl
and_true false = refl

pub asked_none : (s : Supply) → Asked 0 s true s
asked_none s =
    record { done = sym (eq-eqb (allowed (lasts s) 0) 0 (allowed_none (lasts s))); on = sym (and_true (is_on s)); left = sym (less_none (lasts s)); cuts = refl }

-- m byte writes are done, and n more are asked
pub allowed_then : {m : ℕ} {s p : Supply} (n : ℕ) → Asked m s true p → allowed (lasts s) (m + n) ≡ m + allowed (lasts p) n
allowed_then {m} {s} {p} n e = allowed_on (lasts s) m n (all_done e) ∙ ap (λ (b : Option ℕ). m + allowed b n) (sym e.left)

pub asked_then : {m n : ℕ} {s p q : Supply} {r : Bool} → Asked m s true p → Asked n p r q → Asked (m + n) s r q
asked_then {m} {n} {s} {p} {q} {r} e f =
    let more = allowed_then n e in
    record {
      done = f.done ∙ both_done m n (allowed (lasts p) n) ∙ sym (ap (λ (k : ℕ). eqb k (m + n)) more);
      on = f.on ∙ ap (λ (b : Bool). b && r) (e.on ∙ and_true (is_on s));
      left = f.left ∙ ap (λ (b : Option ℕ). less b n) e.left ∙ less_more (lasts s) m n;
      cuts = f.cuts ∙ e.cuts;
    }

-- power failed within m byte writes, whatever more was to come
pub allowed_ends : {m : ℕ} {s p : Supply} (n : ℕ) → Asked m s false p → allowed (lasts s) (m + n) ≡ allowed (lasts s) m
allowed_ends {m} {s} n e = allowed_stays (lasts s) m n (not_all e)

pub asked_ends : {m : ℕ} {s p : Supply} (n : ℕ) → Asked m s false p → Asked (m + n) s false p
asked_ends {m} {s} {p} n e =
    let same = allowed_ends n e in
    let short : allowed (lasts s) m < m = omega (arith, allowed_le (lasts s) m, not_all e) in
    record {
      done = sym (ne_eqb (allowed (lasts s) (m + n)) (m + n) (λ full. omega arith));
      on = e.on;
      left = e.left ∙ sym (less_stays (lasts s) m n (not_all e));
      cuts = e.cuts;
    }

-- power fails at the next byte write: of n that are asked, k were done
pub cut_at : {k n : ℕ} {s p q : Supply} → Asked k s true p → Asked 1 p false q → k < n → allowed (lasts s) n ≡ k
cut_at {k} {n} {s} {p} e f h =
    let none : allowed (lasts p) 1 ≡ 0 = omega (arith, allowed_le (lasts p) 1, not_all f) in
    let m : k + 1 + (n - (k + 1)) ≡ n = omega arith in
    ap (allowed (lasts s)) (sym m) ∙ allowed_ends (n - (k + 1)) (asked_then e f) ∙ allowed_then 1 e ∙ omega arith

pub asked_cut : {k n : ℕ} {s p q : Supply} → Asked k s true p → Asked 1 p false q → k < n → Asked n s false q
asked_cut {k} {n} {s} {p} {q} e f h =
    let m : k + 1 + (n - (k + 1)) ≡ n = omega arith in
    subst (λ (j : ℕ). Asked j s false q) m (asked_ends (n - (k + 1)) (asked_then e f))

-- power that is on lasts for what is left of it
lasts_on : (p : Power) → on_by p ≡ true → lasts_by p ≡ left_by p
lasts_on Off on = absurd (false≢true on)
lasts_on (On left) on = refl

pub lasts_left : (s : Supply) → is_on s ≡ true → lasts s ≡ left_of s
lasts_left s on = lasts_on s.power on

pub spent_on : {n : ℕ} {s p : Supply} {r : Bool} → is_on s ≡ true → Asked n s r p → Spent n s r p
spent_on {n} {s} {p} {r} on e =
    let same : lasts s ≡ left_of s = lasts_left s on in
    let still : is_on p ≡ r = e.on ∙ ap (λ (b : Bool). b && r) on in
    record {
      done = e.done ∙ ap (λ (b : Option ℕ). eqb (allowed b n) n) same;
      on = still;
      left = λ t. sym (lasts_left p (still ∙ t)) ∙ e.left ∙ ap (λ (b : Option ℕ). less b n) same;
      cuts = e.cuts;
    }

-- of power that is on as many byte writes are asked as are spent
lasts_off : (q : Power) → on_by q ≡ false → lasts_by q ≡ Some 0
lasts_off Off off = refl
lasts_off (On left) off = absurd (false≢true (sym off))

none_less : (b : Option ℕ) (n : ℕ) → (allowed b n ≡ n → ⊥) → Some 0 ≡ less b n
none_less None n short = absurd (short refl)
none_less (Some m) n short = ap Some (omega (arith, short))

pub asked_on : {n : ℕ} {s p : Supply} (r : Bool) → is_on s ≡ true → Spent n s r p → Asked n s r p
asked_on {n} {s} {p} r on e =
    let same : lasts s ≡ left_of s = lasts_left s on in
    record {
      done = e.done ∙ sym (ap (λ (b : Option ℕ). eqb (allowed b n) n) same);
      on = e.on ∙ sym (ap (λ (b : Bool). b && r) on);
      left = left r e ∙ sym (ap (λ (b : Option ℕ). less b n) same);
      cuts = e.cuts;
    }
  where
    left : {n : ℕ} {s p : Supply} (r : Bool) → Spent n s r p → lasts p ≡ less (left_of s) n
    left {p} true e = lasts_left p e.on ∙ e.left refl
    left {n} {s} {p} false e = lasts_off p.power e.on ∙ none_less (left_of s) n (eqb-false (allowed (left_of s) n) n (sym e.done))
