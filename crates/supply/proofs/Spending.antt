-- Byte writes one after the other, of power that is on. Assumes nothing.
use Rattle.std.proofs.Common.{◌≡◌, ℕ, ◌+◌, ◌-◌, ◌<◌, ◌≤◌, Bool, true, false, eqb, Some, None, Option, sym, refl, ap, ◌∙◌, subst, ⊎_elim, arith}
use Rattle.std.proofs.lemmas.Bool.{eqb-true, eqb-false, eq-eqb, ne_eqb, cases_lt, cases_eq, false≢true}
use Rattle.supply.specs.Budget.{is_on, left_of, allowed, less, Spent}
use Rattle.supply.specs.declared.Supply.{Supply}

pub allowed_le : (b : Option ℕ) (n : ℕ) → allowed b n ≤ n
allowed_le None n = omega arith
allowed_le (Some m) n = omega arith

pub allowed_none : (b : Option ℕ) → allowed b 0 ≡ 0
allowed_none b = omega (arith, allowed_le b 0)

pub less_none : (b : Option ℕ) → less b 0 ≡ b
less_none None = refl
less_none (Some m) = ap Some (omega arith)

-- n more are asked after m that were allowed, or after fewer were
pub allowed_on : (b : Option ℕ) (m n : ℕ) → allowed b m ≡ m → allowed b (m + n) ≡ m + allowed (less b m) n
allowed_on None m n a = refl
allowed_on (Some q) m n a = omega arith

pub allowed_stays : (b : Option ℕ) (m n : ℕ) → (allowed b m ≡ m → ⊥) → allowed b (m + n) ≡ allowed b m
allowed_stays None m n a = absurd (a refl)
allowed_stays (Some q) m n a = ⊎_elim (λ low. omega arith) (λ high. absurd (a (omega arith))) (cases_lt q m)

pub less_more : (b : Option ℕ) (k j : ℕ) → less (less b k) j ≡ less b (k + j)
less_more None k j = refl
less_more (Some m) k j = ap Some (omega arith)

pub both_done : (m n k : ℕ) → eqb k n ≡ eqb (m + k) (m + n)
both_done m n k = ⊎_elim (λ same. eq-eqb k n same ∙ sym (eq-eqb (m + k) (m + n) (ap (λ (j : ℕ). m + j) same))) (λ other. ne_eqb k n other ∙ sym (ne_eqb (m + k) (m + n) (λ same. other (omega arith)))) (cases_eq k n)

-- k byte writes were done
pub all_done : {k : ℕ} {s p : Supply} → Spent k s true p → allowed (left_of s) k ≡ k
all_done {k} {s} e = eqb-true (allowed (left_of s) k) k (sym e.done)

all_left : {k : ℕ} {s p : Supply} → Spent k s true p → left_of p ≡ less (left_of s) k
all_left e = e.left refl

pub spent_none : (s : Supply) → is_on s ≡ true → Spent 0 s true s
spent_none s on =
    let z = allowed_none (left_of s) in
    record { done = sym (eq-eqb (allowed (left_of s) 0) 0 z); on = on; left = λ _. sym (less_none (left_of s)); cuts = refl }

-- m byte writes are done, and n more are asked
pub allowed_then : {m : ℕ} {s p : Supply} (n : ℕ) → Spent m s true p → allowed (left_of s) (m + n) ≡ m + allowed (left_of p) n
allowed_then {m} {s} {p} n e = allowed_on (left_of s) m n (all_done e) ∙ ap (λ (b : Option ℕ). m + allowed b n) (sym (all_left e))

pub spent_then : {m n : ℕ} {s p q : Supply} {r : Bool} → Spent m s true p → Spent n p r q → Spent (m + n) s r q
spent_then {m} {n} {s} {p} {q} {r} e f =
    let more = allowed_then n e in
    record {
      done = f.done ∙ both_done m n (allowed (left_of p) n) ∙ sym (ap (λ (k : ℕ). eqb k (m + n)) more);
      on = f.on;
      left = λ t. f.left t ∙ ap (λ (b : Option ℕ). less b n) (all_left e) ∙ less_more (left_of s) m n;
      cuts = f.cuts ∙ e.cuts;
    }

-- power failed within m byte writes, whatever more was to come
pub allowed_ends : {m : ℕ} {s p : Supply} (n : ℕ) → Spent m s false p → allowed (left_of s) (m + n) ≡ allowed (left_of s) m
allowed_ends {m} {s} n e = allowed_stays (left_of s) m n (eqb-false (allowed (left_of s) m) m (sym e.done))

pub spent_ends : {m : ℕ} {s p : Supply} (n : ℕ) → Spent m s false p → Spent (m + n) s false p
spent_ends {m} {s} {p} n e =
    let same = allowed_ends n e in
    let short : allowed (left_of s) m < m = omega (arith, allowed_le (left_of s) m, eqb-false (allowed (left_of s) m) m (sym e.done)) in
    record {
      done = sym (ne_eqb (allowed (left_of s) (m + n)) (m + n) (λ full. omega arith));
      on = e.on;
      left = λ t. absurd (false≢true t);
      cuts = e.cuts;
    }

-- power fails at the next byte write: of n that are asked, k were done
pub cut_at : {k n : ℕ} {s p q : Supply} → Spent k s true p → Spent 1 p false q → k < n → allowed (left_of s) n ≡ k
cut_at {k} {n} {s} {p} e f h =
    let none : allowed (left_of p) 1 ≡ 0 = omega (arith, allowed_le (left_of p) 1, eqb-false (allowed (left_of p) 1) 1 (sym f.done)) in
    let m : k + 1 + (n - (k + 1)) ≡ n = omega arith in
    ap (allowed (left_of s)) (sym m) ∙ allowed_ends (n - (k + 1)) (spent_then e f) ∙ allowed_then 1 e ∙ omega arith

pub spent_cut : {k n : ℕ} {s p q : Supply} → Spent k s true p → Spent 1 p false q → k < n → Spent n s false q
spent_cut {k} {n} {s} {p} {q} e f h =
    let m : k + 1 + (n - (k + 1)) ≡ n = omega arith in
    subst (λ (j : ℕ). Spent j s false q) m (spent_ends (n - (k + 1)) (spent_then e f))
