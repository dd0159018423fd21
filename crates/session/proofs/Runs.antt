-- A trial that time runs out on.
use Rattle.std.proofs.Common.{◌≡◌, ℕ, ◌+◌, ◌-◌, ◌<◌, ◌≤◌, true, List, [], ◌∷◌, map, refl, ap, ◌∙◌, ⊎_elim, arith}
use Rattle.std.proofs.lemmas.Bool.{cases_lt, lt-ltb}
use Rattle.std.proofs.lemmas.Bool.Decides.{nat_tests}
use Rattle.session.specs.declared.event.Outcome.{Outcome}
use Rattle.session.specs.declared.event.Outcome.TheVariants.{Nothing, Reverted}
use Rattle.session.specs.Trials.{Pending, elapse, idle, is_pending, outcome_of, trial_after}
use Rattle.session.specs.Laws.{RunsOut, after_all, all_reverts, less, reverts, total}

-- ---- one after the other
next_after : (t u : Pending) (n : ℕ) (ns : List ℕ) → trial_after t (elapse n) ≡ u → after_all t (map elapse (n ∷ ns)) ≡ after_all u (map elapse ns)
next_after t u n ns p = ap (λ v. after_all v (map elapse ns)) p

next_counts : (t u : Pending) (n : ℕ) (ns : List ℕ) (o : Outcome) → trial_after t (elapse n) ≡ u → outcome_of t (elapse n) ≡ o → all_reverts t (map elapse (n ∷ ns)) ≡ reverts o + all_reverts u (map elapse ns)
next_counts t u n ns o p q = cc (ap reverts q)

-- ---- without a trial time changes nothing
stays_idle : (ns : List ℕ) → (after_all idle (map elapse ns) ≡ idle) × (all_reverts idle (map elapse ns) ≡ 0)
stays_idle [] = (refl, refl)
stays_idle (n ∷ ns) =
    let rest = stays_idle ns in
    let same : trial_after idle (elapse n) ≡ idle = grind (arith, nat_tests) in
    (next_after idle idle n ns same ∙ rest.0, next_counts idle idle n ns Nothing same (grind (arith, nat_tests)) ∙ omega (arith, rest.1))

-- ---- one step
-- fewer seconds than are left
goes_on : (t : Pending) (n : ℕ) → n < t.seconds → (trial_after t (elapse n) ≡ less t n) × (outcome_of t (elapse n) ≡ Nothing)
goes_on t n lt = grind (arith, nat_tests)

-- as many as are left, or more
ends : (t : Pending) (n : ℕ) → is_pending t ≡ true → t.seconds ≤ n → (trial_after t (elapse n) ≡ idle) × (outcome_of t (elapse n) ≡ Reverted)
ends t n on le = grind (arith, nat_tests)

less_more : (t : Pending) (m n : ℕ) → less (less t m) n ≡ less t (m + n)
less_more t m n = grind arith

first_goes_on : (t : Pending) (n : ℕ) (ns : List ℕ) → n < t.seconds → RunsOut (less t n) ns → RunsOut t (n ∷ ns)
first_goes_on t n ns lt rest =
    let step = goes_on t n lt in
    let after = next_after t (less t n) n ns step.0 in
    let count = next_counts t (less t n) n ns Nothing step.0 step.1 in
    record {
      fewer = λ few. let r = rest.fewer (omega arith) in (after ∙ r.0 ∙ less_more t n (total ns), count ∙ omega (arith, r.1));
      spent = λ on le. let r = rest.spent (lt-ltb 0 (t.seconds - n) (omega arith)) (omega arith) in (after ∙ r.0, count ∙ omega (arith, r.1));
    }

first_ends : (t : Pending) (n : ℕ) (ns : List ℕ) → t.seconds ≤ n → RunsOut t (n ∷ ns)
first_ends t n ns le =
    record {
      fewer = λ few. absurd (omega arith);
      spent = λ on enough. let step = ends t n on le in let rest = stays_idle ns in (next_after t idle n ns step.0 ∙ rest.0, next_counts t idle n ns Reverted step.0 step.1 ∙ omega (arith, rest.1));
    }

pub runs_out : (t : Pending) (ns : List ℕ) → RunsOut t ns
runs_out t [] = grind (arith, nat_tests)
runs_out t (n ∷ ns) =
    ⊎_elim (λ lt. first_goes_on t n ns lt (runs_out (less t n) ns)) (λ le. first_ends t n ns le) (cases_lt n t.seconds)
