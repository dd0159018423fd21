-- Accesses in reach and out of it. Assumes nothing.
use Rattle.std.proofs.Common.{◌≡◌, ℕ, ◌<◌, ◌≤◌, Bool, true, false, ltb, ◌⊎◌, List, length, get_or, Ok, Err, MatchBool, Result, sym, refl, subst, inl, inr, ⊎_elim}
use Rattle.std.proofs.lemmas.Bool.{and_parts, and_cases, ltb-true, ltb-false, cond-true, cond-false, cases_Bool}
use Rattle.device.specs.declared.Block.{Block}
use Rattle.device.specs.declared.Block.TheVariants.{Damaged}
use Rattle.device.specs.declared.DeviceFault.{DeviceFault}
use Rattle.device.specs.declared.DeviceFault.TheVariants.{Refused}
use Rattle.device.specs.Power.{ReadAnswer, WriteAnswer}
use Rattle.device.specs.Reach.{in_reach, UnlessRefused, read_answer}
use Rattle.device.proofs.Answers.{read_refused, read_answered, write_refused}

pub reached : (bs : List Block) (p : Bool) (at : ℕ) → in_reach bs p at ≡ true → (p ≡ true) × (at < length bs)
reached bs p at e = let b = and_parts p (ltb at (length bs)) e in (b.0, ltb-true at (length bs) b.1)

out_of_reach : (bs : List Block) (p : Bool) (at : ℕ) → in_reach bs p at ≡ false → (p ≡ false) ⊎ (length bs ≤ at)
out_of_reach bs p at e = ⊎_elim (λ a. inl a) (λ b. inr (ltb-false at (length bs) b)) (and_cases p (ltb at (length bs)) e)

-- a read that never loses power keeps the rule
pub answers : (bs : List Block) (p : Bool) (at : ℕ) → ReadAnswer bs p at (read_answer bs p at) bs p
answers bs p at =
    ⊎_elim
    (λ t. let q = reached bs p at t in rw (cond-true (in_reach bs p at) (Ok (get_or bs at Damaged)) (Err Refused) t) (read_answered q.0 q.1 refl))
    (λ f. rw (cond-false (in_reach bs p at) (Ok (get_or bs at Damaged)) (Err Refused) f) (read_refused bs p at (out_of_reach bs p at f)))
    (cases_Bool (in_reach bs p at))

-- an access in reach
pub made_in : {D T : Type 0} (bs : List Block) (p : Bool) (at : ℕ) (made : Type 0) (r : Result T DeviceFault) (d e : D) → in_reach bs p at ≡ true → made → UnlessRefused bs p at made r d e
made_in bs p at made r d e reach w = subst (λ (b : Bool). MatchBool b made ((r ≡ Err Refused) × (e ≡ d))) (sym reach) w

-- either of the two, by cases
pub split : {D T : Type 0} (G : Type 0) (bs : List Block) (p : Bool) (at : ℕ) (made : Type 0) (r : Result T DeviceFault) (d e : D) → UnlessRefused bs p at made r d e → (p ≡ true → at < length bs → made → G) → ((p ≡ false) ⊎ (length bs ≤ at) → r ≡ Err Refused → e ≡ d → G) → G
split {D} {T} G bs p at made r d e w yes' no' = by (in_reach bs p at) refl w
  where
    by : (b : Bool) → in_reach bs p at ≡ b → MatchBool b made ((r ≡ Err Refused) × (e ≡ d)) → G
    by true is w = let q = reached bs p at is in yes' q.0 q.1 w
    by false is w = no' (out_of_reach bs p at is) w.0 w.1

-- so the rule is to be shown in reach only
module _ {D : Type 0} (blocks : D → List Block) (powered : D → Bool) (d e : D) (at : ℕ) (made : Type 0) where
  pub read_by_reach : (r : Result Block DeviceFault) → UnlessRefused (blocks d) (powered d) at made r d e → (powered d ≡ true → at < length (blocks d) → made → ReadAnswer (blocks d) (powered d) at r (blocks e) (powered e)) → ReadAnswer (blocks d) (powered d) at r (blocks e) (powered e)
  read_by_reach r w rule =
      split (ReadAnswer (blocks d) (powered d) at r (blocks e) (powered e)) (blocks d) (powered d) at made r d e w rule
      (λ out is same. rw (is, same) (read_refused (blocks d) (powered d) at out))

  pub write_by_reach : (bytes : List ℕ) (r : Result Unit DeviceFault) → UnlessRefused (blocks d) (powered d) at made r d e → (powered d ≡ true → at < length (blocks d) → made → WriteAnswer (blocks d) (powered d) at bytes r (blocks e) (powered e)) → WriteAnswer (blocks d) (powered d) at bytes r (blocks e) (powered e)
  write_by_reach bytes r w rule =
      split (WriteAnswer (blocks d) (powered d) at bytes r (blocks e) (powered e)) (blocks d) (powered d) at made r d e w rule
      (λ out is same. rw (is, same) (write_refused (blocks d) (powered d) at bytes out))

-- and where one in reach is never refused, a refusal leaves the device equal
pub same_if_refused : {D T : Type 0} (bs : List Block) (p : Bool) (at : ℕ) (made : Type 0) (r : Result T DeviceFault) (d e : D) → UnlessRefused bs p at made r d e → (p ≡ true → at < length bs → made → ⊥) → e ≡ d
same_if_refused bs p at made r d e w never = split (e ≡ d) bs p at made r d e w (λ on here m. absurd (never on here m)) (λ out is same. same)
