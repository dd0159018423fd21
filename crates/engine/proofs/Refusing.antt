-- A call that its session may not make is refused before any further row is looked at.
use Rattle.std.proofs.Common.{◌≡◌, ℕ, Bool, true, false, cond, not, Some, None, Err, Ok, Option, Result, sym, ap, arith, MatchResult, is_ok}
use Rattle.calls.specs.declared.call.CommitKind.{CommitKind}
use Rattle.calls.specs.declared.faults.EngineFault.{EngineFault}
use Rattle.calls.specs.declared.faults.EngineFault.TheVariants.{Plain}
use Rattle.calls.specs.declared.faults.Refusal.TheVariants.{SessionNumber, CommitNumbers, EngineOff, SessionNotOpen}
use Rattle.session.specs.Locks.{is_open}
use Rattle.session.specs.Numbers.{is_session}
use Rattle.validate.specs.declared.broken.Broken.{Broken}
use Rattle.model.specs.Model.{Model}
use Rattle.model.specs.Refusals.{first, or_invalid, of_kind, cancel_refusals, commit_refusals}
use Rattle.engine.specs.Checks.{open_refusal}

-- a row whose condition does not hold
passed : (b : Bool) (x : EngineFault) (rest : Option EngineFault) (f : EngineFault) → b ≡ true → rest ≡ Some f → cond (not b) (Some x) rest ≡ Some f
passed true x rest f is e = e
passed false x rest f is e = absurd (let z : ◌≡◌ {A = ℕ} 0 1 = cc in omega arith)

refused_first : (m : Model) (s : ℕ) (rest : Option EngineFault) (f : EngineFault) → Some f ≡ open_refusal m s → cond (not m.on) (Some (Plain EngineOff)) (cond (not (is_open m.held s)) (Some (Plain SessionNotOpen)) rest) ≡ Some f
refused_first m s rest f e = go m.on (is_open m.held s) e
  where
    go : (a b : Bool) → Some f ≡ cond (not a) (Some (Plain EngineOff)) (cond (not b) (Some (Plain SessionNotOpen)) None) → cond (not a) (Some (Plain EngineOff)) (cond (not b) (Some (Plain SessionNotOpen)) rest) ≡ Some f
    go false b e = sym e
    go true false e = sym e
    go true true e = absurd (let z : ◌≡◌ {A = ℕ} 0 1 = cc in omega arith)

pub cancel_refused : (m : Model) (s id : ℕ) (f : EngineFault) → is_session s ≡ true → Some f ≡ open_refusal m s → first (cancel_refusals m s id) ≡ Some f
cancel_refused m s id f is e = passed (is_session s) (Plain SessionNumber) _ f is (refused_first m s _ f e)

pub commit_refused : (m : Model) (s : ℕ) (kind : CommitKind) (timeout persist id : ℕ) (v : Result Unit Broken) (f : EngineFault) → is_session s ≡ true → of_kind kind timeout persist ≡ true → Some f ≡ open_refusal m s → or_invalid (first (commit_refusals m s kind timeout persist id)) v ≡ Some f
commit_refused m s kind timeout persist id v f is k e =
    ap (λ (x : Option EngineFault). or_invalid x v)
    (passed (is_session s) (Plain SessionNumber) _ f is (passed (of_kind kind timeout persist) (Plain CommitNumbers) _ f k (refused_first m s _ f e)))

-- what is there after an error was exchanged was there before
pub kept_ok : {T E : Type 0} (F : Type 0) (r : Result T E) (P : E → Type 0) (x : T) → true ≡ is_ok r → MatchResult r (λ (y : T). ◌≡◌ {A = Result T F} (Ok x) (Ok y)) P → r ≡ Ok x
kept_ok F (Ok y) P x t e = cc
kept_ok F (Err f) P x t e = absurd (let z : ◌≡◌ {A = ℕ} 0 1 = cc in omega arith)
