use Rattle.std.proofs.Common.{◌≡◌, ℕ, ◌≤◌, take, drop}
use Rattle.engine.specs.Seen.{schema_of, validator_of}
use Rattle.run.specs.Ran.{ChainOn}
use Rattle.run.proofs.perform_all.Given as goal

-- the answers so far belong to points from the first engine; the slots after them are untouched
abbrev pub invariant-loop-i : goal.invariant-loop-i
invariant-loop-i g l =
    ((k : ℕ) → l.i ≤ k → drop k l.answers ≡ drop k l.initial.answers)
    × (validator_of l.engine ≡ validator_of l.initial.engine)
    × (schema_of l.engine ≡ schema_of l.initial.engine)
    × ChainOn g.D.Device g.V.Validator l.initial.engine (take l.i l.calls) (take l.i l.answers) l.engine
