-- Enums whose cases stand for numbers.
use Rattle.std.specs.Prelude.{◌≡◌, ℕ, Some, None, Ok, Err, Option, Result, ◌≢◌}

-- a number stands for the case that has it, or for none
abbrev pub StandsFor : {C : Type 0} → (C → ℕ) → ℕ → Option C → Type 0
StandsFor number n (Some c) = number c ≡ n
StandsFor {C} number n None = (c : C) → number c ≢ n

-- the same of a conversion: the number stands for the case that it gives, or for none, and then the error tells the number
abbrev pub Named : {C E : Type 0} → (C → ℕ) → (E → ℕ) → ℕ → Result C E → Type 0
Named number told n (Ok c) = StandsFor number n (Some c)
Named number told n (Err e) = StandsFor number n None × (told e ≡ n)
