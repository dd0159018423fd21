-- The error options, over what one item does, whatever that is: `does c i` is the configuration after item i, or its fault.
use Rattle.std.specs.Prelude.{◌≡◌, ℕ, ◌+◌, ◌-◌, cond, List, [], ◌∷◌, ◌++◌, length, is_some, Some, None, Ok, Err, Option, Result}
use Rattle.edit.specs.declared.option.ErrorOption.{ErrorOption}
use Rattle.edit.specs.declared.option.ErrorOption.TheVariants.{Stop, Continue, Rollback}

-- the number of an error option
abbrev pub option_number : ErrorOption → ℕ
option_number Stop = 1
option_number Continue = 2
option_number Rollback = 3

module _ {C I F : Type 0} (does : C → I → Result C F) where
  -- the items are performed one after another, up to the first that is refused
  abbrev pub until : C → List I → C
  until c [] = c
  until c (i ∷ is) = elim (does c i) [ Ok d ↦ until d is | Err f ↦ c ]

  -- the first refused item: its position after n others, and its fault
  abbrev pub refused_after : ℕ → C → List I → Option (ℕ × F)
  refused_after n c [] = None
  refused_after n c (i ∷ is) = elim (does c i) [ Ok d ↦ refused_after (n + 1) d is | Err f ↦ Some (n + 1, f) ]

  abbrev pub first_refused : C → List I → Option (ℕ × F)
  first_refused c is = refused_after 0 c is

  -- each item that can be is performed, and a refused one is passed over
  abbrev pub through : C → List I → C
  through c [] = c
  through c (i ∷ is) = elim (does c i) [ Ok d ↦ through d is | Err f ↦ through c is ]

  -- how many are performed so
  abbrev pub performed : C → List I → ℕ
  performed c [] = 0
  performed c (i ∷ is) = elim (does c i) [ Ok d ↦ performed d is + 1 | Err f ↦ performed c is ]

  -- Stop keeps the items before the first refused one, continue performs each that can be, rollback keeps none if any is
  -- refused.
  abbrev pub left : ErrorOption → C → List I → C
  left Stop c is = until c is
  left Continue c is = through c is
  left Rollback c is = cond (is_some (first_refused c is)) c (until c is)

  -- how many items are kept if the first refused one has this position
  abbrev pub kept : ErrorOption → C → List I → ℕ → ℕ
  kept Stop c is at = at - 1
  kept Continue c is at = performed c is
  kept Rollback c is at = 0

  -- ---- the same in the options' words
  -- each of the items is performed
  pub data AllDone : C → List I → C → Type 0 where
    none : {c : C} → AllDone c [] c
    more : {c d e : C} {i : I} {is : List I} → does c i ≡ Ok d → AllDone d is e → AllDone c (i ∷ is) e

  -- If each item is performed, every option leaves the configuration after them, and nothing is refused.
  pub record NoneRefused (c : C) (is : List I) (d : C) : Type 0 where
    pub lefts : (o : ErrorOption) → left o c is ≡ d
    pub refused : first_refused c is ≡ None

  -- If the items before one are performed and that one is refused, it is the first refused one; stop leaves the configuration
  -- before it and keeps those before it; rollback leaves the first configuration and keeps none; continue goes on with the
  -- items after it.
  pub record OneRefused (c : C) (before : List I) (d : C) (i : I) (f : F) (rest : List I) : Type 0 where
    pub refused : first_refused c (before ++ i ∷ rest) ≡ Some (length before + 1, f)
    pub stop : left Stop c (before ++ i ∷ rest) ≡ d
    pub stop_keeps : kept Stop c (before ++ i ∷ rest) (length before + 1) ≡ length before
    pub rollback : left Rollback c (before ++ i ∷ rest) ≡ c
    pub continue : left Continue c (before ++ i ∷ rest) ≡ left Continue d rest
    pub continue_keeps : performed c (before ++ i ∷ rest) ≡ length before + performed d rest
