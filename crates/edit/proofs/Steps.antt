-- The error options, item by item.
use Rattle.std.proofs.Common.{◌≡◌, ℕ, ◌+◌, cond, List, [], ◌∷◌, ◌++◌, length, is_some, Some, None, Ok, Err, Result, sym, refl, ap, ◌∙◌, subst, arith}
use Rattle.edit.specs.declared.option.ErrorOption.{ErrorOption}
use Rattle.edit.specs.declared.option.ErrorOption.TheVariants.{Stop, Continue, Rollback}
use Rattle.edit.specs.Options.{AllDone, NoneRefused, OneRefused, first_refused, left, more, none, performed, refused_after, through, until}

module _ {C I F : Type 0} (does : C → I → Result C F) where
  module _ (c : C) (i : I) (is : List I) where
    pub until_ok : (d : C) → does c i ≡ Ok d → until does c (i ∷ is) ≡ until does d is
    until_ok d e = ap (λ (r : Result C F). elim r [ Ok x ↦ until does x is | Err y ↦ c ]) e

    pub until_err : (f : F) → does c i ≡ Err f → until does c (i ∷ is) ≡ c
    until_err f e = ap (λ (r : Result C F). elim r [ Ok x ↦ until does x is | Err y ↦ c ]) e

    pub refused_ok : (n : ℕ) (d : C) → does c i ≡ Ok d → refused_after does n c (i ∷ is) ≡ refused_after does (n + 1) d is
    refused_ok n d e = ap (λ (r : Result C F). elim r [ Ok x ↦ refused_after does (n + 1) x is | Err y ↦ Some (n + 1, y) ]) e

    pub refused_err : (n : ℕ) (f : F) → does c i ≡ Err f → refused_after does n c (i ∷ is) ≡ Some (n + 1, f)
    refused_err n f e = ap (λ (r : Result C F). elim r [ Ok x ↦ refused_after does (n + 1) x is | Err y ↦ Some (n + 1, y) ]) e

    pub through_ok : (d : C) → does c i ≡ Ok d → through does c (i ∷ is) ≡ through does d is
    through_ok d e = ap (λ (r : Result C F). elim r [ Ok x ↦ through does x is | Err y ↦ through does c is ]) e

    pub through_err : (f : F) → does c i ≡ Err f → through does c (i ∷ is) ≡ through does c is
    through_err f e = ap (λ (r : Result C F). elim r [ Ok x ↦ through does x is | Err y ↦ through does c is ]) e

    pub performed_ok : (d : C) → does c i ≡ Ok d → performed does c (i ∷ is) ≡ performed does d is + 1
    performed_ok d e = ap (λ (r : Result C F). elim r [ Ok x ↦ performed does x is + 1 | Err y ↦ performed does c is ]) e

    pub performed_err : (f : F) → does c i ≡ Err f → performed does c (i ∷ is) ≡ performed does c is
    performed_err f e = ap (λ (r : Result C F). elim r [ Ok x ↦ performed does x is + 1 | Err y ↦ performed does c is ]) e

  -- ---- nothing refused
  until_all : (c : C) (is : List I) (d : C) → AllDone does c is d → until does c is ≡ d
  until_all c [] d none = refl
  until_all c (i ∷ is) d (more {d = x} e rest) = until_ok c i is x e ∙ until_all x is d rest

  through_all : (c : C) (is : List I) (d : C) → AllDone does c is d → through does c is ≡ d
  through_all c [] d none = refl
  through_all c (i ∷ is) d (more {d = x} e rest) = through_ok c i is x e ∙ through_all x is d rest

  refused_none : (n : ℕ) (c : C) (is : List I) (d : C) → AllDone does c is d → refused_after does n c is ≡ None
  refused_none n c [] d none = refl
  refused_none n c (i ∷ is) d (more {d = x} e rest) = refused_ok c i is n x e ∙ refused_none (n + 1) x is d rest

  pub none_refused : (c : C) (is : List I) (d : C) → AllDone does c is d → NoneRefused does c is d
  none_refused c is d all = record { lefts = lefts; refused = refused_none 0 c is d all }
    where
      lefts : (o : ErrorOption) → left does o c is ≡ d
      lefts Stop = until_all c is d all
      lefts Continue = through_all c is d all
      lefts Rollback = ap (λ r. cond (is_some r) c (until does c is)) (refused_none 0 c is d all) ∙ until_all c is d all

  -- ---- one refused
  module _ (i : I) (f : F) (rest : List I) where
    until_one : (c : C) (before : List I) (d : C) → AllDone does c before d → does d i ≡ Err f → until does c (before ++ i ∷ rest) ≡ d
    until_one c [] d none e = until_err c i rest f e
    until_one c (j ∷ js) d (more {d = x} h later) e = until_ok c j (js ++ i ∷ rest) x h ∙ until_one x js d later e

    through_one : (c : C) (before : List I) (d : C) → AllDone does c before d → does d i ≡ Err f → through does c (before ++ i ∷ rest) ≡ through does d rest
    through_one c [] d none e = through_err c i rest f e
    through_one c (j ∷ js) d (more {d = x} h later) e = through_ok c j (js ++ i ∷ rest) x h ∙ through_one x js d later e

    performed_one : (c : C) (before : List I) (d : C) → AllDone does c before d → does d i ≡ Err f → performed does c (before ++ i ∷ rest) ≡ length before + performed does d rest
    performed_one c [] d none e = performed_err c i rest f e ∙ omega arith
    performed_one c (j ∷ js) d (more {d = x} h later) e =
        performed_ok c j (js ++ i ∷ rest) x h ∙ omega (arith, performed_one x js d later e)

    refused_one : (n : ℕ) (c : C) (before : List I) (d : C) → AllDone does c before d → does d i ≡ Err f → refused_after does n c (before ++ i ∷ rest) ≡ Some (n + length before + 1, f)
    refused_one n c [] d none e = refused_err c i rest n f e ∙ ap (λ k. Some (k, f)) (omega arith)
    refused_one n c (j ∷ js) d (more {d = x} h later) e =
        refused_ok c j (js ++ i ∷ rest) n x h ∙ refused_one (n + 1) x js d later e ∙ ap (λ k. Some (k, f)) (omega arith)

    pub one_refused : (c : C) (before : List I) (d : C) → AllDone does c before d → does d i ≡ Err f → OneRefused does c before d i f rest
    one_refused c before d all e =
        let first : first_refused does c (before ++ i ∷ rest) ≡ Some (length before + 1, f) = refused_one 0 c before d all e ∙ ap (λ k. Some (k, f)) (omega arith) in
        record {
          refused = first;
          stop = until_one c before d all e;
          stop_keeps = omega arith;
          rollback = ap (λ r. cond (is_some r) c (until does c (before ++ i ∷ rest))) first;
          continue = through_one c before d all e;
          continue_keeps = performed_one c before d all e;
        }

  -- ---- where none is refused, each is performed
  pub all_done : (n : ℕ) (c : C) (is : List I) → refused_after does n c is ≡ None → AllDone does c is (until does c is)
  all_done n c [] e = none
  all_done n c (i ∷ is) e = go (does c i) refl (λ d h. all_done (n + 1) d is h)
    where
      go : (r : Result C F) → does c i ≡ r → ((d : C) → refused_after does (n + 1) d is ≡ None → AllDone does d is (until does d is)) → AllDone does c (i ∷ is) (until does c (i ∷ is))
      go (Ok d) h ih = subst (λ x. AllDone does c (i ∷ is) x) (sym (until_ok c i is d h)) (more h (ih d (sym (refused_ok c i is n d h) ∙ e)))
      go (Err f) h ih = let z : ◌≡◌ {A = ℕ} 0 1 = cc (sym (refused_err c i is n f h) ∙ e) in let never : ⊥ = omega arith in absurd never
