-- Refusals one after the other, and configurations that are the same.
use Rattle.std.proofs.Common.{◌≡◌, ℕ, ◌+◌, ◌<◌, Bool, true, false, cond, not, eqb, [], ◌∷◌, length, get_or, drop, Some, None, Decides, Option, sym, refl, ap, ◌∙◌, subst, arith, length-drop, eq-eqb}
use Rattle.std.proofs.lemmas.List.{drop_more}
use Rattle.std.proofs.lemmas.Bool.{and_parts, and_from, eqb-true}
use Rattle.std.proofs.lemmas.Slice.Eq.{bytes_eq-Decides}
use Rattle.std.specs.Str.{bytes_eq}
use Rattle.schema.specs.declared.path.Path.{Path}
use Rattle.config.specs.Order.{numbers}
use Rattle.config.specs.declared.entry.Entry.{Entry}
use Rattle.calls.specs.declared.call.Answer.TheVariants.{Done, Refused}
use Rattle.calls.specs.declared.faults.EngineFault.{EngineFault}
use Rattle.calls.specs.declared.faults.EngineFault.TheVariants.{Plain}
use Rattle.calls.specs.declared.faults.Refusal.{Refusal}
use Rattle.model.specs.Model.{Model, same_entry, same_entries}
use Rattle.model.specs.Refusals.{Rows, first}
use Rattle.model.specs.Steps.{Judged}
use Rattle.model.specs.Laws.{SameDecides}

-- ---- rows
pub hit : (b : Bool) (f : Refusal) (rest : Rows) → b ≡ true → first ((b, f) ∷ rest) ≡ Some (Plain f)
hit b f rest e = ap (λ (x : Bool). cond x (Some (Plain f)) (first rest)) e

pub miss : (b : Bool) (f : Refusal) (rest : Rows) {o : Option EngineFault} → b ≡ false → first rest ≡ o → first ((b, f) ∷ rest) ≡ o
miss b f rest e h = ap (λ (x : Bool). cond x (Some (Plain f)) (first rest)) e ∙ h

-- what is left of some rows, by the first
pub rows_left : (rows : Rows) (i : ℕ) (d : Bool × Refusal) → i < length rows → first (drop i rows) ≡ cond (get_or rows i d).0 (Some (Plain (get_or rows i d).1)) (first (drop (i + 1) rows))
rows_left rows i d h = ap first (drop_more rows i d h)

pub rows_none : (rows : Rows) (i : ℕ) → i ≡ length rows → first (drop i rows) ≡ None
rows_none rows i e = go (drop i rows) (omega (arith, length-drop i rows))
  where
    go : (l : Rows) → length l ≡ 0 → first l ≡ None
    go [] z = refl
    go (x ∷ xs) z = absurd (omega arith)

-- ---- a call by its rows
pub refused_by : (o : Option EngineFault) (f : EngineFault) (m done : Model) → o ≡ Some f → Judged o m done (Refused f) m
refused_by o f m done e = subst (λ (x : Option EngineFault). Judged x m done (Refused f) m) (sym e) (refl, refl)

pub done_by : (o : Option EngineFault) (m done m' : Model) → o ≡ None → m' ≡ done → Judged o m done Done m'
done_by o m done m' e s = subst (λ (x : Option EngineFault). Judged x m done Done m') (sym e) (refl, s)

-- ---- the same entries
entry_made : Path → ℕ → Entry
entry_made p v = record { path = p; value = v }

path_made : ℕ → ℕ → ℕ → Path
path_made n a b = record { node = n; k1 = a; k2 = b }

same_numbers : (p q : Path) → numbers p ≡ numbers q → p ≡ q
unfolding path_made
same_numbers p q e =
    let n : p.node ≡ q.node = cc in
    let a : p.k1 ≡ q.k1 = cc in
    let b : p.k2 ≡ q.k2 = cc in
    let s : path_made p.node p.k1 p.k2 ≡ path_made q.node q.k1 q.k2 = cc in
    s

same_one : (e f : Entry) → Decides (same_entry e f) (e ≡ f)
unfolding entry_made
same_one e f = (
  λ t.
      let p = and_parts (bytes_eq (numbers e.path) (numbers f.path)) (eqb e.value f.value) t in
      let path : e.path ≡ f.path = same_numbers e.path f.path ((bytes_eq-Decides (numbers e.path) (numbers f.path)).0 p.0) in
      let value : e.value ≡ f.value = eqb-true e.value f.value p.1 in
      let s : entry_made e.path e.value ≡ entry_made f.path f.value = cc in
      s,
  λ s. and_from (bytes_eq (numbers e.path) (numbers f.path)) (eqb e.value f.value)
      ((bytes_eq-Decides (numbers e.path) (numbers f.path)).1 (ap (λ (x : Entry). numbers x.path) s))
      (eq-eqb e.value f.value (ap (λ (x : Entry). x.value) s)),
)

pub same_decides : SameDecides
same_decides [] [] = (λ t. refl, λ s. refl)
same_decides [] (f ∷ fs) = (λ t. absurd (let z : ◌≡◌ {A = ℕ} 0 1 = cc in omega arith), λ s. absurd (let z : ◌≡◌ {A = ℕ} 0 1 = cc in omega arith))
same_decides (e ∷ es) [] = (λ t. absurd (let z : ◌≡◌ {A = ℕ} 0 1 = cc in omega arith), λ s. absurd (let z : ◌≡◌ {A = ℕ} 0 1 = cc in omega arith))
same_decides (e ∷ es) (f ∷ fs) =
    let rest = same_decides es fs in (
      λ t.
          let p = and_parts (same_entry e f) (same_entries es fs) t in
          let a : e ≡ f = (same_one e f).0 p.0 in
          let b : es ≡ fs = rest.0 p.1 in
          cc,
      λ s.
          let a : e ≡ f = cc in
          let b : es ≡ fs = cc in
          and_from (same_entry e f) (same_entries es fs) ((same_one e f).1 a) (rest.1 b),
    )

-- rows with the same conditions
pub row : (b b' : Bool) (f : Refusal) (rest rest' : Rows) → b ≡ b' → first rest ≡ first rest' → first ((b, f) ∷ rest) ≡ first ((b', f) ∷ rest')
row b b' f rest rest' e h =
    ap (λ (x : Bool). cond x (Some (Plain f)) (first rest)) e ∙ ap (λ (o : Option EngineFault). cond b' (Some (Plain f)) o) h

-- nothing is refused: no condition holds
pub none_parts : (b : Bool) (f : Refusal) (rest : Rows) → first ((b, f) ∷ rest) ≡ None → (b ≡ false) × (first rest ≡ None)
none_parts true f rest e = absurd (let z : ◌≡◌ {A = ℕ} 0 1 = cc in omega arith)
none_parts false f rest e = (refl, e)

pub not_false : (b : Bool) → not b ≡ false → b ≡ true
not_false true e = refl
not_false false e = absurd (let z : ◌≡◌ {A = ℕ} 0 1 = cc in omega arith)
