-- The rule of a table of refusal numbers, by one test over the whole table.
use Rattle.std.specs.Prelude.{MatchOption}
use Rattle.std.proofs.Common.{rules, ◌≡◌, ℕ, Bool, true, false, cond, not, ◌&&◌, ◌||◌, eqb, List, [], ◌∷◌, map, Some, None, Option, sym, refl, ap, ◌∙◌, subst, ⊎_elim}
use Rattle.std.proofs.lemmas.Bool.{and_parts, or_cases, both_ways, not-true, cond_both, eqb-true, eqb-false}
use Rattle.fault.specs.declared.Layer.{Layer}
use Rattle.fault.specs.declared.Layer.TheVariants.{Session, Configuration, Store, Device}
use Rattle.fault.specs.declared.Numbered.{Numbered}
use Rattle.fault.specs.Numbers.{layer_number, numbers, has, Belongs, OneLayer, layer_at}
use Rattle.fault.specs.Rows.{looked_up}

-- ---- layers by their numbers
abbrev numbered : ℕ → Layer
numbered n = cond (eqb n 2) Session (cond (eqb n 3) Configuration (cond (eqb n 4) Store Device))

numbered_back : (l : Layer) → numbered (layer_number l) ≡ l
numbered_back Session = refl
numbered_back Configuration = refl
numbered_back Store = refl
numbered_back Device = refl

same_layer : (a b : Layer) → eqb (layer_number a) (layer_number b) ≡ true → a ≡ b
same_layer a b h = sym (numbered_back a) ∙ ap numbered (eqb-true _ _ h) ∙ numbered_back b

-- a test at each layer
abbrev each_layer : (Layer → Bool) → Bool
each_layer f = (f Session && f Configuration) && (f Store && f Device)

at_layer : (f : Layer → Bool) → each_layer f ≡ true → (l : Layer) → f l ≡ true
at_layer f h = go
  where
    front : (f Session ≡ true) × (f Configuration ≡ true)
    front = and_parts (f Session) (f Configuration) (and_parts (f Session && f Configuration) (f Store && f Device) h).0

    back : (f Store ≡ true) × (f Device ≡ true)
    back = and_parts (f Store) (f Device) (and_parts (f Session && f Configuration) (f Store && f Device) h).1

    go : (l : Layer) → f l ≡ true
    go Session = front.0
    go Configuration = front.1
    go Store = back.0
    go Device = back.1

-- ---- the test: the number of each row is its layer's and no other's, and each number of a layer has a row
abbrev only : Numbered → Layer → Bool
only row l = not (has row.0 (numbers l)) || eqb (layer_number l) (layer_number row.1)

abbrev of_its_layer : Numbered → Bool
of_its_layer row = has row.0 (numbers row.1) && each_layer (only row)

abbrev rows_right : List Numbered → Bool
rows_right [] = true
rows_right (row ∷ rows) = of_its_layer row && rows_right rows

abbrev all_in : List ℕ → List ℕ → Bool
all_in [] ys = true
all_in (x ∷ xs) ys = has x ys && all_in xs ys

abbrev none_missing : List Numbered → Layer → Bool
none_missing rows l = all_in (numbers l) (map (λ row. row.0) rows)

abbrev pub right : List Numbered → Bool
right rows = rows_right rows && each_layer (none_missing rows)

-- ---- what the test shows
of_layer : (row : Numbered) → of_its_layer row ≡ true → OneLayer row.0 (Some row.1)
of_layer row h =
    let parts = and_parts (has row.0 (numbers row.1)) (each_layer (only row)) h in (
      parts.0,
      λ m b. ⊎_elim
          (λ e. absurd (both_ways (has row.0 (numbers m)) (not-true _ e) b))
          (λ e. same_layer m row.1 e)
          (or_cases (not (has row.0 (numbers m))) _ (at_layer (only row) parts.1 m)),
    )

in_all : (xs ys : List ℕ) → all_in xs ys ≡ true → (n : ℕ) → has n xs ≡ true → has n ys ≡ true
in_all [] ys h n b = absurd (both_ways false refl b)
in_all (x ∷ xs) ys h n b =
    ⊎_elim
    (λ e. subst (λ k. has k ys ≡ true) (sym (eqb-true n x e)) (and_parts (has x ys) (all_in xs ys) h).0)
    (λ e. in_all xs ys (and_parts (has x ys) (all_in xs ys) h).1 n e)
    (or_cases (eqb n x) (has n xs) b)

-- the rows that are looked through are right, and no row before them has the number
looks : (rows : List Numbered) (n : ℕ) → rows_right rows ≡ true → ((m : Layer) → Belongs n m → has n (map (λ row. row.0) rows) ≡ true) → OneLayer n (looked_up rows n)
unfolding looked_up
looks [] n h in_rows = λ m b. both_ways false refl (in_rows m b)
looks (row ∷ rows) n h in_rows =
    cond_both (eqb row.0 n) _ _ (λ o. OneLayer n o)
    (λ e. subst (λ k. OneLayer k (Some row.1)) (eqb-true _ _ e) (of_layer row (and_parts (of_its_layer row) (rows_right rows) h).0))
    (λ ne. looks rows n (and_parts (of_its_layer row) (rows_right rows) h).1 (λ m b. ⊎_elim
    (λ e. absurd (eqb-false row.0 n ne (sym (eqb-true n row.0 e))))
    (λ e. e)
    (or_cases (eqb n row.0) _ (in_rows m b))))

pub layers : (rows : List Numbered) (n : ℕ) {r : Option Layer} → r ≡ looked_up rows n → right rows ≡ true → OneLayer n r
layers rows n e h =
    let parts = and_parts (rows_right rows) (each_layer (none_missing rows)) h in
    subst (λ o. OneLayer n o) (sym e) (looks rows n parts.0 (λ m b. in_all (numbers m) (map (λ row. row.0) rows) (at_layer (none_missing rows) parts.1 m) n b))

-- ---- the layer's number
pub at_one : (n : ℕ) (l : Layer) → OneLayer n (Some l) → layer_number l ≡ layer_at n
at_one n l one =
    cond_both (has n (numbers Session)) _ _ (λ k. layer_number l ≡ k) (λ h. sym (ap layer_number (one.1 Session h)))
    (λ s. cond_both (has n (numbers Configuration)) _ _ (λ k. layer_number l ≡ k) (λ h. sym (ap layer_number (one.1 Configuration h)))
    (λ c. cond_both (has n (numbers Store)) _ _ (λ k. layer_number l ≡ k) (λ h. sym (ap layer_number (one.1 Store h)))
    (λ t. cond_both (has n (numbers Device)) _ _ (λ k. layer_number l ≡ k) (λ h. sym (ap layer_number (one.1 Device h)))
    (λ d. absurd (nowhere l s c t d one.0)))))
  where
    nowhere : (m : Layer) → has n (numbers Session) ≡ false → has n (numbers Configuration) ≡ false → has n (numbers Store) ≡ false → has n (numbers Device) ≡ false → Belongs n m → ⊥
    nowhere Session s c t d b = both_ways (has n (numbers Session)) s b
    nowhere Configuration s c t d b = both_ways (has n (numbers Configuration)) c b
    nowhere Store s c t d b = both_ways (has n (numbers Store)) t b
    nowhere Device s c t d b = both_ways (has n (numbers Device)) d b

pub at_none : (n : ℕ) → OneLayer n None → 0 ≡ layer_at n
at_none n none =
    cond_both (has n (numbers Session)) _ _ (λ k. 0 ≡ k) (λ h. absurd (none Session h))
    (λ _. cond_both (has n (numbers Configuration)) _ _ (λ k. 0 ≡ k) (λ h. absurd (none Configuration h))
    (λ _. cond_both (has n (numbers Store)) _ _ (λ k. 0 ≡ k) (λ h. absurd (none Store h))
    (λ _. cond_both (has n (numbers Device)) _ _ (λ k. 0 ≡ k) (λ h. absurd (none Device h))
    (λ _. refl))))

-- what is 0 without a layer, and else the layer's number, is the number of a number's layer
pub layer_told : (n k : ℕ) (o : Option Layer) → OneLayer n o → MatchOption o (k ≡ 0) (λ l. k ≡ layer_number l) → k ≡ layer_at n
layer_told n k None none e = e ∙ at_none n none
layer_told n k (Some Session) one e = search (rules, one, e)
layer_told n k (Some Configuration) one e = search (rules, one, e)
layer_told n k (Some Store) one e = search (rules, one, e)
layer_told n k (Some Device) one e = search (rules, one, e)
