-- Counted lists, record by record.
use Rattle.std.proofs.Common.{◌≡◌, ℕ, ◌+◌, ◌-◌, ◌*◌, ◌/◌, ◌<◌, ◌≤◌, Bool, true, false, zero, suc, MatchBool, ◌≢◌, List, [], ◌∷◌, ◌++◌, length, get_or, take, drop, set, sym, refl, ap, ◌∙◌, not-suc-le-zero, arith, take-add}
use borrow.Rule.Slice.PartMut.{put_mid}
use Rattle.std.specs.List.{AllWithin, HoldsAt, flat_map}
use Rattle.std.proofs.lemmas.Iterator.Search.{true_from_All}
use Rattle.std.proofs.lemmas.Bool.{false≢true}
use Rattle.std.specs.Simd.{first_chunks}
use Rattle.std.proofs.lemmas.List.{append_assoc, take-append-drop, take_at, drop_at, drop_more, drop-drop, drop-set-lt, take_more, take_more_set, take_all, flat_map_more, length-take-le, length-append, length-drop}
use Rattle.std.proofs.lemmas.Slice.{take-put_mid, drop-put_mid}
use Rattle.encoding.specs.declared.form.Form.{Form}
use Rattle.encoding.specs.Counts.{FormsKnown, slot_bytes, record_bytes, counted}
use Rattle.encoding.proofs.Words.{form_same}

-- ---- a list's bytes in parts of 16
part : (k i : ℕ) (bytes d : List ℕ) → i < k → get_or (first_chunks 16 k bytes) i d ≡ take 16 (drop (16 * i) bytes)
part zero i bytes d lt = absurd (not-suc-le-zero lt)
part (suc k) zero bytes d lt = refl
part (suc k) (suc i) bytes d lt =
    part k i (drop 16 bytes) d (omega arith) ∙ ap (take 16) (drop-drop (16 * i) 16 bytes ∙ ap (λ n. drop n bytes) (omega arith))

pub parts_slots : (bytes : List ℕ) (forms : List (List ℕ)) (count : ℕ) → length bytes ≡ 1 + 16 * count → (let rest = take (length bytes - 1) (drop 1 bytes) in forms ≡ first_chunks 16 (length rest / 16) rest) → (i : ℕ) (d : List ℕ) → i < count → get_or forms i d ≡ slot_bytes bytes i
parts_slots bytes forms count size is i d lt =
    let rest : take (length bytes - 1) (drop 1 bytes) ≡ drop 1 bytes = take_all (length bytes - 1) (drop 1 bytes) (omega (arith, length-drop 1 bytes)) in
    let many : length (drop 1 bytes) / 16 ≡ count = omega (arith, length-drop 1 bytes) in
    ap (λ l. get_or l i d) (is ∙ ap (λ l. first_chunks 16 (length l / 16) l) rest ∙ ap (λ k. first_chunks 16 k (drop 1 bytes)) many)
    ∙ part count i (drop 1 bytes) d lt
    ∙ ap (take 16) (drop-drop (16 * i) 1 bytes ∙ ap (λ n. drop n bytes) (omega arith))

module _ {X : Type 0} (form : X → Form) where
  pub length_joined : (xs : List X) → length (flat_map (record_bytes form) xs) ≡ 16 * length xs
  length_joined [] = refl
  length_joined (x ∷ xs) = length-append (record_bytes form x) (flat_map (record_bytes form) xs) ∙ omega (arith, length_joined xs)

  pub length_counted : (xs : List X) → length (counted form xs) ≡ 1 + 16 * length xs
  unfolding counted
  length_counted xs = omega (arith, length_joined xs)

  pub counted_first : (bytes : List ℕ) (xs : List X) → bytes ≡ counted form xs → get_or bytes 0 0 ≡ length xs
  unfolding counted
  counted_first bytes xs is = ap (λ l. get_or l 0 0) is

  -- ---- writing
  -- the counted list of the first records is written, and what lies past it is as it was
  abbrev pub Written : ℕ → List X → ℕ → List ℕ → List ℕ → Type 0
  Written count xs i start out =
      (take (1 + 16 * i) out ≡ count ∷ flat_map (record_bytes form) (take i xs)) × (drop (1 + 16 * i) out ≡ drop (1 + 16 * i) start)

  pub written_more : (count : ℕ) (xs : List X) (i : ℕ) (d : X) (start out bytes : List ℕ) → i < length xs → 1 + 16 * i + 16 ≤ length out → bytes ≡ record_bytes form (get_or xs i d) → Written count xs i start out → Written count xs (i + 1) start (put_mid (1 + 16 * i) (1 + 16 * i + 16 - (1 + 16 * i)) out bytes)
  written_more count xs i d start out bytes inside room e w =
      let at = 1 + 16 * i in
      let k = 1 + 16 * i + 16 - (1 + 16 * i) in
      let size : length bytes ≡ 16 = ap length e in
      let next : 1 + 16 * (i + 1) ≡ at + length bytes = omega arith in
      let front : take (1 + 16 * (i + 1)) (put_mid at k out bytes) ≡ take at out ++ bytes = take-put_mid at k out bytes (1 + 16 * (i + 1)) next (omega arith) in
      let grown : (count ∷ flat_map (record_bytes form) (take i xs)) ++ record_bytes form (get_or xs i d) ≡ count ∷ flat_map (record_bytes form) (take (i + 1) xs) =
      flat_map_more (record_bytes form) (count ∷ []) (take i xs) (get_or xs i d) ∙ ap (λ l. count ∷ flat_map (record_bytes form) l) (sym (take_more xs i d inside)) in
      let back : drop (1 + 16 * (i + 1)) (put_mid at k out bytes) ≡ drop (1 + 16 * (i + 1)) out = drop-put_mid at k out bytes (1 + 16 * (i + 1)) (omega arith) (omega arith) (omega arith) in
      let further : (l : List ℕ) → drop (1 + 16 * (i + 1)) l ≡ drop 16 (drop at l) = λ l. sym (drop-drop 16 at l ∙ ap (λ n. drop n l) (omega arith)) in (
        front ∙ ap (λ l. l ++ bytes) w.0 ∙ ap (λ b. (count ∷ flat_map (record_bytes form) (take i xs)) ++ b) e ∙ grown,
        back ∙ further out ∙ ap (drop 16) w.1 ∙ sym (further start),
      )

  pub written_all : (count : ℕ) (xs : List X) (start out : List ℕ) → length xs ≡ count → Written count xs count start out → out ≡ counted form xs ++ drop (1 + 16 * count) start
  unfolding counted
  written_all count xs start out size w =
      sym (take-append-drop (1 + 16 * count) out)
      ∙ ap (λ l. l ++ drop (1 + 16 * count) out) (w.0 ∙ ap (λ l. count ∷ flat_map (record_bytes form) l) (take_all count xs (omega arith)))
      ∙ ap (λ l. (count ∷ flat_map (record_bytes form) xs) ++ l) w.1
      ∙ ap (λ n. (n ∷ flat_map (record_bytes form) xs) ++ drop (1 + 16 * count) start) (sym size)

  -- ---- the first records of a counted list, and the one after them
  joined_append : (xs ys : List X) → flat_map (record_bytes form) (xs ++ ys) ≡ flat_map (record_bytes form) xs ++ flat_map (record_bytes form) ys
  joined_append [] ys = refl
  joined_append (x ∷ xs) ys =
      ap (λ l. record_bytes form x ++ l) (joined_append xs ys) ∙ sym (append_assoc (record_bytes form x) (flat_map (record_bytes form) xs) (flat_map (record_bytes form) ys))

  pub counted_slot : (xs : List X) (i : ℕ) (d : X) → i < length xs → slot_bytes (counted form xs) i ≡ record_bytes form (get_or xs i d)
  unfolding counted
  counted_slot xs i d within =
      let front = length xs ∷ flat_map (record_bytes form) (take i xs) in
      let split : counted form xs ≡ front ++ flat_map (record_bytes form) (drop i xs) =
      ap (λ l. length xs ∷ l) (ap (flat_map (record_bytes form)) (sym (take-append-drop i xs)) ∙ joined_append (take i xs) (drop i xs)) in
      let size : length front ≡ 1 + 16 * i = omega (arith, length_joined (take i xs), length-take-le i xs (omega arith)) in
      ap (take 16) (ap (drop (1 + 16 * i)) split ∙ drop_at front (flat_map (record_bytes form) (drop i xs)) (1 + 16 * i) size ∙ ap (flat_map (record_bytes form)) (drop_more xs i d within))
      ∙ take_at (record_bytes form (get_or xs i d)) (flat_map (record_bytes form) (drop (i + 1) xs)) 16 refl

  -- whatever the records are, each slot is some record's
  pub slot_known : (xs : List X) (i : ℕ) → i < length xs → (x : X) × (slot_bytes (counted form xs) i ≡ record_bytes form x)
  slot_known [] i lt = absurd (not-suc-le-zero lt)
  slot_known (x ∷ xs) i lt = (get_or (x ∷ xs) i x, counted_slot (x ∷ xs) i x lt)

  -- ---- the forms of a list's bytes
  abbrev pub IsRecord : List ℕ → Type 0
  IsRecord bytes = (x : X) × (bytes ≡ record_bytes form x)

  abbrev pub IsNoRecord : List ℕ → Type 0
  IsNoRecord bytes = (x : X) → bytes ≢ record_bytes form x

  pub forms_known : (forms : List (List ℕ)) (r : Bool) → MatchBool r (AllWithin IsRecord forms 0 (length forms)) ((k : ℕ) × (k < length forms) × HoldsAt IsNoRecord forms k) → FormsKnown form forms r
  forms_known forms true known = (λ _ k d lt. known k d (omega arith) lt, λ _. refl)
  forms_known forms false known = (λ e. absurd (false≢true e), true_from_All IsRecord IsNoRecord false forms (λ bytes is not. not is.0 is.1) known)

  -- ---- reading
  -- the bytes so far are those of the records so far, and the slots past them are as they were
  abbrev pub Filled : List ℕ → ℕ → ℕ → List X → List X → Type 0
  Filled bytes count i start slots =
      (take (1 + 16 * i) bytes ≡ count ∷ flat_map (record_bytes form) (take i slots)) × (drop i slots ≡ drop i start)

  pub filled_more : (bytes : List ℕ) (count i : ℕ) (start slots : List X) (x : X) → i < length slots → slot_bytes bytes i ≡ record_bytes form x → Filled bytes count i start slots → Filled bytes count (i + 1) start (set slots i x)
  filled_more bytes count i start slots x room slot f =
      let next : 1 + 16 * (i + 1) ≡ 1 + 16 * i + 16 = omega arith in
      let further : (l : List X) → drop (i + 1) l ≡ drop 1 (drop i l) = λ l. sym (drop-drop 1 i l) in (
        ap (λ n. take n bytes) next
            ∙ take-add (1 + 16 * i) 16 bytes
            ∙ ap (λ l. l ++ slot_bytes bytes i) f.0
            ∙ ap (λ l. (count ∷ flat_map (record_bytes form) (take i slots)) ++ l) slot
            ∙ flat_map_more (record_bytes form) (count ∷ []) (take i slots) x
            ∙ ap (λ l. count ∷ flat_map (record_bytes form) l) (sym (take_more_set slots i x room)),
        drop-set-lt (i + 1) slots i x (omega arith) ∙ further slots ∙ ap (drop 1) f.1 ∙ sym (further start),
      )

  pub filled_all : (bytes : List ℕ) (count : ℕ) (start slots : List X) → length bytes ≡ 1 + 16 * count → count ≤ length slots → Filled bytes count count start slots → bytes ≡ counted form (take count slots)
  unfolding counted
  filled_all bytes count start slots size room f =
      sym (take_all (1 + 16 * count) bytes (omega arith)) ∙ f.0 ∙ ap (λ n. n ∷ flat_map (record_bytes form) (take count slots)) (sym (length-take-le count slots room))

  -- ---- records are known by their bytes
  module _ (known : (x y : X) → form x ≡ form y → x ≡ y) where
    joined_same : (xs ys : List X) → flat_map (record_bytes form) xs ≡ flat_map (record_bytes form) ys → xs ≡ ys
    joined_same [] [] h = refl
    joined_same [] (y ∷ ys) h = let z : ◌≡◌ {A = ℕ} 0 1 = cc in let never : ⊥ = omega arith in absurd never
    joined_same (x ∷ xs) [] h = let z : ◌≡◌ {A = ℕ} 0 1 = cc in let never : ⊥ = omega arith in absurd never
    joined_same (x ∷ xs) (y ∷ ys) h =
        let first : record_bytes form x ≡ record_bytes form y = sym (take_at (record_bytes form x) (flat_map (record_bytes form) xs) 16 refl) ∙ ap (take 16) h ∙ take_at (record_bytes form y) (flat_map (record_bytes form) ys) 16 refl in
        let rest : flat_map (record_bytes form) xs ≡ flat_map (record_bytes form) ys = sym (drop_at (record_bytes form x) (flat_map (record_bytes form) xs) 16 refl) ∙ ap (drop 16) h ∙ drop_at (record_bytes form y) (flat_map (record_bytes form) ys) 16 refl in
        let head : x ≡ y = known x y (form_same (form x) (form y) first) in
        let tail : xs ≡ ys = joined_same xs ys rest in
        cc

    pub counted_same : (xs ys : List X) → counted form xs ≡ counted form ys → xs ≡ ys
    unfolding counted
    counted_same xs ys h = joined_same xs ys (ap (drop 1) h)
