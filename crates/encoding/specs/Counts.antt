-- Counted lists: a count byte, then the form of each record. `form` gives a record's form.
use Rattle.std.specs.Prelude.{◌≡◌, ℕ, ◌+◌, ◌*◌, ◌<◌, ◌≤◌, Bool, List, ◌∷◌, ◌++◌, length, take, drop, Some, None, Ok, Err, Decides, Option, Result, ◌≢◌, slice_index, All}
use Rattle.std.specs.List.{flat_map}
use Rattle.encoding.specs.declared.form.Form.{Form}
use Rattle.encoding.specs.Forms.{form_bytes}

-- the i-th form after the count byte
abbrev pub slot_bytes : List ℕ → ℕ → List ℕ
slot_bytes bytes i = take 16 (drop (1 + 16 * i) bytes)

-- bytes have a count of at most `most` and the length that it asks for, or they do not
abbrev pub CountRead : List ℕ → ℕ → Option ℕ → Type 0
CountRead bytes most (Some n) = (n ≤ most) × (length bytes ≡ 1 + 16 * n) × (slice_index bytes 0 ≡ n)
CountRead bytes most None = (n : ℕ) → n ≤ most → length bytes ≡ 1 + 16 * n → slice_index bytes 0 ≢ n

module _ {X : Type 0} (form : X → Form) where
  -- the form of a record as bytes
  abbrev pub record_bytes : X → List ℕ
  record_bytes x = form_bytes (form x)

  -- the counted list of records
  unfoldable pub counted : List X → List ℕ
  counted xs = length xs ∷ flat_map record_bytes xs

  -- a form is this record's, or no record's
  abbrev pub OfForm : Form → Option X → Type 0
  OfForm f (Some x) = form x ≡ f
  OfForm f None = (x : X) → form x ≢ f

  -- The counted list is written to the front of the output, and the bytes past it stay. It is refused if it has no room, or if
  -- the count has no byte.
  abbrev pub Encoded : {F : Type 0} → List X → List ℕ → List ℕ → Result ℕ F → Type 0
  Encoded xs before after (Ok n) =
      (length xs < 256) × (n ≡ length (counted xs)) × (n ≤ length before) × (after ≡ counted xs ++ drop n before)
  Encoded xs before after (Err f) = (length xs < 256 → length before < length (counted xs)) × (after ≡ before)

  -- the bytes are this record's, or no record's
  abbrev pub RecordRead : List ℕ → Option X → Type 0
  RecordRead bytes (Some x) = bytes ≡ record_bytes x
  RecordRead bytes None = (x : X) → bytes ≢ record_bytes x

  -- each form's bytes are some record's
  abbrev pub FormsKnown : List (List ℕ) → Bool → Type 0
  FormsKnown forms r = Decides r (All (λ bytes. (x : X) × (bytes ≡ record_bytes x)) forms)

  -- Bytes are accepted if they are the counted list of as many records as there are slots at most. These are then in the front
  -- of the slots, and the slots past them stay. Else all slots stay.
  abbrev pub Decoded : List ℕ → List X → List X → Option ℕ → Type 0
  Decoded bytes before after (Some n) =
      (n ≤ length before) × (bytes ≡ counted (take n after)) × (drop n after ≡ drop n before)
  Decoded bytes before after None = ((xs : List X) → length xs ≤ length before → bytes ≢ counted xs) × (after ≡ before)
