-- A list in fixed memory, as the list of its items.
use Rattle.std.specs.Prelude.{◌≡◌, ℕ, ◌<◌, Bool, List, [], ◌∷◌, ◌++◌, length, take, None, Ok, Err, Option, Result}
use Rattle.table.specs.declared.slots.Slots.{Slots}
use Rattle.table.specs.Table.{Rising, lookup, with_row, without, LookupPut, LookupTake}

-- the items in use
abbrev pub items : {T : Type 0} {N : ℕ} → Slots T N → List T
items s = take s.count s.slots

-- An item is added after the others while there is room, and else nothing changes.
abbrev pub Pushed : {T E : Type 0} {N : ℕ} → Slots T N → T → Slots T N → Result Unit E → Type 0
Pushed {N = N} before item after (Ok done) = (length (items before) < N) × (items after ≡ items before ++ (item ∷ []))
Pushed {N = N} before item after (Err full) = (length (items before) ≡ N) × (after ≡ before)

module _ {R K : Type 0} (key : R → K) (less : K → K → Bool) where
  -- A row was put in: it is found at its key, and at any other key what was found before.
  pub record RowPut (before : List R) (row : R) (after : List R) : Type 0 where
    pub rows_are : after ≡ with_row key less before row
    pub rising : Rising key less after
    pub lookup_put : LookupPut key less before row after

  -- In rising rows a row is put in if then there are at most N, and else nothing changes.
  abbrev pub PutAnswer : {E : Type 0} {N : ℕ} → Slots R N → R → Slots R N → Result Unit E → Type 0
  PutAnswer before row after (Ok done) = Rising key less (items before) → RowPut (items before) row (items after)
  PutAnswer {N = N} before row after (Err full) = (after ≡ before) × (Rising key less (items before) → N < length (with_row key less (items before) row))

  -- The row of a key was taken out: nothing is found there, and at any other key what was found before.
  pub record RowTaken (before : List R) (sought : K) (after : List R) : Type 0 where
    pub rows_are : after ≡ without key less before sought
    pub rising : Rising key less after
    pub lookup_take : LookupTake key less before sought after

  -- In rising rows the row of a key is taken out if there is one, and else nothing changes.
  pub record TakeAnswer {N : ℕ} (before : Slots R N) (sought : K) (after : Slots R N) (answer : Option R) : Type 0 where
    pub was : Rising key less (items before) → answer ≡ lookup key less (items before) sought
    pub taken : Rising key less (items before) → RowTaken (items before) sought (items after)
    pub absent : answer ≡ None → after ≡ before
