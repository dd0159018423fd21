-- A list in fixed memory: how many items it has, and where nothing was taken out.
use Rattle.std.proofs.Common.{◌≡◌, ℕ, ◌≤◌, Bool, length, None, Option, refl, sym, ◌∙◌, arith}
use Rattle.std.proofs.lemmas.List.{length-take-le}
use Rattle.table.specs.declared.slots.Slots.{Slots}
use Rattle.table.specs.Table.{Rising, lookup}
use Rattle.table.specs.Slots.{items, TakeAnswer}
use Rattle.table.proofs.Order.{Total}
use Rattle.table.proofs.Rows.{without_absent}

pub items_few : {T : Type 0} {N : ℕ} (s : Slots T N) → length (items s) ≤ N
items_few s = omega (arith, length-take-le s.count s.slots (omega (arith, s.few, s.whole)), s.few)

pub none_taken : {R K : Type 0} {N : ℕ} (key : R → K) (less : K → K → Bool) → Total less → (s : Slots R N) (k : K) (answer : Option R) → answer ≡ None → (Rising key less (items s) → lookup key less (items s) k ≡ None) → TakeAnswer key less s k s answer
none_taken key less o s k answer e f = record {
  was = λ up. e ∙ sym (f up);
  taken = λ up. record {
    rows_are = sym (without_absent key less o (items s) k (f up));
    rising = up;
    lookup_take = record { gone = f up; others = λ j ne. refl };
  };
  absent = λ none. refl;
}
