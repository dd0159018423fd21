-- From byte writes under a supply to the power rule. Assumes nothing.
use Rattle.std.proofs.Common.{◌≡◌, ℕ, ◌-◌, ◌*◌, ◌/◌, ◌<◌, ◌≤◌, true, List, length, get_or, take, drop, set, Ok, Err, Result, sym, ap, ◌∙◌, ⊎_elim, arith}
use Rattle.std.proofs.lemmas.List.{take_rest}
use Rattle.std.proofs.lemmas.Bool.{eqb-true, eqb-false, cases_lt}
use Rattle.device.specs.declared.Block.{Block}
use Rattle.device.specs.declared.Block.TheVariants.{Good, Damaged}
use Rattle.device.specs.declared.DeviceFault.{DeviceFault}
use Rattle.device.specs.declared.DeviceFault.TheVariants.{Refused}
use Rattle.device.specs.Power.{Left, WriteAnswer}
use Rattle.device.proofs.Answers.{write_done, write_lost, left_before, left_torn}
use Rattle.supply.specs.Budget.{is_on, left_of, allowed}
use Rattle.supply.specs.Writing.{BlockWrite, Tears}
use Rattle.supply.specs.Cells.{blocks_by}
use Rattle.supply.specs.declared.Supply.{Supply}
use Rattle.supply.proofs.Spending.{allowed_le}
use Rattle.supply.proofs.Cells.{getD_blocks_by}

module _ (n : ℕ) (after : ℕ → List ℕ) (blocks_of : List ℕ → List Block) (content : ℕ → Block) (at : ℕ) (payload : List ℕ) (bs : List Block) (here : at < length bs)
    (views : (k : ℕ) → k ≤ n → blocks_of (after k) ≡ set bs at (content k)) (tears : Tears n content (get_or bs at Damaged) payload) where
  cut_by : (k : ℕ) → k < n → Left (get_or bs at Damaged) payload (content k)
  cut_by k h = ⊎_elim (λ some. left_torn (tears.some k some h)) (λ none. let z : k ≡ 0 = omega arith in left_before (ap content z ∙ tears.none)) (cases_lt 0 k)

  pub by_byte_writes : (s : Supply) (r : Result Unit DeviceFault) (bytes' : List ℕ) (s' : Supply) → is_on s ≡ true → BlockWrite n after at s r bytes' s' → WriteAnswer bs (is_on s) at payload r (blocks_of bytes') (is_on s')
  by_byte_writes s (Ok u) bytes' s' on w =
      let k : allowed (left_of s) n ≡ n = eqb-true (allowed (left_of s) n) n (sym w.writes.spent.done) in
      let b : blocks_of bytes' ≡ set bs at (Good payload) = ap blocks_of w.writes.bytes ∙ views _ (allowed_le (left_of s) n) ∙ ap (λ (m : ℕ). set bs at (content m)) k ∙ ap (set bs at) tears.all in
      rw w.answer (write_done on here b w.writes.spent.on)
  by_byte_writes s (Err f) bytes' s' on w =
      let k : allowed (left_of s) n < n = omega (arith, allowed_le (left_of s) n, eqb-false (allowed (left_of s) n) n (sym w.writes.spent.done)) in
      let b : blocks_of bytes' ≡ set bs at (content (allowed (left_of s) n)) = ap blocks_of w.writes.bytes ∙ views _ (allowed_le (left_of s) n) in
      rw w.answer (write_lost on here b (cut_by _ k) w.writes.spent.on)

-- a block write is never refused
pub not_refused : {n : ℕ} {after : ℕ → List ℕ} {at : ℕ} {s : Supply} {bytes' : List ℕ} {s' : Supply} → BlockWrite n after at s (Err Refused) bytes' s' → ⊥
not_refused w = let e = w.answer in let z : ◌≡◌ {A = ℕ} 0 1 = cc in omega arith

-- a block is read from the part that starts with its cell
pub block_at : (n : ℕ) (content : List ℕ → Block) (bytes : List ℕ) (i : ℕ) (r : Block) → i < length bytes / n → r ≡ content (take n (take (length bytes - n * i) (drop (n * i) bytes))) → r ≡ get_or (blocks_by n content bytes) i Damaged
block_at n content bytes i r there e = e ∙ ap (λ (x : List ℕ). content (take n x)) (take_rest bytes (n * i)) ∙ sym (getD_blocks_by n content bytes i Damaged there)
