-- What erasing and programming a cell comes to. Assumes nothing.
use Rattle.std.proofs.Common.{◌≡◌, ℕ, min, zero, suc, ◌+◌, ◌<◌, ◌≤◌, Bool, true, false, cond, List, [], ◌∷◌, length, get_or, take, set, bit_and, sym, refl, ap, subst, ◌∙◌, inr, ⊎_elim, arith, add-zero}
use Rattle.std.proofs.lemmas.List.{take_more, set-get_or, get_or_append_left, get_or_push, length_push, ext_get_or}
use Rattle.std.proofs.lemmas.Bool.{cases_lt}
use Rattle.supply.specs.Budget.{lasts, allowed, Asked}
use Rattle.supply.specs.Writing.{Asks, written}
use Rattle.supply.specs.declared.Supply.{Supply}
use Rattle.supply.proofs.Asking.{all_done as every, not_all}
use Rattle.supply.proofs.Spending.{allowed_le}
use Rattle.supply.proofs.Writes.{written_below, written_above, length_written, one_more, ends_here}
use Rattle.flash.specs.Cell.{ByteWrite, erasing, programming, one_done, all_done, erases_from, programs_from, program_steps}
use Rattle.flash.specs.Cells.{done_append, length_done, length_programs, elsewhere, erased_at, erases_off}
use Rattle.flash.specs.Ran.{RanAsked}

-- one byte write to its slot, which power lasts for or not
pub ran_one : {w : ByteWrite} {c : List ℕ} {v : ℕ} {s p : Supply} {r : Bool} (i x : ℕ) → one_done w c ≡ set c i x → v ≡ cond r x (get_or c i 0) → Asked 1 s r p → RanAsked (w ∷ []) c s r (set c i v) p
ran_one {w} {c} {v} {s} {p} {r = true} i x is e one =
    record { bytes = ap (set c i) e ∙ sym is ∙ ap (λ (k : ℕ). all_done (take k (w ∷ [])) c) (sym (every one)); asked = one }
ran_one {w} {c} {v} {s} {p} {r = false} i x is e one =
    let none : allowed (lasts s) 1 ≡ 0 = omega (arith, allowed_le (lasts s) 1, not_all one) in
    record { bytes = ap (set c i) e ∙ set-get_or c i 0 ∙ ap (λ (k : ℕ). all_done (take k (w ∷ [])) c) (sym none); asked = one }

take_erases : (at n k : ℕ) → k ≤ n → take k (erases_from at n) ≡ erases_from at k
take_erases at n zero h = refl
take_erases at zero (suc k) h = absurd (omega arith)
take_erases at (suc n) (suc k) h = ap (λ (x : List ByteWrite). erasing at ∷ x) (take_erases (at + 1) n k (omega arith))

-- erased bytes written in order
module _ (new c : List ℕ) (size : length new ≡ 32) (each : (j : ℕ) → j < 32 → get_or new j 0 ≡ 255) (room : 32 ≤ length c) where
  erased : (k : ℕ) → k ≤ 32 → written k new c ≡ all_done (take k (erases_from 0 32)) c
  erased k h =
      let within : k ≤ length new = omega arith in
      let long = length_written k new c within (omega arith) in
      let t : all_done (take k (erases_from 0 32)) c ≡ all_done (erases_from 0 k) c = ap (λ (x : List ByteWrite). all_done x c) (take_erases 0 32 k h) in
      ext_get_or 0 (written k new c) (all_done (erases_from 0 k) c) (long ∙ sym (length_done (erases_from 0 k) c))
      (λ j l.
      ⊎_elim
      (λ low. written_below k new c within j 0 low ∙ each j (omega arith) ∙ sym (erased_at 0 k c j 0 (omega arith) (omega arith) (omega (arith, long))))
      (λ high. written_above k new c within j 0 high ∙ sym (elsewhere (erases_from 0 k) c j 0 (erases_off 0 k j (inr (omega arith)))))
      (cases_lt j k))
      ∙ sym t

  pub ran_erases : {s p : Supply} {r : Bool} {now : List ℕ} → Asks (min 32 (length c)) (λ k. written k new c) s r now p → RanAsked (erases_from 0 32) c s r now p
  ran_erases {s} {p} {r} {now} asks =
      let all : min 32 (length c) ≡ 32 = omega arith in
      let e : Asks 32 (λ k. written k new c) s r now p = subst (λ (n : ℕ). Asks n (λ k. written k new c) s r now p) all asks in
      record { bytes = e.bytes ∙ erased (allowed (lasts s) 32) (allowed_le (lasts s) 32); asked = e.asked }

program_at : (at : ℕ) (bs : List ℕ) (k : ℕ) (d : ByteWrite) → k < length bs → get_or (programs_from at bs) k d ≡ programming (at + k) (get_or bs k 0)
program_at at [] k d h = absurd (omega arith)
program_at at (b ∷ bs) zero d h = ap (λ (m : ℕ). programming m b) (sym (add-zero at))
program_at at (b ∷ bs) (suc k) d h =
    let e : at + 1 + k ≡ at + suc k = omega arith in
    program_at (at + 1) bs k d (omega arith) ∙ ap (λ (m : ℕ). programming m (get_or bs k 0)) e

-- one byte more of the cell is programmed
module _ (payload c : List ℕ) (size : length payload ≡ 32) where
  length_program : length (program_steps payload) ≡ 33
  length_program = omega (arith, length_push (programs_from 0 payload) (programming 32 0), length_programs 0 payload)

  step : (k : ℕ) (w : ByteWrite) → k < 33 → get_or (program_steps payload) k (erasing 0) ≡ w → all_done (take (k + 1) (program_steps payload)) c ≡ one_done w (all_done (take k (program_steps payload)) c)
  step k w h is =
      ap (λ (x : List ByteWrite). all_done x c) (take_more (program_steps payload) k (erasing 0) (omega (arith, length_program)))
      ∙ done_append (take k (program_steps payload)) (get_or (program_steps payload) k (erasing 0) ∷ []) c
      ∙ ap (λ (x : ByteWrite). one_done x (all_done (take k (program_steps payload)) c)) is

  payload_step : (k : ℕ) → k < 32 → all_done (take (k + 1) (program_steps payload)) c ≡ one_done (programming k (get_or payload k 0)) (all_done (take k (program_steps payload)) c)
  payload_step k h =
      let z : 0 + k ≡ k = omega arith in
      step k (programming k (get_or payload k 0)) (omega arith)
      (get_or_append_left (programs_from 0 payload) (programming 32 0 ∷ []) (erasing 0) k (omega (arith, length_programs 0 payload)) ∙ program_at 0 payload k (erasing 0) (omega arith) ∙ ap (λ (m : ℕ). programming m (get_or payload k 0)) z)

  mark_step : all_done (take 33 (program_steps payload)) c ≡ one_done (programming 32 0) (all_done (take 32 (program_steps payload)) c)
  mark_step = step 32 (programming 32 0) (omega arith) (get_or_push (programs_from 0 payload) (programming 32 0) (erasing 0) 32 (length_programs 0 payload ∙ size))

  -- so it is asked, first to last
  abbrev pub Programmed : ℕ → Supply → Bool → List ℕ → Supply → Type 0
  Programmed k s r now p = Asks k (λ j. all_done (take j (program_steps payload)) c) s r now p

  pub programs_on : {k v : ℕ} {now : List ℕ} {s p q : Supply} → k < 32 → Programmed k s true now p → v ≡ bit_and (get_or now k 0) (get_or payload k 0) → Asked 1 p true q → Programmed (k + 1) s true (set now k v) q
  programs_on {k} {v} {now} h u is one =
      one_more u one (λ so_far. ap (set now k) is ∙ ap (λ (x : List ℕ). set x k (bit_and (get_or x k 0) (get_or payload k 0))) so_far ∙ sym (payload_step k h))

  all_of : {s p : Supply} {r : Bool} {now : List ℕ} → Programmed 33 s r now p → RanAsked (program_steps payload) c s r now p
  all_of {s} {p} {r} {now} e = subst (λ (n : ℕ). Programmed n s r now p) (sym length_program) e

  pub program_ends : {k v : ℕ} {now : List ℕ} {s p q : Supply} → k < 33 → Programmed k s true now p → v ≡ get_or now k 0 → Asked 1 p false q → RanAsked (program_steps payload) c s false (set now k v) q
  program_ends {k} {now} h u is one = all_of (ends_here h u one (ap (set now k) is ∙ set-get_or now k 0))

  pub mark_ran : {k v : ℕ} {now : List ℕ} {s p q : Supply} {r : Bool} → k ≡ 32 → Programmed k s true now p → v ≡ cond r (bit_and (get_or now 32 0) 0) (get_or now 32 0) → Asked 1 p r q → RanAsked (program_steps payload) c s r (set now 32 v) q
  mark_ran {now} {s} {p} {r} all u = marked r (subst (λ (n : ℕ). Programmed n s true now p) all u)
    where
      marked : {v : ℕ} {now : List ℕ} {s p q : Supply} (r : Bool) → Programmed 32 s true now p → v ≡ cond r (bit_and (get_or now 32 0) 0) (get_or now 32 0) → Asked 1 p r q → RanAsked (program_steps payload) c s r (set now 32 v) q
      marked {now} true u is one = all_of (one_more u one (λ so_far. ap (set now 32) is ∙ ap (λ (x : List ℕ). set x 32 (bit_and (get_or x 32 0) 0)) so_far ∙ sym mark_step))
      marked false u is one = program_ends (omega arith) u is one
