-- Byte writes one after the other, of power that is on. Assumes nothing.
use Rattle.std.specs.Prelude.{◌≡◌, ℕ, zero, suc, ◌+◌, ◌-◌, ◌<◌, ◌≤◌, Bool, true, false, List, [], ◌∷◌, ◌++◌, length, take, drop, slice_index, refl}
use Rattle.std.proofs.Common.{sym, ap, subst, ◌∙◌, arith, zero-add, suc-add, length-append}
use Rattle.std.proofs.lemmas.List.{drop_more, drop_all, take_all, take-append-le}
use Rattle.supply.specs.Budget.{is_on, left_of, allowed, Spent}
use Rattle.supply.specs.declared.Supply.{Supply}
use Rattle.supply.proofs.Spending.{allowed_le, spent_none, spent_then, spent_ends, allowed_then, allowed_ends, all_done as allowed_all}
use Rattle.flash.specs.Cell.{ByteWrite, erasing, programming, all_done, erases_from, programs_from}
use Rattle.flash.specs.Cells.{done_append}
use Rattle.flash.specs.Ran.{Ran}

pub take_over : (ws vs : List ByteWrite) (k : ℕ) → take (length ws + k) (ws ++ vs) ≡ ws ++ take k vs
take_over [] vs k = ap (λ (n : ℕ). take n vs) (zero-add k)
take_over (w ∷ ws) vs k = ap (λ (n : ℕ). take n (w ∷ (ws ++ vs))) (suc-add (length ws) k) ∙ ap (λ (x : List ByteWrite). w ∷ x) (take_over ws vs k)

pub ran_none : (part : List ℕ) (s : Supply) → is_on s ≡ true → Ran [] part s true part s
ran_none part s on = record { bytes = sym (ap (λ (x : List ByteWrite). all_done x part) (none (allowed (left_of s) 0))); spent = spent_none s on }
  where
    none : (k : ℕ) → take {A = ByteWrite} k [] ≡ []
    none zero = refl
    none (suc k) = refl

-- some byte writes are done, and then others are asked
pub ran_then : {ws vs : List ByteWrite} {a b c : List ℕ} {s p q : Supply} {r : Bool} → Ran ws a s true b p → Ran vs b p r c q → Ran (ws ++ vs) a s r c q
ran_then {ws} {vs} {a} {b} {c} {s} {p} {q} {r} e f =
    let whole : allowed (left_of s) (length ws) ≡ length ws = every e.spent in
    let here : b ≡ all_done ws a = e.bytes ∙ ap (λ (k : ℕ). all_done (take k ws) a) whole ∙ ap (λ (x : List ByteWrite). all_done x a) (take_self ws) in
    record {
      bytes =
          f.bytes
          ∙ ap (all_done (take (allowed (left_of p) (length vs)) vs)) here
          ∙ sym (done_append ws (take (allowed (left_of p) (length vs)) vs) a)
          ∙ ap (λ (x : List ByteWrite). all_done x a) (sym (take_over ws vs (allowed (left_of p) (length vs))))
          ∙ ap (λ (k : ℕ). all_done (take k (ws ++ vs)) a) (sym (allowed_then (length vs) e.spent))
          ∙ ap (λ (k : ℕ). all_done (take (allowed (left_of s) k) (ws ++ vs)) a) (sym (length-append ws vs));
      spent = subst (λ (k : ℕ). Spent k s r q) (sym (length-append ws vs)) (spent_then e.spent f.spent);
    }
  where
    every : {n : ℕ} {s p : Supply} → Spent n s true p → allowed (left_of s) n ≡ n
    every e = allowed_all e

    take_self : (ws : List ByteWrite) → take (length ws) ws ≡ ws
    take_self ws = take_all (length ws) ws (omega arith)

-- power failed at one of some byte writes, whatever was to follow
pub ran_ends : {ws : List ByteWrite} (vs : List ByteWrite) {a b : List ℕ} {s p : Supply} → Ran ws a s false b p → Ran (ws ++ vs) a s false b p
ran_ends {ws} vs {a} {b} {s} {p} e =
    let k : ℕ = allowed (left_of s) (length ws) in
    record {
      bytes =
          e.bytes
          ∙ ap (λ (x : List ByteWrite). all_done x a) (sym (take-append-le k ws vs (allowed_le (left_of s) (length ws))))
          ∙ ap (λ (n : ℕ). all_done (take n (ws ++ vs)) a) (sym (allowed_ends (length vs) e.spent))
          ∙ ap (λ (n : ℕ). all_done (take (allowed (left_of s) n) (ws ++ vs)) a) (sym (length-append ws vs));
      spent = subst (λ (n : ℕ). Spent n s false p) (sym (length-append ws vs)) (spent_ends (length vs) e.spent);
    }

-- what is left of consecutive byte writes, by the first
pub left_erases : (i n : ℕ) → i < n → erases_from i (n - i) ≡ erasing i ∷ erases_from (i + 1) (n - (i + 1))
left_erases i n h = let e : n - i ≡ suc (n - (i + 1)) = omega arith in ap (erases_from i) e

pub no_erases_left : (i n : ℕ) → i ≡ n → erases_from i (n - i) ≡ []
no_erases_left i n e = let z : n - i ≡ 0 = omega arith in ap (erases_from i) z

pub left_programs : (i : ℕ) (payload : List ℕ) → i < length payload → programs_from i (drop i payload) ≡ programming i (slice_index payload i) ∷ programs_from (i + 1) (drop (i + 1) payload)
left_programs i payload h = ap (programs_from i) (drop_more payload i 0 h)

pub no_programs_left : (i : ℕ) (payload : List ℕ) → length payload ≤ i → programs_from i (drop i payload) ≡ []
no_programs_left i payload h = ap (programs_from i) (drop_all i payload h)

-- one byte write is done and the rest follows, or power fails at it
pub goes_on : {w : ByteWrite} {ws rest : List ByteWrite} {a b c : List ℕ} {s p q : Supply} {r : Bool} → ws ≡ w ∷ rest → Ran (w ∷ []) a s true b p → Ran rest b p r c q → Ran ws a s r c q
goes_on is e f = rw is (ran_then e f)

pub ends_here : {w : ByteWrite} {ws rest : List ByteWrite} {a b : List ℕ} {s p : Supply} → ws ≡ w ∷ rest → Ran (w ∷ []) a s false b p → Ran ws a s false b p
ends_here {rest} is e = rw is (ran_ends rest e)

pub nothing_left : {ws : List ByteWrite} {a : List ℕ} {s : Supply} → ws ≡ [] → is_on s ≡ true → Ran ws a s true a s
nothing_left {a} {s} is on = rw is (ran_none a s on)

pub ran_stops : {ws : List ByteWrite} (vs : List ByteWrite) {a b : List ℕ} {s p : Supply} {r : Bool} → r ≡ false → Ran ws a s r b p → Ran (ws ++ vs) a s r b p
ran_stops {ws} vs {a} {b} {s} {p} {r} no' e =
    subst (λ (x : Bool). Ran (ws ++ vs) a s x b p) (sym no') (ran_ends vs (subst (λ (x : Bool). Ran ws a s x b p) no' e))
