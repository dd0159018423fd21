-- Byte writes one after the other, with power on or off. Assumes nothing.
use Rattle.std.specs.Prelude.{◌≡◌, ℕ, zero, suc, Bool, true, false, Option, List, [], ◌∷◌, ◌++◌, length, take, refl}
use Rattle.std.proofs.Common.{sym, ap, subst, ◌∙◌, arith, length-append}
use Rattle.std.proofs.lemmas.List.{take_all, take-append-le}
use Rattle.supply.specs.Budget.{is_on, lasts, allowed, Asked}
use Rattle.supply.specs.declared.Supply.{Supply}
use Rattle.supply.proofs.Asking.{all_done as every, asked_none, asked_then, asked_ends, allowed_then, allowed_ends, asked_on, lasts_left}
use Rattle.supply.proofs.Spending.{allowed_le}
use Rattle.supply.proofs.Writes.{writes_on}
use Rattle.flash.specs.Cell.{ByteWrite, all_done}
use Rattle.flash.specs.Cells.{done_append}
use Rattle.flash.specs.Ran.{Ran, RanAsked}
use Rattle.flash.specs.Running.{take_over}

pub asked_run_none : (part : List ℕ) (s : Supply) → RanAsked [] part s true part s
asked_run_none part s = record { bytes = sym (ap (λ (x : List ByteWrite). all_done x part) (none (allowed (lasts s) 0))); asked = asked_none s }
  where
    none : (k : ℕ) → take {A = ByteWrite} k [] ≡ []
    none zero = refl
    none (suc k) = refl

-- some byte writes are done, and then others are asked
pub asked_run_then : {ws vs : List ByteWrite} {a b c : List ℕ} {s p q : Supply} {r : Bool} → RanAsked ws a s true b p → RanAsked vs b p r c q → RanAsked (ws ++ vs) a s r c q
asked_run_then {ws} {vs} {a} {b} {c} {s} {p} {q} {r} e f =
    let here : b ≡ all_done ws a = e.bytes ∙ ap (λ (k : ℕ). all_done (take k ws) a) (every e.asked) ∙ ap (λ (x : List ByteWrite). all_done x a) (take_all (length ws) ws (omega arith)) in
    record {
      bytes =
          f.bytes
          ∙ ap (all_done (take (allowed (lasts p) (length vs)) vs)) here
          ∙ sym (done_append ws (take (allowed (lasts p) (length vs)) vs) a)
          ∙ ap (λ (x : List ByteWrite). all_done x a) (sym (take_over ws vs (allowed (lasts p) (length vs))))
          ∙ ap (λ (k : ℕ). all_done (take k (ws ++ vs)) a) (sym (allowed_then (length vs) e.asked))
          ∙ ap (λ (k : ℕ). all_done (take (allowed (lasts s) k) (ws ++ vs)) a) (sym (length-append ws vs));
      asked = subst (λ (k : ℕ). Asked k s r q) (sym (length-append ws vs)) (asked_then e.asked f.asked);
    }

-- power failed at one of some byte writes, whatever was to follow
pub asked_run_ends : {ws : List ByteWrite} (vs : List ByteWrite) {a b : List ℕ} {s p : Supply} → RanAsked ws a s false b p → RanAsked (ws ++ vs) a s false b p
asked_run_ends {ws} vs {a} {b} {s} {p} e =
    let k : ℕ = allowed (lasts s) (length ws) in
    record {
      bytes =
          e.bytes
          ∙ ap (λ (x : List ByteWrite). all_done x a) (sym (take-append-le k ws vs (allowed_le (lasts s) (length ws))))
          ∙ ap (λ (n : ℕ). all_done (take n (ws ++ vs)) a) (sym (allowed_ends (length vs) e.asked))
          ∙ ap (λ (n : ℕ). all_done (take (allowed (lasts s) n) (ws ++ vs)) a) (sym (length-append ws vs));
      asked = subst (λ (n : ℕ). Asked n s false p) (sym (length-append ws vs)) (asked_ends (length vs) e.asked);
    }

-- one byte write is done and the rest follows, or power fails at it
pub asked_goes_on : {w : ByteWrite} {ws rest : List ByteWrite} {a b c : List ℕ} {s p q : Supply} {r : Bool} → ws ≡ w ∷ rest → RanAsked (w ∷ []) a s true b p → RanAsked rest b p r c q → RanAsked ws a s r c q
asked_goes_on is e f = rw is (asked_run_then e f)

pub asked_ends_here : {w : ByteWrite} {ws rest : List ByteWrite} {a b : List ℕ} {s p : Supply} → ws ≡ w ∷ rest → RanAsked (w ∷ []) a s false b p → RanAsked ws a s false b p
asked_ends_here {rest} is e = rw is (asked_run_ends rest e)

pub asked_nothing_left : {ws : List ByteWrite} {a : List ℕ} {s : Supply} → ws ≡ [] → RanAsked ws a s true a s
asked_nothing_left {a} {s} is = rw is (asked_run_none a s)

pub asked_run_stops : {ws : List ByteWrite} (vs : List ByteWrite) {a b : List ℕ} {s p : Supply} {r : Bool} → r ≡ false → RanAsked ws a s r b p → RanAsked (ws ++ vs) a s r b p
asked_run_stops {ws} vs {a} {b} {s} {p} {r} no' e =
    subst (λ (x : Bool). RanAsked (ws ++ vs) a s x b p) (sym no') (asked_run_ends vs (subst (λ (x : Bool). RanAsked ws a s x b p) no' e))

-- with power on they run just where these hold
pub ran_on : {ws : List ByteWrite} {a b : List ℕ} {s p : Supply} {r : Bool} → is_on s ≡ true → RanAsked ws a s r b p → Ran ws a s r b p
ran_on on e = writes_on on e

pub on_ran : {ws : List ByteWrite} {a b : List ℕ} {s p : Supply} {r : Bool} → is_on s ≡ true → Ran ws a s r b p → RanAsked ws a s r b p
on_ran {ws} {a} {s} {r} on e =
    record { bytes = e.bytes ∙ sym (ap (λ (b : Option ℕ). all_done (take (allowed b (length ws)) ws) a) (lasts_left s on)); asked = asked_on r on e.spent }
