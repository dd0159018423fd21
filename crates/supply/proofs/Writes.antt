-- Bytes written in order: none yet, one more, and where power fails at one. Assumes nothing.
use Rattle.std.proofs.Common.{◌≡◌, ℕ, ◌+◌, ◌-◌, ◌<◌, ◌≤◌, Bool, true, false, List, length, get_or, take, drop, set, sym, ap, ◌∙◌, zero-add, arith, length-append, length-drop, length-take}
use Rattle.std.proofs.lemmas.List.{get_or_append_left, get_or-append_right, get_or-take, get_or-drop, length-take-le}
use Rattle.std.proofs.lemmas.List.Edits.{paste_more}
use Rattle.supply.specs.Budget.{allowed, is_on, Asked}
use Rattle.supply.specs.Writing.{Asks, ByteWrites, written}
use Rattle.supply.specs.declared.Supply.{Supply}
use Rattle.supply.proofs.Asking.{all_done, asked_none, asked_then, asked_cut, cut_at, lasts_left, spent_on}

-- byte by byte, and as long as before
module _ (k : ℕ) (new old : List ℕ) (within : k ≤ length new) where
  front : length (take k new) ≡ k
  front = length-take-le k new within

  pub written_below : (j d : ℕ) → j < k → get_or (written k new old) j d ≡ get_or new j d
  written_below j d h = get_or_append_left (take k new) (drop k old) d j (omega (arith, front)) ∙ get_or-take k new j d h

  pub written_above : (j d : ℕ) → k ≤ j → get_or (written k new old) j d ≡ get_or old j d
  written_above j d h =
      let e : k + (j - k) ≡ j = omega arith in
      get_or-append_right (take k new) (drop k old) k j d front h ∙ get_or-drop k old (j - k) d ∙ ap (λ (n : ℕ). get_or old n d) e

  pub length_written : k ≤ length old → length (written k new old) ≡ length old
  length_written h = simp (length-append, length-take, length-drop) (omega arith)

pub written_more : (k : ℕ) (new old : List ℕ) → k < length new → k < length old → set (written k new old) k (get_or new k 0) ≡ written (k + 1) new old
written_more k new old h l =
    let e = paste_more old 0 new k 0 (simp zero-add l) h in
    simp zero-add at e

-- before the first byte write
pub begins : {after : ℕ → List ℕ} {part : List ℕ} (s : Supply) → part ≡ after 0 → Asks 0 after s true part s
begins {after} s none = record { bytes = none ∙ ap after (sym (all_done (asked_none s))); asked = asked_none s }

-- after k byte writes one more is done
pub one_more : {k : ℕ} {after : ℕ → List ℕ} {part now : List ℕ} {s p q : Supply} → Asks k after s true part p → Asked 1 p true q → (part ≡ after k → now ≡ after (k + 1)) → Asks (k + 1) after s true now q
one_more {k} {after} {s} {q} u one more =
    let both : Asked (k + 1) s true q = asked_then u.asked one in
    record { bytes = more (u.bytes ∙ ap after (all_done u.asked)) ∙ ap after (sym (all_done both)); asked = both }

-- or power fails at it, and all of them end there
pub ends_here : {k n : ℕ} {after : ℕ → List ℕ} {part now : List ℕ} {s p q : Supply} → k < n → Asks k after s true part p → Asked 1 p false q → now ≡ part → Asks n after s false now q
ends_here {after} h u one same = record { bytes = same ∙ u.bytes ∙ ap after (all_done u.asked ∙ sym (cut_at u.asked one h)); asked = asked_cut u.asked one h }

-- with power on
pub writes_on : {n : ℕ} {after : ℕ → List ℕ} {s p : Supply} {r : Bool} {bytes : List ℕ} → is_on s ≡ true → Asks n after s r bytes p → ByteWrites n after s r bytes p
writes_on {n} {after} {s} on e = record { bytes = e.bytes ∙ ap (λ b. after (allowed b n)) (lasts_left s on); spent = spent_on on e.asked }
