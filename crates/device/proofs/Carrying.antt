-- Accesses carried out: how they compose, and what they come to on the blocks of a device that keeps the power rule. Assumes nothing.
use Rattle.std.proofs.Common.{◌≡◌, ℕ, zero, suc, ◌+◌, ◌-◌, ◌<◌, ◌≤◌, Bool, true, false, ◌⊎◌, List, [], ◌∷◌, ◌++◌, length, get_or, drop, Ok, Err, Result, sym, refl, ap, ◌∙◌, inl, inr, add_assoc, add-one, arith, length-set, drop-cons}
use lib.Seq.{drop-length}
use Rattle.device.specs.declared.Block.{Block}
use Rattle.device.specs.declared.Block.TheVariants.{Good}
use Rattle.device.specs.declared.DeviceFault.{DeviceFault}
use Rattle.device.specs.declared.DeviceFault.TheVariants.{Refused}
use Rattle.device.specs.Power.{ReadAnswer, WriteAnswer}
use Rattle.device.proofs.Facts.{found, wrote, off_answer, off_writes, length_read, length_write, ok_is_err, err_is}
use Rattle.device.specs.Power as power
use Rattle.device.specs.Accesses.{Access, read, write, Carried, all, read_on, write_on, read_fails, write_fails, writes_from, reads_from}
use Rattle.device.specs.View.{done, after, block_of, Struck, Torn, here, later, Executed, whole, torn, Within}
use Rattle.device.specs.View as view

-- what is left of a run of writes, by its first
pub left_writes : (first i : ℕ) (rows : List (List ℕ)) → i < length rows → writes_from (first + i) (drop i rows) ≡ write (first + i) (get_or rows i []) ∷ writes_from (first + (i + 1)) (drop (i + 1) rows)
left_writes first i rows h =
    ap (writes_from (first + i)) (drop-cons rows i [] h)
    ∙ ap (λ (n : ℕ). write (first + i) (get_or rows i []) ∷ writes_from n (drop (suc i) rows)) (add_assoc first i 1)
    ∙ ap (λ (k : ℕ). write (first + i) (get_or rows i []) ∷ writes_from (first + (i + 1)) (drop k rows)) (sym (add-one i))

pub no_writes_left : (first i : ℕ) (rows : List (List ℕ)) → i ≡ length rows → writes_from (first + i) (drop i rows) ≡ []
no_writes_left first i rows e = rw (e, drop-length)

-- what is left of a run of n reads, by its first
pub left_reads : (first i n : ℕ) → i < n → reads_from (first + i) (n - i) ≡ read (first + i) ∷ reads_from (first + (i + 1)) (n - (i + 1))
left_reads first i n h =
    let e : n - i ≡ suc (n - (i + 1)) = omega arith in
    ap (reads_from (first + i)) e ∙ ap (λ (m : ℕ). read (first + i) ∷ reads_from m (n - (i + 1))) (add_assoc first i 1)

pub no_reads_left : (first i n : ℕ) → i ≡ n → reads_from (first + i) (n - i) ≡ []
no_reads_left first i n e = let z : n - i ≡ 0 = omega arith in ap (reads_from (first + i)) z

-- the blocks' view composes
pub after_append : (xs ys : List Access) (bs : List Block) → after (xs ++ ys) bs ≡ after ys (after xs bs)
after_append [] ys bs = refl
after_append (x ∷ xs) ys bs = after_append xs ys (done x bs)

pub length_done : (a : Access) (bs : List Block) → length (done a bs) ≡ length bs
length_done (read at) bs = refl
length_done (write at bytes) bs = length-set bs at (Good bytes)

pub length_after : (xs : List Access) (bs : List Block) → length (after xs bs) ≡ length bs
length_after [] bs = refl
length_after (x ∷ xs) bs = length_after xs (done x bs) ∙ length_done x bs

pub length_struck : {bs bs' : List Block} {a : Access} → Struck bs a bs' → length bs' ≡ length bs
length_struck view.Struck.reading = refl
length_struck (view.Struck.writing l) = length-set _ _ _

pub length_torn : {xs : List Access} {bs bs' : List Block} {at : ℕ} → Torn xs bs at bs' → length bs' ≡ length bs
length_torn (here s) = length_struck s
length_torn (later {a} {bs} t) = length_torn t ∙ length_done a bs

-- a cut in the first part, or in the second with the first done
pub torn_left : {xs : List Access} (ys : List Access) {bs bs' : List Block} {at : ℕ} → Torn xs bs at bs' → Torn (xs ++ ys) bs at bs'
torn_left ys (here s) = here s
torn_left ys (later t) = later (torn_left ys t)

pub torn_right : (xs : List Access) {ys : List Access} {bs bs' : List Block} {at : ℕ} → Torn ys (after xs bs) at bs' → Torn (xs ++ ys) bs at bs'
torn_right [] t = t
torn_right (x ∷ xs) t = later (torn_right xs t)

pub torn_cases : (xs : List Access) {ys : List Access} {bs bs' : List Block} {at : ℕ} → Torn (xs ++ ys) bs at bs' → Torn xs bs at bs' ⊎ Torn ys (after xs bs) at bs'
torn_cases [] t = inr t
torn_cases (x ∷ xs) (here s) = inl (here s)
torn_cases (x ∷ xs) (later t) = elim (torn_cases xs t) [ inl a ↦ inl (later a) | inr b ↦ inr b ]

-- where a list of accesses was cut: those before it were done
pub torn_split : {xs : List Access} {bs bs' : List Block} {at : ℕ} → Torn xs bs at bs' → (before : List Access) × (a : Access) × (rest : List Access) × (xs ≡ before ++ a ∷ rest) × (at ≡ block_of a) × Struck (after before bs) a bs'
torn_split (here {a} {rest} s) = ([], a, rest, refl, refl, s)
torn_split (later {a} t) = let p = torn_split t in (a ∷ p.0, p.1, p.2, ap (λ (x : List Access). a ∷ x) p.3, p.4, p.5)

-- consecutive reads change no block, and consecutive writes are cut at one of theirs
pub after_reads : (first n : ℕ) (bs : List Block) → after (reads_from first n) bs ≡ bs
after_reads first zero bs = refl
after_reads first (suc n) bs = after_reads (first + 1) n bs

pub torn_reads : (first n : ℕ) {bs bs' : List Block} {at : ℕ} → Torn (reads_from first n) bs at bs' → (bs' ≡ bs) × (first ≤ at) × (at < first + n)
torn_reads first zero t = elim t [ ]
torn_reads first (suc n) (here view.Struck.reading) = (refl, omega arith, omega arith)
torn_reads first (suc n) (later t) = let p = torn_reads (first + 1) n t in (p.0, omega arith, omega arith)

pub torn_writes : (first : ℕ) (rows : List (List ℕ)) {bs bs' : List Block} {at : ℕ} → Torn (writes_from first rows) bs at bs' → (first ≤ at) × (at < first + length rows)
torn_writes first [] t = elim t [ ]
torn_writes first (r ∷ rows) (here s) = (omega arith, omega arith)
torn_writes first (r ∷ rows) (later t) = let p = torn_writes (first + 1) rows t in (omega arith, omega arith)

pub within_append : (n : ℕ) (xs ys : List Access) → Within n xs → Within n ys → Within n (xs ++ ys)
within_append n [] ys a b = b
within_append n (x ∷ xs) ys a b = (a.0, within_append n xs ys a.1 b)

pub within_left : (n : ℕ) (xs ys : List Access) → Within n (xs ++ ys) → Within n xs
within_left n [] ys a = tt
within_left n (x ∷ xs) ys a = (a.0, within_left n xs ys a.1)

pub within_right : (n : ℕ) (xs ys : List Access) → Within n (xs ++ ys) → Within n ys
within_right n [] ys a = a
within_right n (x ∷ xs) ys a = within_right n xs ys a.1

pub within_writes : (n first : ℕ) (rows : List (List ℕ)) → first + length rows ≤ n → Within n (writes_from first rows)
within_writes n first [] h = tt
within_writes n first (r ∷ rows) h = (omega arith, within_writes n (first + 1) rows (omega arith))

pub within_reads : (n first k : ℕ) → first + k ≤ n → Within n (reads_from first k)
within_reads n first zero h = tt
within_reads n first (suc k) h = (omega arith, within_reads n (first + 1) k (omega arith))

module _ {D : Type 0} {reads : D → ℕ → Result Block DeviceFault → D → Type 0} {writes : D → ℕ → List ℕ → Result Unit DeviceFault → D → Type 0} where
  -- one list carried out, and then another
  pub carried_then : {xs ys : List Access} {d d' e : D} {r : Result Unit DeviceFault} → Carried reads writes d xs (Ok tt) d' → Carried reads writes d' ys r e → Carried reads writes d (xs ++ ys) r e
  carried_then all c = c
  carried_then (read_on s t) c = read_on s (carried_then t c)
  carried_then (write_on s t) c = write_on s (carried_then t c)

  -- one list that was ended by a fault, whatever was to follow
  pub carried_ends : {xs : List Access} (ys : List Access) {d e : D} {f : DeviceFault} → Carried reads writes d xs (Err f) e → Carried reads writes d (xs ++ ys) (Err f) e
  carried_ends ys (read_on s t) = read_on s (carried_ends ys t)
  carried_ends ys (write_on s t) = write_on s (carried_ends ys t)
  carried_ends ys (read_fails s) = read_fails s
  carried_ends ys (write_fails s) = write_fails s

  -- two lists in one: the first was ended by the fault, or it was done and the second follows
  pub carried_cases : (xs : List Access) {ys : List Access} {d e : D} {r : Result Unit DeviceFault} → Carried reads writes d (xs ++ ys) r e → ((f : DeviceFault) × (r ≡ Err f) × Carried reads writes d xs r e) ⊎ ((d' : D) × Carried reads writes d xs (Ok tt) d' × Carried reads writes d' ys r e)
  carried_cases [] {d} c = inr (d, all, c)
  carried_cases (read at ∷ xs) (read_on s t) = elim (carried_cases xs t) [ inl a ↦ inl (a.0, a.1, read_on s a.2) | inr b ↦ inr (b.0, read_on s b.1, b.2) ]
  carried_cases (read at ∷ xs) (read_fails {f} s) = inl (f, refl, read_fails s)
  carried_cases (write at bytes ∷ xs) (write_on s t) = elim (carried_cases xs t) [ inl a ↦ inl (a.0, a.1, write_on s a.2) | inr b ↦ inr (b.0, write_on s b.1, b.2) ]
  carried_cases (write at bytes ∷ xs) (write_fails {f} s) = inl (f, refl, write_fails s)

-- with power on and the block there, a fault is power lost at it
pub read_cut : {bs bs' : List Block} {p p' : Bool} {at : ℕ} {f : DeviceFault} (rest : List Access) → p ≡ true → at < length bs → ReadAnswer bs p at (Err f) bs' p' → Executed (read at ∷ rest) bs (Err f) bs' p'
read_cut rest on room (power.ReadAnswer.lost h) = torn (here view.Struck.reading)
read_cut rest on room power.ReadAnswer.off = absurd (let z : ◌≡◌ {A = ℕ} 0 1 = cc in omega arith)
read_cut rest on room (power.ReadAnswer.past h) = absurd (omega arith)

pub write_cut : {bs bs' : List Block} {p p' : Bool} {at : ℕ} {bytes : List ℕ} {f : DeviceFault} (rest : List Access) → p ≡ true → at < length bs → WriteAnswer bs p at bytes (Err f) bs' p' → Executed (write at bytes ∷ rest) bs (Err f) bs' p'
write_cut rest on room (power.WriteAnswer.lost h l) = torn (here (view.Struck.writing l))
write_cut rest on room power.WriteAnswer.off = absurd (let z : ◌≡◌ {A = ℕ} 0 1 = cc in omega arith)
write_cut rest on room (power.WriteAnswer.past h) = absurd (omega arith)

-- the first access is done, and the rest comes to what all come to
pub first_done : (a : Access) {rest : List Access} {bs bs' : List Block} {r : Result Unit DeviceFault} {p' : Bool} → Executed rest (done a bs) r bs' p' → Executed (a ∷ rest) bs r bs' p'
first_done a whole = whole
first_done a (torn t) = torn (later t)

-- what was carried out, on the blocks of a device whose reads and writes keep the power rule
module _ {D : Type 0} {blocks : D → List Block} {powered : D → Bool} {reads : D → ℕ → Result Block DeviceFault → D → Type 0} {writes : D → ℕ → List ℕ → Result Unit DeviceFault → D → Type 0}
    (rule-r : (d e : D) (at : ℕ) (r : Result Block DeviceFault) → reads d at r e → ReadAnswer (blocks d) (powered d) at r (blocks e) (powered e))
    (rule-w : (d e : D) (at : ℕ) (bytes : List ℕ) (r : Result Unit DeviceFault) → writes d at bytes r e → WriteAnswer (blocks d) (powered d) at bytes r (blocks e) (powered e)) where
  pub seen : {d e : D} {accesses : List Access} {r : Result Unit DeviceFault} → powered d ≡ true → Within (length (blocks d)) accesses → Carried reads writes d accesses r e → Executed accesses (blocks d) r (blocks e) (powered e)
  seen on near all = rw on whole
  seen on near (read_on {d} {d'} {e} {at} {b} {rest} {r} s t) =
      let f = found (rule-r d d' at (Ok b) s) in
      let n : Within (length (blocks d')) rest = rw f.same near.1 in
      first_done (read at) (rw f.same at (seen f.on n t))
  seen on near (write_on {d} {d'} {e} {at} {bytes} {rest} {r} s t) =
      let w = wrote (rule-w d d' at bytes (Ok tt) s) in
      let n : Within (length (blocks d')) rest = rw (w.blocks, length-set) near.1 in
      first_done (write at bytes) (rw w.blocks at (seen w.on n t))
  seen on near (read_fails {d} {e} {at} {rest} {f} s) = read_cut rest on near.0 (rule-r d e at (Err f) s)
  seen on near (write_fails {d} {e} {at} {bytes} {rest} {f} s) = write_cut rest on near.0 (rule-w d e at bytes (Err f) s)

  -- the number of blocks stays, whatever is asked
  pub length_carried : {d e : D} {accesses : List Access} {r : Result Unit DeviceFault} → Carried reads writes d accesses r e → length (blocks e) ≡ length (blocks d)
  length_carried all = refl
  length_carried (read_on {d} {d'} {e} {at} {b} s t) = length_carried t ∙ length_read (rule-r d d' at (Ok b) s)
  length_carried (write_on {d} {d'} {e} {at} {bytes} s t) = length_carried t ∙ length_write (rule-w d d' at bytes (Ok tt) s)
  length_carried (read_fails {d} {e} {at} {rest} {f} s) = length_read (rule-r d e at (Err f) s)
  length_carried (write_fails {d} {e} {at} {bytes} {rest} {f} s) = length_write (rule-w d e at bytes (Err f) s)

-- with power off the first access is refused, and the device is equal
module _ {D : Type 0} {blocks : D → List Block} {powered : D → Bool} {reads : D → ℕ → Result Block DeviceFault → D → Type 0} {writes : D → ℕ → List ℕ → Result Unit DeviceFault → D → Type 0}
    (rule-r : (d e : D) (at : ℕ) (r : Result Block DeviceFault) → reads d at r e → ReadAnswer (blocks d) (powered d) at r (blocks e) (powered e))
    (rule-w : (d e : D) (at : ℕ) (bytes : List ℕ) (r : Result Unit DeviceFault) → writes d at bytes r e → WriteAnswer (blocks d) (powered d) at bytes r (blocks e) (powered e))
    (same-r : (d e : D) (at : ℕ) → reads d at (Err Refused) e → e ≡ d)
    (same_w : (d e : D) (at : ℕ) (bytes : List ℕ) → writes d at bytes (Err Refused) e → e ≡ d) where
  pub off_read : {d e : D} {at : ℕ} {r : Result Block DeviceFault} → powered d ≡ false → reads d at r e → (r ≡ Err Refused) × (e ≡ d)
  off_read {d} {e} {at} {r} off s =
      let i = off_answer off (rule-r d e at r s) in (i, same-r d e at (rw i at s))

  pub off_write : {d e : D} {at : ℕ} {bytes : List ℕ} {r : Result Unit DeviceFault} → powered d ≡ false → writes d at bytes r e → (r ≡ Err Refused) × (e ≡ d)
  off_write {d} {e} {at} {bytes} {r} off s =
      let i = off_writes off (rule-w d e at bytes r s) in (i, same_w d e at bytes (rw i at s))

  pub off_carried : {d e : D} {a : Access} {rest : List Access} {r : Result Unit DeviceFault} → powered d ≡ false → Carried reads writes d (a ∷ rest) r e → (r ≡ Err Refused) × (e ≡ d)
  off_carried off (read_on s t) = absurd (ok_is_err (off_read off s).0)
  off_carried off (write_on s t) = absurd (ok_is_err (off_write off s).0)
  off_carried off (read_fails s) = let i = off_read off s in (ap Err (err_is i.0), i.1)
  off_carried off (write_fails s) = let i = off_write off s in (ap Err (err_is i.0), i.1)
