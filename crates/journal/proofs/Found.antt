-- What a restart reads, by the blocks that it looks at.
use Rattle.std.proofs.Common.{◌≡◌, ℕ, zero, suc, ◌+◌, ◌-◌, ◌<◌, ◌≤◌, Bool, true, false, cond, ◌&&◌, ltb, leb, ◌⊎◌, List, [], ◌∷◌, length, get_or, replicate, Some, None, Ok, Err, Option, Result, sym, refl, ap, ◌∙◌, subst, inl, inr, arith, length-append}
use lib.ListN.{length-replicate}
use lib.Seq.{take-append_seam}
use Rattle.std.proofs.lemmas.Bool.{leb-true, ltb-true, le-leb, lt-ltb, and_parts, and_from}
use Rattle.std.proofs.lemmas.Slice.Eq.{bytes_eq-Decides}
use Rattle.std.specs.Str.{bytes_eq}
use Rattle.device.specs.declared.Block.{Block}
use Rattle.device.specs.declared.Block.TheVariants.{Good, Damaged}
use Rattle.journal.specs.Layout.{Pages, header_of, rising, named, parse}
use Rattle.journal.specs.Plans.{Write, targets, pages}
use Rattle.journal.specs.Restart.{with_first, read_run, paired, with_records, by_targets, by_header, pending}
use Rattle.journal.proofs.Frame.{Rises}

-- a run of blocks that are good, with these bytes
abbrev pub Holds : List Block → ℕ → Pages → Type 0
Holds bs n [] = Unit {0}
Holds bs n (x ∷ xs) = (get_or bs n Damaged ≡ Good x) × Holds bs (n + 1) xs

pub holds_read : (bs : List Block) (n : ℕ) (xs : Pages) → Holds bs n xs → read_run bs n (length xs) ≡ Ok xs
unfolding read_run
holds_read bs n [] h = refl
holds_read bs n (x ∷ xs) h = rw (h.0, holds_read bs (n + 1) xs h.1)

parts : (at : ℕ) (b : Block) (r : Result Pages ℕ) (xs : Pages) → with_first at b r ≡ Ok xs → (x : List ℕ) × (rest : Pages) × (b ≡ Good x) × (r ≡ Ok rest) × (xs ≡ x ∷ rest)
parts at (Good b) (Ok bs) xs e = (b, bs, refl, refl, cc)
parts at (Good b) (Err k) xs e = absurd (let z : ◌≡◌ {A = ℕ} 0 1 = cc in omega arith)
parts at Damaged r xs e = absurd (let z : ◌≡◌ {A = ℕ} 0 1 = cc in omega arith)

pub read_holds : (bs : List Block) (n k : ℕ) (xs : Pages) → read_run bs n k ≡ Ok xs → Holds bs n xs × (length xs ≡ k)
unfolding read_run
read_holds bs n zero xs e =
    let none : [] ≡ xs = cc in
    subst (λ (l : Pages). Holds bs n l × (length l ≡ 0)) none (tt, refl)
read_holds bs n (suc k) xs e =
    let p = parts n (get_or bs n Damaged) (read_run bs (n + 1) k) xs e in
    let r = read_holds bs (n + 1) k p.1 p.3 in
    subst (λ (l : Pages). Holds bs n l × (length l ≡ suc k)) (sym p.4) ((p.2, r.0), ap suc r.1)

-- two devices that agree on a run of blocks read the same there
pub same_run : (bs bs' : List Block) (n k : ℕ) → ((i : ℕ) → n ≤ i → i < n + k → get_or bs i Damaged ≡ get_or bs' i Damaged) → read_run bs n k ≡ read_run bs' n k
unfolding read_run
same_run bs bs' n zero h = refl
same_run bs bs' n (suc k) h =
    let first : get_or bs n Damaged ≡ get_or bs' n Damaged = h n (omega arith) (omega arith) in
    let rest : read_run bs (n + 1) k ≡ read_run bs' (n + 1) k = same_run bs bs' (n + 1) k (λ i p q. h i (omega arith) (omega arith)) in
    rw (first, rest)

picked : (b : Bool) (x ts : List ℕ) → cond b (Some x) None ≡ Some ts → (b ≡ true) × (x ≡ ts)
picked true x ts e = (refl, cc)
picked false x ts e = absurd (let z : ◌≡◌ {A = ℕ} 0 1 = cc in omega arith)

-- what a header names are home blocks, strictly rising
pub parse_rising : (h ts : List ℕ) → parse h ≡ Some ts → rising 26 ts ≡ true
unfolding parse
parse_rising h ts e =
    let p = picked (rising 26 (named h) && bytes_eq h (header_of (named h))) (named h) ts e in
    rw p.1 at (and_parts (rising 26 (named h)) (bytes_eq h (header_of (named h))) p.0).0

-- and the bytes are the header of what they name
pub parse_whole : (h ts : List ℕ) → parse h ≡ Some ts → h ≡ header_of ts
unfolding parse
parse_whole h ts e =
    let p = picked (rising 26 (named h) && bytes_eq h (header_of (named h))) (named h) ts e in
    let q = and_parts (rising 26 (named h)) (bytes_eq h (header_of (named h))) p.0 in
    (bytes_eq-Decides h (header_of (named h))).0 q.1 ∙ ap header_of p.1

pub header_reads : (ts : List ℕ) → rising 26 ts ≡ true → parse (header_of ts) ≡ Some ts
unfolding parse
header_reads ts r =
    let seam : named (header_of ts) ≡ ts = take-append_seam ts (replicate (31 - length ts) 0) in
    let same : bytes_eq (header_of ts) (header_of ts) ≡ true = (bytes_eq-Decides (header_of ts) (header_of ts)).1 refl in
    let test : (rising 26 ts && bytes_eq (header_of ts) (header_of ts)) ≡ true = and_from (rising 26 ts) (bytes_eq (header_of ts) (header_of ts)) r same in
    subst (λ (l : List ℕ). cond (rising 26 l && bytes_eq (header_of ts) (header_of l)) (Some l) None ≡ Some ts) (sym seam)
    (subst (λ (b : Bool). cond b (Some ts) None ≡ Some ts) (sym test) refl)

-- a header has 32 bytes
pub header_length : (ts : List ℕ) → 26 + length ts ≤ 51 → length (header_of ts) ≡ 32
header_length ts h = omega (arith, length-append ts (replicate (31 - length ts) 0), length-replicate {A = ℕ} (31 - length ts) 0)

-- rising targets are few
pub few : (lo : ℕ) (ts : List ℕ) → lo ≤ 51 → rising lo ts ≡ true → lo + length ts ≤ 51
few lo [] h r = omega arith
few lo (t ∷ ts) h r =
    let p = and_parts (leb lo t) (ltb t 51 && rising (t + 1) ts) r in
    let q = and_parts (ltb t 51) (rising (t + 1) ts) p.1 in
    let from : lo ≤ t = leb-true lo t p.0 in
    let under : t < 51 = ltb-true t 51 q.0 in
    let rest : (t + 1) + length ts ≤ 51 = few (t + 1) ts (omega arith) q.1 in
    omega arith

pub paired_rises : (lo : ℕ) (ts : List ℕ) (rs : Pages) → rising lo ts ≡ true → Rises lo 51 (paired ts rs)
paired_rises lo [] rs r = tt
paired_rises lo (t ∷ ts) [] r = tt
paired_rises lo (t ∷ ts) (x ∷ rs) r =
    let p = and_parts (leb lo t) (ltb t 51 && rising (t + 1) ts) r in
    let q = and_parts (ltb t 51) (rising (t + 1) ts) p.1 in
    (leb-true lo t p.0, ltb-true t 51 q.0, paired_rises (t + 1) ts rs q.1)

pub rises_rising : (lo : ℕ) (ws : List Write) → Rises lo 51 ws → rising lo (targets ws) ≡ true
rises_rising lo [] r = refl
rises_rising lo (w ∷ ws) r =
    and_from (leb lo w.0) (ltb w.0 51 && rising (w.0 + 1) (targets ws)) (le-leb lo w.0 r.0)
    (and_from (ltb w.0 51) (rising (w.0 + 1) (targets ws)) (lt-ltb w.0 51 r.1) (rises_rising (w.0 + 1) ws r.2))

pub paired_parts : (ws : List Write) → paired (targets ws) (pages ws) ≡ ws
paired_parts [] = refl
paired_parts (w ∷ ws) = ap (λ (l : List Write). w ∷ l) (paired_parts ws)

-- the writes home that a restart finds go to home blocks, in rising order
module _ (bs : List Block) (ws : List Write) where
  by_records : (ts : List ℕ) (r : Result Pages ℕ) → rising 26 ts ≡ true → with_records ts r ≡ Ok ws → Rises 26 51 ws
  by_records ts (Err j) h e = absurd (let z : ◌≡◌ {A = ℕ} 0 1 = cc in omega arith)
  by_records ts (Ok rs) h e = let k : paired ts rs ≡ ws = cc in subst (Rises 26 51) k (paired_rises 26 ts rs h)

  from_parse : (h : List ℕ) (o : Option (List ℕ)) → parse h ≡ o → by_targets bs o ≡ Ok ws → Rises 26 51 ws
  from_parse h None p e = absurd (let z : ◌≡◌ {A = ℕ} 0 1 = cc in omega arith)
  from_parse h (Some ts) p e = by_records ts (read_run bs 1 (length ts)) (parse_rising h ts p) e

  from_header : (b : Block) → by_header bs b ≡ Ok ws → Rises 26 51 ws
  from_header Damaged e = let k : [] ≡ ws = cc in subst (Rises 26 51) k tt
  from_header (Good h) e = from_parse h (parse h) refl e

  pub pending_rises : pending bs ≡ Ok ws → Rises 26 51 ws
  pending_rises e = from_header (get_or bs 0 Damaged) e

-- a header that asks for nothing is damaged or empty
module _ (bs : List Block) where
  no_pair : (ts : List ℕ) (rs : Pages) → length rs ≡ length ts → paired ts rs ≡ [] → ts ≡ []
  no_pair [] rs l e = refl
  no_pair (t ∷ ts) [] l e = absurd (omega arith)
  no_pair (t ∷ ts) (r ∷ rs) l e = absurd (let z : ◌≡◌ {A = ℕ} 0 1 = cc in omega arith)

  no_record : (ts : List ℕ) (r : Result Pages ℕ) → read_run bs 1 (length ts) ≡ r → with_records ts r ≡ Ok [] → ts ≡ []
  no_record ts (Err j) k e = absurd (let z : ◌≡◌ {A = ℕ} 0 1 = cc in omega arith)
  no_record ts (Ok rs) k e =
      let n : paired ts rs ≡ [] = cc in
      no_pair ts rs (read_holds bs 1 (length ts) rs k).1 n

  no_target : (h : List ℕ) (o : Option (List ℕ)) → parse h ≡ o → by_targets bs o ≡ Ok [] → h ≡ header_of []
  no_target h None p e = absurd (let z : ◌≡◌ {A = ℕ} 0 1 = cc in omega arith)
  no_target h (Some ts) p e = parse_whole h ts p ∙ ap header_of (no_record ts (read_run bs 1 (length ts)) refl e)

  no_header : (b : Block) → by_header bs b ≡ Ok [] → (b ≡ Damaged) ⊎ (b ≡ Good (header_of []))
  no_header Damaged e = inl refl
  no_header (Good h) e = inr (ap Good (no_target h (parse h) refl e))

  pub pending_none : pending bs ≡ Ok [] → (get_or bs 0 Damaged ≡ Damaged) ⊎ (get_or bs 0 Damaged ≡ Good (header_of []))
  pending_none e = no_header (get_or bs 0 Damaged) e

-- a restart looks for writes only in the first 26 blocks
module _ (bs bs' : List Block) (same : (i : ℕ) → i < 26 → get_or bs i Damaged ≡ get_or bs' i Damaged) where
  same_targets : (h : List ℕ) (o : Option (List ℕ)) → parse h ≡ o → by_targets bs o ≡ by_targets bs' o
  same_targets h None p = refl
  same_targets h (Some ts) p =
      let short : 26 + length ts ≤ 51 = few 26 ts (omega arith) (parse_rising h ts p) in
      ap (with_records ts) (same_run bs bs' 1 (length ts) (λ i a b. same i (omega arith)))

  same_header : (b : Block) → by_header bs b ≡ by_header bs' b
  same_header Damaged = refl
  same_header (Good h) = same_targets h (parse h) refl

  pub same_pending : pending bs ≡ pending bs'
  same_pending = same_header (get_or bs 0 Damaged) ∙ ap (by_header bs') (same 0 (omega arith))
