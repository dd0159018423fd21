-- For code over home blocks, headers and plans: what one turn of a loop adds.
use Rattle.std.proofs.Common.{◌≡◌, ℕ, zero, suc, ◌+◌, ◌-◌, ◌*◌, ◌<◌, ◌≤◌, Bool, true, false, cond, ◌&&◌, ltb, leb, List, [], ◌∷◌, ◌++◌, map, length, get_or, take, drop, set, Some, None, Ok, Err, Option, Result, sym, refl, ap, ◌∙◌, arith, length-drop, take-append-drop, get_or-drop}
use Rattle.std.proofs.lemmas.List.{append_assoc, drop_more, take_more, take_all, take_at, take-take, take_more_set, flat_map_more}
use Rattle.std.proofs.lemmas.Bool.{and_parts, leb-true, ltb-true}
use Rattle.std.specs.Str.{bytes_eq}
use borrow.Rule.Slice.PartMut.{put_mid}
use Rattle.std.proofs.lemmas.Slice.{take-put_mid}
use Rattle.config.specs.declared.entry.Entry.{Entry}
use Rattle.config.specs.Images.{image}
use Rattle.device.specs.declared.Block.{Block}
use Rattle.device.specs.declared.Block.TheVariants.{Good, Damaged}
use Rattle.device.specs.Accesses.{read, write}
use Rattle.journal.specs.Layout.{Pages, zeros, header_of, rising, entry_pages, home_pages, parse}
use Rattle.journal.specs.Plans.{Write, as_writes, run_from, changes, targets, pages, records, header_write, closed, journalled, empty_header}
use Rattle.journal.specs.Restart.{homes, paired, with_first, read_run, unless_damaged, reads_until}
use Rattle.journal.proofs.Plan.{written_out, as_writes_append}
use Rattle.journal.proofs.Frame.{Rises, written_out_both}
use Rattle.journal.proofs.Repair.{homes_set}
use Rattle.journal.proofs.Found.{rises_rising, parse_whole, parse_rising, few}
use Rattle.journal.proofs.Commit.{changes_rise}
use Rattle.journal.proofs.Pages.{flat, flat_page, image_flat, entries_full, length_entries}

-- ---- home blocks out of an image
pub drop_zeros : (n m : ℕ) → n ≤ m → drop n (zeros m) ≡ zeros (m - n)
drop_zeros zero m h = let e : m ≡ m - 0 = omega arith in ap zeros e
drop_zeros (suc n) zero h = absurd (omega arith)
drop_zeros (suc n) (suc m) h = let e : m - n ≡ suc m - suc n = omega arith in drop_zeros n m (omega arith) ∙ ap zeros e

-- an image in front of 769 zero bytes
pub padded : (es : List Entry) (n : ℕ) (out : List ℕ) → length es ≤ 48 → n ≡ 1 + 16 * length es → out ≡ image es ++ drop n (zeros 769) → out ≡ image es ++ zeros (768 - 16 * length es)
padded es n out few is e =
    let rest : 769 - n ≡ 768 - 16 * length es = omega arith in
    e ∙ ap (λ (l : List ℕ). image es ++ l) (drop_zeros n 769 (omega arith) ∙ ap zeros rest)

pub page_at : (es : List Entry) (bytes : List ℕ) (j : ℕ) → length es ≤ 48 → bytes ≡ image es ++ zeros (768 - 16 * length es) → 1 ≤ j → j < 25 → take 32 (drop (32 * j - 31) bytes) ≡ get_or (home_pages es) j []
unfolding home_pages
page_at es bytes zero few e low high = absurd (omega arith)
page_at es bytes (suc j) few e low high =
    let at : 32 * suc j - 31 ≡ suc (32 * j) = omega arith in
    let whole : bytes ≡ length es ∷ flat (entry_pages 24 es) = e ∙ sym (image_flat es few) in
    ap (λ (k : ℕ). take 32 (drop k bytes)) at
    ∙ ap (λ (l : List ℕ). take 32 (drop (suc (32 * j)) l)) whole
    ∙ flat_page (entry_pages 24 es) j (entries_full 24 es) (omega (arith, length_entries 24 es))

pub first_byte : (es : List Entry) (bytes : List ℕ) → length es ≤ 48 → bytes ≡ image es ++ zeros (768 - 16 * length es) → get_or bytes 0 0 ≡ length es
first_byte es bytes few e = ap (λ (l : List ℕ). get_or l 0 0) (e ∙ sym (image_flat es few))

pub first_page : (es : List Entry) → get_or (home_pages es) 0 [] ≡ 1 ∷ (length es ∷ zeros 30)
unfolding home_pages
first_page es = refl

-- ---- the changed home blocks
pub changes_left : (n i : ℕ) (old new : Pages) → i < length old → i < length new → changes (n + i) (drop i old) (drop i new) ≡ cond (bytes_eq (get_or old i []) (get_or new i [])) (changes (n + (i + 1)) (drop (i + 1) old) (drop (i + 1) new)) ((n + i, get_or new i []) ∷ changes (n + (i + 1)) (drop (i + 1) old) (drop (i + 1) new))
changes_left n i old new h k =
    let on : (n + i) + 1 ≡ n + (i + 1) = omega arith in
    ap (λ (l : Pages). changes (n + i) l (drop i new)) (drop_more old i [] h)
    ∙ ap (λ (l : Pages). changes (n + i) (get_or old i [] ∷ drop (i + 1) old) l) (drop_more new i [] k)
    ∙ ap (λ (m : ℕ). cond (bytes_eq (get_or old i []) (get_or new i [])) (changes m (drop (i + 1) old) (drop (i + 1) new)) ((n + i, get_or new i []) ∷ changes m (drop (i + 1) old) (drop (i + 1) new))) on

-- the targets listed so far, with those that are left, are all targets
abbrev pub Listing : ℕ → Pages → Pages → List ℕ → Type 0
Listing i old new got = got ++ targets (changes (26 + i) (drop i old) (drop i new)) ≡ targets (changes 26 old new)

pub listing_none : (old new : Pages) → Listing 0 old new []
listing_none old new = refl

module _ (i : ℕ) (old new : Pages) (got : List ℕ) (h : i < length old) (k : i < length new) (so_far : Listing i old new got) where
  abbrev rest : List Write
  rest = changes (26 + (i + 1)) (drop (i + 1) old) (drop (i + 1) new)

  abbrev by_test : Bool → List Write
  by_test b = cond b rest ((26 + i, get_or new i []) ∷ rest)

  pub listing_same : bytes_eq (get_or old i []) (get_or new i []) ≡ true → Listing (i + 1) old new got
  listing_same e = ap (λ (ws : List Write). got ++ targets ws) (sym (changes_left 26 i old new h k ∙ ap by_test e)) ∙ so_far

  pub listing_more : bytes_eq (get_or old i []) (get_or new i []) ≡ false → Listing (i + 1) old new (got ++ (26 + i) ∷ [])
  listing_more e =
      append_assoc got ((26 + i) ∷ []) (targets rest)
      ∙ ap (λ (ws : List Write). got ++ targets ws) (sym (changes_left 26 i old new h k ∙ ap by_test e)) ∙ so_far

append_none : (xs : List ℕ) → xs ++ [] ≡ xs
append_none [] = refl
append_none (x ∷ xs) = ap (λ (l : List ℕ). x ∷ l) (append_none xs)

none_left : (n : ℕ) (old new : Pages) → length old ≡ 0 → changes n old new ≡ []
none_left n [] new e = refl
none_left n (o ∷ os) new e = absurd (omega arith)

pub listing_all : (i : ℕ) (old new : Pages) (got : List ℕ) → i ≡ length old → Listing i old new got → got ≡ targets (changes 26 old new)
listing_all i old new got e l =
    sym (append_none got)
    ∙ ap (λ (ws : List Write). got ++ targets ws) (sym (none_left (26 + i) (drop i old) (drop i new) (omega (arith, length-drop i old))))
    ∙ l

-- the targets rise
pub changes_rising : (old new : Pages) → length old ≡ 25 → rising 26 (targets (changes 26 old new)) ≡ true
changes_rising old new e = rises_rising 26 (changes 26 old new) (changes_rise 26 51 old new (omega arith))

-- each target is a home block
pub target_home : (lo i : ℕ) (ts : List ℕ) → rising lo ts ≡ true → i < length ts → (lo ≤ get_or ts i 0) × (get_or ts i 0 < 51)
target_home lo i [] r h = absurd (omega arith)
target_home lo zero (t ∷ ts) r h =
    let p = and_parts (leb lo t) (ltb t 51 && rising (t + 1) ts) r in
    let q = and_parts (ltb t 51) (rising (t + 1) ts) p.1 in
    (leb-true lo t p.0, ltb-true t 51 q.0)
target_home lo (suc i) (t ∷ ts) r h =
    let p = and_parts (leb lo t) (ltb t 51 && rising (t + 1) ts) r in
    let q = and_parts (ltb t 51) (rising (t + 1) ts) p.1 in
    let low : lo ≤ t = leb-true lo t p.0 in
    let more = target_home (t + 1) i ts q.1 (omega arith) in
    (omega (arith, more.0), more.1)

-- ---- a run of writes, and writes home
pub run_left : (first i : ℕ) (rows : Pages) → i < length rows → as_writes (run_from (first + i) (drop i rows)) ≡ write (first + i) (get_or rows i []) ∷ as_writes (run_from (first + (i + 1)) (drop (i + 1) rows))
run_left first i rows h =
    let on : (first + i) + 1 ≡ first + (i + 1) = omega arith in
    ap (λ (l : Pages). as_writes (run_from (first + i) l)) (drop_more rows i [] h)
    ∙ ap (λ (m : ℕ). write (first + i) (get_or rows i []) ∷ as_writes (run_from m (drop (i + 1) rows))) on

pub run_none : (first i : ℕ) (rows : Pages) → i ≡ length rows → as_writes (run_from (first + i) (drop i rows)) ≡ []
run_none first i rows e = go (drop i rows) (omega (arith, length-drop i rows))
  where
    go : (l : Pages) → length l ≡ 0 → as_writes (run_from (first + i) l) ≡ []
    go [] z = refl
    go (x ∷ xs) z = absurd (omega arith)

pub paired_left : (i : ℕ) (ts : List ℕ) (rs : Pages) → i < length ts → i < length rs → as_writes (paired (drop i ts) (drop i rs)) ≡ write (get_or ts i 0) (get_or rs i []) ∷ as_writes (paired (drop (i + 1) ts) (drop (i + 1) rs))
paired_left i ts rs h k =
    ap (λ (l : List ℕ). as_writes (paired l (drop i rs))) (drop_more ts i 0 h)
    ∙ ap (λ (l : Pages). as_writes (paired (get_or ts i 0 ∷ drop (i + 1) ts) l)) (drop_more rs i [] k)

pub paired_none : (i : ℕ) (ts : List ℕ) (rs : Pages) → i ≡ length ts → as_writes (paired (drop i ts) (drop i rs)) ≡ []
paired_none i ts rs e = go (drop i ts) (omega (arith, length-drop i ts))
  where
    go : (l : List ℕ) → length l ≡ 0 → as_writes (paired l (drop i rs)) ≡ []
    go [] z = refl
    go (x ∷ xs) z = absurd (omega arith)

-- ---- headers
pub header_whole : (c : ℕ) (ts bytes : List ℕ) → length ts ≡ c → take (c + 1) bytes ≡ c ∷ ts → drop (c + 1) bytes ≡ zeros (31 - c) → bytes ≡ header_of ts
header_whole c ts bytes size front back =
    sym (take-append-drop (c + 1) bytes)
    ∙ ap (λ (l : List ℕ). l ++ drop (c + 1) bytes) front
    ∙ ap (λ (l : List ℕ). c ∷ (ts ++ l)) back
    ∙ ap (λ (k : ℕ). k ∷ (ts ++ zeros (31 - k))) (sym size)

-- one byte more of the test whether blocks rise
pub rising_left : (least i : ℕ) (bs : List ℕ) → i < length bs → rising least (drop i bs) ≡ (leb least (get_or bs i 0) && (ltb (get_or bs i 0) 51 && rising (get_or bs i 0 + 1) (drop (i + 1) bs)))
rising_left least i bs h = ap (rising least) (drop_more bs i 0 h)

pub rising_none : (least i : ℕ) (bs : List ℕ) → i ≡ length bs → rising least (drop i bs) ≡ true
rising_none least i bs e = go (drop i bs) (omega (arith, length-drop i bs))
  where
    go : (l : List ℕ) → length l ≡ 0 → rising least l ≡ true
    go [] z = refl
    go (x ∷ xs) z = absurd (omega arith)

-- what a header names stands in its first places
pub parsed_places : (h ts : List ℕ) → parse h ≡ Some ts → (length ts ≤ 25) × (get_or h 0 0 ≡ length ts) × (take (get_or h 0 0) (take 25 (drop 1 h)) ≡ ts)
parsed_places h ts e =
    let is : h ≡ header_of ts = parse_whole h ts e in
    let short : 26 + length ts ≤ 51 = few 26 ts (omega arith) (parse_rising h ts e) in
    let count : get_or h 0 0 ≡ length ts = ap (λ (l : List ℕ). get_or l 0 0) is in (
      omega arith,
      count,
      ap (λ (l : List ℕ). take (get_or h 0 0) (take 25 (drop 1 l))) is
          ∙ ap (λ (k : ℕ). take k (take 25 (ts ++ zeros (31 - length ts)))) count
          ∙ take-take (length ts) 25 (ts ++ zeros (31 - length ts)) (omega arith)
          ∙ take_at ts (zeros (31 - length ts)) (length ts) refl,
    )

none_or : (o : Option (List ℕ)) → ((ts : List ℕ) → o ≡ Some ts → ⊥) → o ≡ None
none_or None no_target = refl
none_or (Some ts) no_target = absurd (no_target ts refl)

-- bytes that are no header's
pub parse_none : (h : List ℕ) → ((ts : List ℕ) → parse h ≡ Some ts → ⊥) → parse h ≡ None
parse_none h no_target = none_or (parse h) no_target

-- ---- reading a run of blocks
pub reads_left : (bs : List Block) (first i n : ℕ) → i < n → reads_until bs (first + i) (n - i) ≡ read (first + i) ∷ unless_damaged (get_or bs (first + i) Damaged) (reads_until bs (first + (i + 1)) (n - (i + 1)))
unfolding reads_until
reads_left bs first i n h =
    let more : n - i ≡ suc (n - (i + 1)) = omega arith in
    let on : (first + i) + 1 ≡ first + (i + 1) = omega arith in
    ap (reads_until bs (first + i)) more
    ∙ ap (λ (k : ℕ). read (first + i) ∷ unless_damaged (get_or bs (first + i) Damaged) (reads_until bs k (n - (i + 1)))) on

pub no_reads_left : (bs : List Block) (first i n : ℕ) → i ≡ n → reads_until bs (first + i) (n - i) ≡ []
unfolding reads_until
no_reads_left bs first i n e = let none : n - i ≡ 0 = omega arith in ap (reads_until bs (first + i)) none

-- blocks that were read, in front of what the others give
abbrev pub with_front : Pages → Result Pages ℕ → Result Pages ℕ
with_front ps (Ok qs) = Ok (ps ++ qs)
with_front ps (Err k) = Err k

front_more : (at : ℕ) (ps : Pages) (x : List ℕ) (r : Result Pages ℕ) → with_front ps (with_first at (Good x) r) ≡ with_front (ps ++ x ∷ []) r
front_more at ps x (Ok qs) = ap Ok (sym (append_assoc ps (x ∷ []) qs))
front_more at ps x (Err k) = refl

-- what blocks from a first one on give, by the rows that were read and what is left
abbrev pub Reading : List Block → ℕ → ℕ → ℕ → Pages → Type 0
Reading bs first n i rows = read_run bs first n ≡ with_front (take i rows) (read_run bs (first + i) (n - i))

no_front : (r : Result Pages ℕ) → r ≡ with_front [] r
no_front (Ok ps) = refl
no_front (Err k) = refl

pub reading_none : (bs : List Block) (first n : ℕ) (rows : Pages) → Reading bs first n 0 rows
reading_none bs first n rows =
    let here : first ≡ first + 0 = omega arith in
    let all : n ≡ n - 0 = omega arith in
    no_front (read_run bs first n) ∙ ap (λ (k : ℕ). with_front [] (read_run bs k n)) here ∙ ap (λ (k : ℕ). with_front [] (read_run bs (first + 0) k)) all

module _ (bs : List Block) (first n i : ℕ) (rows : Pages) (h : i < n) (so_far : Reading bs first n i rows) where
  one_more : read_run bs (first + i) (n - i) ≡ with_first (first + i) (get_or bs (first + i) Damaged) (read_run bs (first + (i + 1)) (n - (i + 1)))
  unfolding read_run
  one_more =
      let more : n - i ≡ suc (n - (i + 1)) = omega arith in
      let on : (first + i) + 1 ≡ first + (i + 1) = omega arith in
      ap (read_run bs (first + i)) more
      ∙ ap (λ (k : ℕ). with_first (first + i) (get_or bs (first + i) Damaged) (read_run bs k (n - (i + 1)))) on

  pub reading_more : (x : List ℕ) → i < length rows → Good x ≡ get_or bs (first + i) Damaged → Reading bs first n (i + 1) (set rows i x)
  reading_more x room e =
      so_far
      ∙ ap (with_front (take i rows)) (one_more ∙ ap (λ (b : Block). with_first (first + i) b (read_run bs (first + (i + 1)) (n - (i + 1)))) (sym e))
      ∙ front_more (first + i) (take i rows) x (read_run bs (first + (i + 1)) (n - (i + 1)))
      ∙ ap (λ (ps : Pages). with_front ps (read_run bs (first + (i + 1)) (n - (i + 1)))) (sym (take_more_set rows i x room))

  pub reading_fault : Damaged ≡ get_or bs (first + i) Damaged → read_run bs first n ≡ Err (first + i)
  reading_fault e =
      so_far
      ∙ ap (with_front (take i rows)) (one_more ∙ ap (λ (b : Block). with_first (first + i) b (read_run bs (first + (i + 1)) (n - (i + 1)))) (sym e))

append_nothing : (ps : Pages) → ps ++ [] ≡ ps
append_nothing [] = refl
append_nothing (p ∷ ps) = ap (λ (l : Pages). p ∷ l) (append_nothing ps)

pub reading_all : (bs : List Block) (first n i : ℕ) (rows : Pages) → i ≡ n → length rows ≡ n → Reading bs first n i rows → read_run bs first n ≡ Ok rows
unfolding read_run
reading_all bs first n i rows e long so_far =
    let none : n - i ≡ 0 = omega arith in
    so_far
    ∙ ap (λ (k : ℕ). with_front (take i rows) (read_run bs (first + i) k)) none
    ∙ ap Ok (append_nothing (take i rows) ∙ take_all i rows (omega arith))

-- ---- bytes of blocks in a row
flat_more : (ps : Pages) (j : ℕ) → j < length ps → flat (take (j + 1) ps) ≡ flat (take j ps) ++ get_or ps j []
flat_more ps j h = ap flat (take_more ps j [] h) ∙ sym (flat_map_more (λ (p : List ℕ). p) [] (take j ps) (get_or ps j []))

-- the count and the first entry blocks stand in the front of some bytes
abbrev pub Gathered : ℕ → Pages → List ℕ → Type 0
Gathered j ps bytes = take (32 * j - 31) bytes ≡ get_or (get_or ps 0 []) 1 0 ∷ flat (take (j - 1) (drop 1 ps))

pub gathered_more : (j : ℕ) (ps : Pages) (bytes : List ℕ) → 1 ≤ j → j < 25 → length ps ≡ 25 → length bytes ≡ 769 → length (get_or ps j []) ≡ 32 → Gathered j ps bytes → Gathered (j + 1) ps (put_mid (32 * j - 31) (32 * j + 1 - (32 * j - 31)) bytes (get_or ps j []))
gathered_more j ps bytes low high long size page g =
    let at = 32 * j - 31 in
    let k = 32 * j + 1 - at in
    let next : 32 * (j + 1) - 31 ≡ at + length (get_or ps j []) = omega arith in
    let back : (j - 1) + 1 ≡ (j + 1) - 1 = omega arith in
    let here : get_or (drop 1 ps) (j - 1) [] ≡ get_or ps j [] = get_or-drop 1 ps (j - 1) [] ∙ ap (λ (m : ℕ). get_or ps m []) (one_back j low) in
    take-put_mid at k bytes (get_or ps j []) (32 * (j + 1) - 31) next (omega arith)
    ∙ ap (λ (l : List ℕ). l ++ get_or ps j []) g
    ∙ ap (λ (l : List ℕ). (get_or (get_or ps 0 []) 1 0 ∷ flat (take (j - 1) (drop 1 ps))) ++ l) (sym here)
    ∙ ap (λ (l : List ℕ). get_or (get_or ps 0 []) 1 0 ∷ l) (sym (flat_more (drop 1 ps) (j - 1) (omega (arith, length-drop 1 ps))))
    ∙ ap (λ (m : ℕ). get_or (get_or ps 0 []) 1 0 ∷ flat (take m (drop 1 ps))) back
  where
    one_back : (m : ℕ) → 1 ≤ m → 1 + (m - 1) ≡ m
    one_back m h = omega arith

-- ---- the rows of the targets
shifted : (n hi : ℕ) (x : List ℕ) (xs : Pages) (ws : List Write) → Rises (n + 1) hi ws → map (λ (t : ℕ). get_or xs (t - (n + 1)) []) (targets ws) ≡ map (λ (t : ℕ). get_or (x ∷ xs) (t - n) []) (targets ws)
shifted n hi x xs ws up = go (n + 1) ws (omega arith) up
  where
    go : (lo : ℕ) (vs : List Write) → n < lo → Rises lo hi vs → map (λ (t : ℕ). get_or xs (t - (n + 1)) []) (targets vs) ≡ map (λ (t : ℕ). get_or (x ∷ xs) (t - n) []) (targets vs)
    go lo [] h r = refl
    go lo (v ∷ vs) h r =
        let on : v.0 - n ≡ suc (v.0 - (n + 1)) = omega arith in
        let first : get_or xs (v.0 - (n + 1)) [] ≡ get_or (x ∷ xs) (v.0 - n) [] = sym (ap (λ (k : ℕ). get_or (x ∷ xs) k []) on) in
        let rest : map (λ (t : ℕ). get_or xs (t - (n + 1)) []) (targets vs) ≡ map (λ (t : ℕ). get_or (x ∷ xs) (t - n) []) (targets vs) = go (v.0 + 1) vs (omega arith) r.2 in
        ap (λ (l : List ℕ). l ∷ map (λ (t : ℕ). get_or xs (t - (n + 1)) []) (targets vs)) first ∙ ap (λ (l : Pages). get_or (x ∷ xs) (v.0 - n) [] ∷ l) rest

-- the new bytes of the changes are the new home blocks at their targets
pub changes_rows : (n : ℕ) (old new : Pages) → map (λ (t : ℕ). get_or new (t - n) []) (targets (changes n old new)) ≡ pages (changes n old new)
changes_rows n [] new = refl
changes_rows n (o ∷ os) [] = refl
changes_rows n (o ∷ os) (x ∷ xs) =
    let rest = changes (n + 1) os xs in
    let up : Rises (n + 1) ((n + 1) + length os) rest = changes_rise (n + 1) ((n + 1) + length os) os xs (omega arith) in
    let more : map (λ (t : ℕ). get_or (x ∷ xs) (t - n) []) (targets rest) ≡ pages rest = sym (shifted n ((n + 1) + length os) x xs rest up) ∙ changes_rows (n + 1) os xs in
    by_test n x xs (bytes_eq o x) rest more
  where
    by_test : (m : ℕ) (y : List ℕ) (ys : Pages) (b : Bool) (ws : List Write) → map (λ (t : ℕ). get_or (y ∷ ys) (t - m) []) (targets ws) ≡ pages ws → map (λ (t : ℕ). get_or (y ∷ ys) (t - m) []) (targets (cond b ws ((m, y) ∷ ws))) ≡ pages (cond b ws ((m, y) ∷ ws))
    by_test m y ys true ws e = e
    by_test m y ys false ws e =
        let here : m - m ≡ 0 = omega arith in
        ap (λ (k : ℕ). get_or (y ∷ ys) k [] ∷ map (λ (t : ℕ). get_or (y ∷ ys) (t - m) []) (targets ws)) here ∙ ap (λ (l : Pages). y ∷ l) e

-- targets and rows of pairs
pub paired_targets : (ts : List ℕ) (rows : Pages) → length rows ≡ length ts → targets (paired ts rows) ≡ ts
paired_targets [] rows e = refl
paired_targets (t ∷ ts) [] e = absurd (omega arith)
paired_targets (t ∷ ts) (p ∷ rows) e = ap (λ (l : List ℕ). t ∷ l) (paired_targets ts rows (omega arith))

pub paired_pages : (ts : List ℕ) (rows : Pages) → length rows ≡ length ts → pages (paired ts rows) ≡ rows
paired_pages [] [] e = refl
paired_pages [] (p ∷ rows) e = absurd (omega arith)
paired_pages (t ∷ ts) [] e = absurd (omega arith)
paired_pages (t ∷ ts) (p ∷ rows) e = ap (λ (l : Pages). p ∷ l) (paired_pages ts rows (omega arith))

-- the writes of a commit, part by part
pub journalled_parts : (ts : List ℕ) (rows : Pages) → 0 < length ts → length rows ≡ length ts → as_writes (journalled (paired ts rows)) ≡ as_writes (run_from 1 rows) ++ (write 0 (header_of ts) ∷ as_writes (closed (paired ts rows)))
journalled_parts [] rows h e = absurd (omega arith)
journalled_parts (t ∷ ts) [] h e = absurd (omega arith)
journalled_parts (t ∷ ts) (p ∷ rows) h e =
    let ws = paired (t ∷ ts) (p ∷ rows) in
    as_writes_append (records ws) (header_write ws ∷ closed ws)
    ∙ ap (λ (l : Pages). as_writes (run_from 1 l) ++ (write 0 (header_of (targets ws)) ∷ as_writes (closed ws))) (paired_pages (t ∷ ts) (p ∷ rows) e)
    ∙ ap (λ (l : List ℕ). as_writes (run_from 1 (p ∷ rows)) ++ (write 0 (header_of l) ∷ as_writes (closed ws))) (paired_targets (t ∷ ts) (p ∷ rows) e)

-- the home blocks are read behind the writes home
pub closed_homes : (bs : List Block) (ws : List Write) → homes (written_out (closed ws) bs) ≡ homes (written_out ws bs)
closed_homes bs [] = refl
closed_homes bs (w ∷ ws) =
    ap homes (written_out_both (w ∷ ws) (empty_header ∷ []) bs) ∙ homes_set (written_out (w ∷ ws) bs) (Good (header_of []))
