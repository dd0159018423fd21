-- The home blocks of a configuration, and the bytes of its image in them.
use Rattle.std.proofs.Common.{◌≡◌, ℕ, zero, suc, ◌+◌, ◌-◌, ◌*◌, ◌<◌, ◌≤◌, List, [], ◌∷◌, ◌++◌, length, get_or, take, drop, sym, refl, ap, ◌∙◌, arith}
use lib.ListN.{replicate-append-replicate}
use Rattle.std.specs.List.{flat_map}
use Rattle.std.proofs.lemmas.List.{take_at, drop_at, drop-drop}
use Rattle.encoding.specs.Counts.{counted}
use Rattle.config.specs.declared.entry.Entry.{Entry}
use Rattle.config.specs.Images.{image}
use Rattle.config.proofs.Images.{image_same, length_image}
use Rattle.journal.specs.Layout.{Pages, zeros, entry_bytes, entry_pages, home_pages}
use Rattle.journal.specs.Laws.{HomesDecide}

-- the bytes of some blocks in a row
abbrev pub flat : Pages → List ℕ
flat ps = flat_map (λ (p : List ℕ). p) ps

-- every block has 32 bytes
abbrev pub FullPages : Pages → Type 0
FullPages [] = Unit {0}
FullPages (p ∷ ps) = (length p ≡ 32) × FullPages ps

pub full_page : (ps : Pages) (i : ℕ) → FullPages ps → i < length ps → length (get_or ps i []) ≡ 32
full_page [] i f h = absurd (omega arith)
full_page (p ∷ ps) zero f h = f.0
full_page (p ∷ ps) (suc i) f h = full_page ps i f.1 (omega arith)

pub entries_full : (n : ℕ) (es : List Entry) → FullPages (entry_pages n es)
entries_full zero es = tt
entries_full (suc n) [] = (refl, entries_full n [])
entries_full (suc n) (a ∷ []) = (refl, entries_full n [])
entries_full (suc n) (a ∷ (b ∷ rest)) = (refl, entries_full n rest)

pub length_entries : (n : ℕ) (es : List Entry) → length (entry_pages n es) ≡ n
length_entries zero es = refl
length_entries (suc n) [] = ap suc (length_entries n [])
length_entries (suc n) (a ∷ []) = ap suc (length_entries n [])
length_entries (suc n) (a ∷ (b ∷ rest)) = ap suc (length_entries n rest)

pub length_homes : (es : List Entry) → length (home_pages es) ≡ 25
unfolding home_pages
length_homes es = ap suc (length_entries 24 es)

pub homes_full : (es : List Entry) → FullPages (home_pages es)
unfolding home_pages
homes_full es = (refl, entries_full 24 es)

-- blocks of entries in a row are the entries in a row, and then zeros
flat_entries : (n : ℕ) (es : List Entry) → length es ≤ 2 * n → flat (entry_pages n es) ≡ flat_map entry_bytes es ++ zeros (32 * n - 16 * length es)
flat_entries zero [] h = refl
flat_entries zero (e ∷ es) h = absurd (omega arith)
flat_entries (suc n) [] h =
    let more : 32 + (32 * n - 16 * 0) ≡ 32 * suc n - 16 * 0 = omega arith in
    ap (λ (l : List ℕ). zeros 32 ++ l) (flat_entries n [] (omega arith)) ∙ replicate-append-replicate 32 (32 * n - 16 * 0) 0 ∙ ap zeros more
flat_entries (suc n) (a ∷ []) h =
    let more : 16 + (32 * n - 16 * 0) ≡ 32 * suc n - 16 * 1 = omega arith in
    ap (λ (l : List ℕ). (entry_bytes a ++ zeros 16) ++ l) (flat_entries n [] (omega arith))
    ∙ ap (λ (l : List ℕ). entry_bytes a ++ l) (replicate-append-replicate 16 (32 * n - 16 * 0) 0 ∙ ap zeros more)
flat_entries (suc n) (a ∷ (b ∷ rest)) h =
    let more : 32 * n - 16 * length rest ≡ 32 * suc n - 16 * suc (suc (length rest)) = omega arith in
    ap (λ (l : List ℕ). (entry_bytes a ++ entry_bytes b) ++ l) (flat_entries n rest (omega arith))
    ∙ ap (λ (k : ℕ). entry_bytes a ++ (entry_bytes b ++ (flat_map entry_bytes rest ++ zeros k))) more

-- the count and the blocks of entries in a row are the image, and then zeros
pub image_flat : (es : List Entry) → length es ≤ 48 → length es ∷ flat (entry_pages 24 es) ≡ image es ++ zeros (768 - 16 * length es)
unfolding counted
image_flat es h = ap (λ (l : List ℕ). length es ∷ l) (flat_entries 24 es (omega arith))

-- one block out of a row
pub flat_page : (ps : Pages) (j : ℕ) → FullPages ps → j < length ps → take 32 (drop (32 * j) (flat ps)) ≡ get_or ps j []
flat_page [] j f h = absurd (omega arith)
flat_page (p ∷ ps) zero f h = take_at p (flat ps) 32 f.0
flat_page (p ∷ ps) (suc j) f h =
    let on : 32 * suc j ≡ 32 + 32 * j = omega arith in
    ap (λ (k : ℕ). take 32 (drop k (p ++ flat ps))) on
    ∙ ap (take 32) (sym (drop-drop (32 * j) 32 (p ++ flat ps)))
    ∙ ap (λ (l : List ℕ). take 32 (drop (32 * j) l)) (drop_at p (flat ps) 32 f.0)
    ∙ flat_page ps j f.1 (omega arith)

-- the image out of home blocks
pub homes_image : (es : List Entry) → length es ≤ 48 → take (1 + 16 * length es) (get_or (get_or (home_pages es) 0 []) 1 0 ∷ flat (drop 1 (home_pages es))) ≡ image es
unfolding home_pages
homes_image es h =
    ap (take (1 + 16 * length es)) (image_flat es h) ∙ take_at (image es) (zeros (768 - 16 * length es)) (1 + 16 * length es) (length_image es)

pub homes_count : (es : List Entry) → get_or (get_or (home_pages es) 0 []) 1 0 ≡ length es
unfolding home_pages
homes_count es = refl

pub homes_same : (es fs : List Entry) → length es ≤ 48 → length fs ≤ 48 → home_pages es ≡ home_pages fs → es ≡ fs
homes_same es fs h k e =
    let count : length es ≡ length fs = sym (homes_count es) ∙ ap (λ (ps : Pages). get_or (get_or ps 0 []) 1 0) e ∙ homes_count fs in
    image_same es fs
    (sym (homes_image es h)
    ∙ ap (λ (ps : Pages). take (1 + 16 * length es) (get_or (get_or ps 0 []) 1 0 ∷ flat (drop 1 ps))) e
    ∙ ap (λ (n : ℕ). take (1 + 16 * n) (get_or (get_or (home_pages fs) 0 []) 1 0 ∷ flat (drop 1 (home_pages fs)))) count
    ∙ homes_image fs k)

pub homes_decide : HomesDecide
homes_decide ns es fs l m e = homes_same es fs l.few m.few e
