use Rattle.std.proofs.Common.{◌≡◌, ℕ, ◌-◌, ◌*◌, ◌≤◌, List, [], ◌∷◌, ◌++◌, length, take, drop, sym, refl, ap, ◌∙◌, arith}
use Rattle.std.proofs.lemmas.List.{append-nil, take_at, drop_at, take_all}
use Rattle.std.specs.Simd.{first_chunks}
use Rattle.config.specs.Configs.{used}
use Rattle.config.specs.Images.{image}
use Rattle.config.proofs.Places.{used_few}
use Rattle.config.specs.declared.entry.Entry.{Entry}
use Rattle.journal.specs.Layout.{Pages, zeros, entry_pages, home_pages}
use Rattle.journal.proofs.Pages.{flat, FullPages, entries_full, length_entries, image_flat}
use Rattle.journal.proofs.Steps.{first_byte}
use Rattle.store.proofs.pages.pages.Goals as goal

-- blocks in a row, cut into blocks again
cut : (ps : Pages) → FullPages ps → first_chunks 32 (length ps) (flat ps) ≡ ps
cut [] f = refl
cut (p ∷ ps) f =
    ap (λ (l : List ℕ). l ∷ first_chunks 32 (length ps) (drop 32 (p ++ flat ps))) (take_at p (flat ps) 32 f.0)
    ∙ ap (λ (l : List ℕ). p ∷ first_chunks 32 (length ps) l) (drop_at p (flat ps) 32 f.0)
    ∙ ap (λ (l : Pages). p ∷ l) (cut ps f.1)

-- the blocks of entries out of an image and zeros
entry_blocks : (es : List Entry) (bytes : List ℕ) (n : ℕ) → length es ≤ 48 → length bytes ≡ 769 → bytes ≡ image es ++ zeros (768 - 16 * length es) → n ≡ 24 → first_chunks 32 n (take 768 (drop 1 bytes)) ≡ entry_pages 24 es
entry_blocks es bytes n few long e is =
    let ps = entry_pages 24 es in
    let whole : bytes ≡ length es ∷ flat ps = e ∙ sym (image_flat es few) in
    let size : length (flat ps) ≤ 768 = omega (arith, ap length whole) in
    let count : n ≡ length ps = is ∙ sym (length_entries 24 es) in
    ap (λ (k : ℕ). first_chunks 32 k (take 768 (drop 1 bytes))) count
    ∙ ap (λ (l : List ℕ). first_chunks 32 (length ps) (take 768 (drop 1 l))) whole
    ∙ ap (first_chunks 32 (length ps)) (take_all 768 (flat ps) size)
    ∙ cut ps (entries_full 24 es)

pub returns : goal.returns
unfolding home_pages
returns c =
    let es = used c.args.config.now in
    let bytes = c.image_of-bytes.result in
    let few = used_few c.args.config.now in
    let count = first_byte es bytes few c.image_of-bytes.ensures in
    let size = sym c.as_chunks.ensures.front_len ∙ ap length (sym c.copy_from_slice.ensures.after) ∙ c.copy_from_slice.ensures.len in
    let blocks = c.copy_from_slice.ensures.after ∙ c.as_chunks.ensures.front ∙ entry_blocks es bytes _ few (omega arith) c.image_of-bytes.ensures size in
    ap (λ (p : List ℕ). p ∷ (c.copy_from_slice.new.self ++ [])) (c.first_page-pages.ensures ∙ ap (λ (n : ℕ). 1 ∷ (n ∷ zeros 30)) count)
    ∙ ap (λ (l : Pages). (1 ∷ (length es ∷ zeros 30)) ∷ l) (append-nil c.copy_from_slice.new.self ∙ blocks)
