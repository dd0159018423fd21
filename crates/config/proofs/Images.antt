-- Images as counted lists of entries.
use Rattle.std.proofs.Common.{◌≡◌, ℕ, ◌+◌, ◌*◌, ◌<◌, Bool, true, false, suc, List, [], ◌∷◌, length, get_or, sym, refl, ap, ◌∙◌, subst, ⊎_elim, arith}
use Rattle.std.proofs.lemmas.Bool.{and_from, cases_Bool, false≢true}
use Rattle.std.specs.List.{IsAllAdjacentAnswer}
use Rattle.encoding.specs.declared.form.Form.{Form}
use Rattle.encoding.proofs.Lists.{counted_same, length_counted}
use Rattle.schema.specs.declared.path.Path.{Path}
use Rattle.config.specs.declared.entry.Entry.{Entry}
use Rattle.config.specs.Order.{entry_form, path_sooner, rising}
use Rattle.config.specs.Images.{image}
use Rattle.config.proofs.Order.{rises, same_path}

entry_made : Path → ℕ → Entry
entry_made p v = record { path = p; value = v }

pub entry_known : (e f : Entry) → entry_form e ≡ entry_form f → e ≡ f
unfolding entry_made
entry_known e f h =
    let p : e.path ≡ f.path = same_path e.path f.path (ap (λ (x : Form). x.a) h) (ap (λ (x : Form). x.k1) h) (ap (λ (x : Form). x.k2) h) in
    let v : e.value ≡ f.value = ap (λ (x : Form). x.value) h in
    let same : entry_made e.path e.value ≡ entry_made f.path f.value = cc in
    same

pub length_image : (es : List Entry) → length (image es) ≡ 1 + 16 * length es
length_image es = length_counted entry_form es

pub image_same : (es fs : List Entry) → image es ≡ image fs → es ≡ fs
image_same es fs h = counted_same entry_form entry_known es fs h

-- whether each path comes before the next one
all_rise : (es : List Entry) → ((k : ℕ) (d : Entry) → k + 1 < length es → true ≡ path_sooner (get_or es k d).path (get_or es (k + 1) d).path) → rising es ≡ true
all_rise [] h = refl
all_rise (e ∷ []) h = refl
all_rise (e ∷ (f ∷ rest)) h =
    and_from (path_sooner e.path f.path) (rising (f ∷ rest)) (sym (h 0 e (omega arith)))
    (all_rise (f ∷ rest) (λ k d l.
    let q : suc k + 1 ≡ suc (k + 1) = omega arith in
    subst (λ j. true ≡ path_sooner (get_or (f ∷ rest) k d).path (get_or (e ∷ (f ∷ rest)) j d).path) q (h (suc k) d (omega arith))))

pub rising_answer : (es : List Entry) (r : Bool) → IsAllAdjacentAnswer (λ x y b. b ≡ path_sooner x.path y.path) es r → r ≡ rising es
rising_answer es true h = sym (all_rise es h)
rising_answer es false h =
    ⊎_elim
    (λ (up : rising es ≡ true).
    let d : Entry = entry_made (record { node = 0; k1 = 0; k2 = 0 }) 0 in
    absurd (false≢true (h.2 d ∙ (rises es up).climbs h.0 (h.0 + 1) d (omega arith) h.1)))
    (λ (down : rising es ≡ false). sym down)
    (cases_Bool (rising es))
