-- A listing grows by a line.
use Rattle.std.specs.Prelude.{◌≡◌, ℕ, ◌+◌, ◌<◌, List, [], ◌∷◌, ◌++◌, length, take, slice_index_or}
use Rattle.std.proofs.Common.{ap, sym, refl, ◌∙◌, append_assoc, append-nil}
use Rattle.std.proofs.lemmas.List.{take_more}
use Rattle.config.specs.declared.entry.Entry.{Entry}
use Rattle.sample.specs.Listing.{line, listing}

both : (xs ys : List Entry) → listing (xs ++ ys) ≡ listing xs ++ listing ys
both [] ys = refl
both (x ∷ xs) ys =
    ap (λ (t : List ℕ). line x ++ t) (both xs ys) ∙ sym (append_assoc (line x) (listing xs) (listing ys))

pub one_more : (xs : List Entry) (i : ℕ) (d : Entry) → i < length xs → listing (take (i + 1) xs) ≡ listing (take i xs) ++ line (slice_index_or xs i d)
one_more xs i d h =
    ap listing (take_more xs i d h)
    ∙ both (take i xs) (slice_index_or xs i d ∷ [])
    ∙ ap (λ (t : List ℕ). listing (take i xs) ++ t) (append-nil (line (slice_index_or xs i d)))
