-- Entries that are kept by their paths.
use Rattle.std.proofs.Common.{◌≡◌, ℕ, ◌+◌, ◌<◌, ◌≤◌, Bool, true, false, cond, List, [], ◌∷◌, ◌++◌, length, get_or, take, set, filter, sym, refl, ap, ◌∙◌, subst}
use Rattle.std.proofs.lemmas.List.{append-nil, take_all, take_more_set}
use Rattle.std.proofs.lemmas.List.Elements.{filter_more}
use Rattle.table.proofs.Rows.{lookup_kept, rising_kept}
use Rattle.schema.specs.declared.path.Path.{Path}
use Rattle.config.specs.declared.entry.Entry.{Entry}
use Rattle.config.specs.Order.{path_sooner, rising}
use Rattle.config.specs.Configs.{Retained, path_of, used}
use Rattle.config.specs.declared.config.Config.{Config}
use Rattle.config.proofs.Order.{total, rises, rising_from}

module _ (f : Path → Bool) where
  -- one more entry that is chosen, or is not
  pub kept_yes : (c : Config) (xs : List Entry) (i : ℕ) (d : Entry) (ys : List Entry) (n : ℕ) → xs ≡ used c → i < length xs → f (get_or xs i d).path ≡ true → n < length ys → take n ys ≡ filter (λ (e : Entry). f e.path) (take i (used c)) → take (n + 1) (set ys n (get_or xs i d)) ≡ filter (λ (e : Entry). f e.path) (take (i + 1) (used c))
  kept_yes c xs i d ys n are lt here room inv =
      take_more_set ys n (get_or xs i d) room
      ∙ ap (λ l. l ++ (get_or xs i d ∷ [])) (inv ∙ ap (λ l. filter (λ (e : Entry). f e.path) (take i l)) (sym are))
      ∙ sym (filter_more (λ (e : Entry). f e.path) xs i d lt ∙ ap (λ b. filter (λ (e : Entry). f e.path) (take i xs) ++ cond b (get_or xs i d ∷ []) []) here)
      ∙ ap (λ l. filter (λ (e : Entry). f e.path) (take (i + 1) l)) are

  pub kept_no : (c : Config) (xs : List Entry) (i : ℕ) (d : Entry) (kept : List Entry) → xs ≡ used c → i < length xs → f (get_or xs i d).path ≡ false → kept ≡ filter (λ (e : Entry). f e.path) (take i (used c)) → kept ≡ filter (λ (e : Entry). f e.path) (take (i + 1) (used c))
  kept_no c xs i d kept are lt left inv =
      inv ∙ ap (λ l. filter (λ (e : Entry). f e.path) (take i l)) (sym are)
      ∙ sym (filter_more (λ (e : Entry). f e.path) xs i d lt ∙ ap (λ b. filter (λ (e : Entry). f e.path) (take i xs) ++ cond b (get_or xs i d ∷ []) []) left ∙ append-nil _)
      ∙ ap (λ l. filter (λ (e : Entry). f e.path) (take (i + 1) l)) are

  -- the loop is at the end
  pub kept_all : (c : Config) (xs : List Entry) (i : ℕ) (kept : List Entry) → xs ≡ used c → length xs ≤ i → kept ≡ filter (λ (e : Entry). f e.path) (take i (used c)) → kept ≡ filter (λ (e : Entry). f e.path) (used c)
  kept_all c xs i kept are end inv =
      inv ∙ ap (filter (λ (e : Entry). f e.path)) (take_all i (used c) (subst (λ (l : List Entry). length l ≤ i) are end))

  pub kept_rises : (es : List Entry) → rising es ≡ true → rising (filter (λ (e : Entry). f e.path) es) ≡ true
  kept_rises es up =
      rising_from (filter (λ (e : Entry). f e.path) es) (rising_kept path_of path_sooner total (λ (e : Entry). f e.path) es (rises es up))

  pub retained : (es kept : List Entry) → kept ≡ filter (λ (e : Entry). f e.path) es → Retained f es kept
  retained es kept e =
      subst (λ l. Retained f es l) (sym e)
      (record { entries_are = refl; lookups = λ p. lookup_kept path_of path_sooner total f es p })
