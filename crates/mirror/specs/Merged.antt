-- The blocks of two sides as one. Assumes nothing.
use Rattle.std.specs.Prelude.{◌≡◌, ℕ, zero, suc, ◌<◌, min, List, [], ◌∷◌, length, set, slice_index_or, slice_set, refl}
use Rattle.std.proofs.Common.{ap, ◌∙◌, arith}
use Rattle.std.proofs.lemmas.List.{get_or-set_same, set-set}
use Rattle.device.specs.declared.Block.{Block}
use Rattle.device.specs.declared.Block.TheVariants.{Damaged}
use Rattle.mirror.specs.Sides.{better, merged}

pub length_merged : (xs ys : List Block) → length (merged xs ys) ≡ min (length xs) (length ys)
length_merged [] ys = omega arith
length_merged (x ∷ xs) [] = omega arith
length_merged (x ∷ xs) (y ∷ ys) = omega (arith, length_merged xs ys)

pub getD_merged : (xs ys : List Block) (i : ℕ) → i < length xs → i < length ys → slice_index_or (merged xs ys) i Damaged ≡ better (slice_index_or xs i Damaged) (slice_index_or ys i Damaged)
getD_merged [] ys i h k = absurd (omega arith)
getD_merged (x ∷ xs) [] i h k = absurd (omega arith)
getD_merged (x ∷ xs) (y ∷ ys) zero h k = refl
getD_merged (x ∷ xs) (y ∷ ys) (suc i) h k = getD_merged xs ys i (omega arith) (omega arith)

pub set_first : (xs ys : List Block) (i : ℕ) (x : Block) → merged (slice_set xs i x) ys ≡ slice_set (merged xs ys) i (better x (slice_index_or ys i Damaged))
set_first [] ys i x = refl
set_first (z ∷ xs) [] zero x = refl
set_first (z ∷ xs) [] (suc i) x = refl
set_first (z ∷ xs) (y ∷ ys) zero x = refl
set_first (z ∷ xs) (y ∷ ys) (suc i) x = ap (λ (bs : List Block). better z y ∷ bs) (set_first xs ys i x)

pub set_second : (xs ys : List Block) (i : ℕ) (y : Block) → merged xs (slice_set ys i y) ≡ slice_set (merged xs ys) i (better (slice_index_or xs i Damaged) y)
set_second [] ys i y = refl
set_second (x ∷ xs) [] zero y = refl
set_second (x ∷ xs) [] (suc i) y = refl
set_second (x ∷ xs) (z ∷ ys) zero y = refl
set_second (x ∷ xs) (z ∷ ys) (suc i) y = ap (λ (bs : List Block). better x z ∷ bs) (set_second xs ys i y)

-- a block of either side is another
pub set_both : (xs ys : List Block) (i : ℕ) (x y : Block) → i < length ys → merged (slice_set xs i x) (slice_set ys i y) ≡ slice_set (merged xs ys) i (better x y)
set_both xs ys i x y h =
    set_first xs (slice_set ys i y) i x
    ∙ ap (λ (bs : List Block). set bs i (better x (slice_index_or (slice_set ys i y) i Damaged))) (set_second xs ys i y)
    ∙ set-set (merged xs ys) i (better (slice_index_or xs i Damaged) y) (better x (slice_index_or (slice_set ys i y) i Damaged))
    ∙ ap (λ (b : Block). set (merged xs ys) i (better x b)) (get_or-set_same ys i y Damaged h)
