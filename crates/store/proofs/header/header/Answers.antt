use Rattle.std.proofs.Common.{◌≡◌, ℕ, ◌+◌, ◌-◌, List, ◌∷◌, ◌++◌, length, drop, ap, ◌∙◌, arith}
use Rattle.journal.specs.Layout.{zeros}
use Rattle.journal.proofs.Steps.{drop_zeros}
use Rattle.store.specs.Targets.{listed}
use Rattle.store.proofs.header.header.Goals as goal

pub returns : goal.returns
returns c =
    let ts = listed c.args.targets.now in
    let bs = c.as_slice-blocks.result.now in
    let n = length bs in
    let is : bs ≡ ts = c.as_slice-blocks.ensures.items in
    let all : 1 + n - 1 ≡ n = omega arith in
    ap (λ (l : List ℕ). n ∷ (l ++ drop (1 + n - 1) (zeros 31))) c.copy_from_slice.ensures.after
    ∙ ap (λ (k : ℕ). n ∷ (bs ++ drop k (zeros 31))) all
    ∙ ap (λ (l : List ℕ). n ∷ (bs ++ l)) (drop_zeros n 31 (omega arith))
    ∙ ap (λ (l : List ℕ). length l ∷ (l ++ zeros (31 - length l))) is
