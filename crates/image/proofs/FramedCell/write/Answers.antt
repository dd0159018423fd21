-- What is written is front, payload and back of the cell.
use Rattle.std.proofs.Common.{◌≡◌, ℕ, ◌+◌, ◌%◌, min, List, [], ◌∷◌, ◌++◌, length, take, sym, ap, subst, ◌∙◌, arith, rules}
use Rattle.std.proofs.lemmas.List.{get_or-take}
use Rattle.supply.specs.Writing.{Asks, written}
use Rattle.image.specs.Cell.{writes}
use Rattle.image.specs.Cells.{length_writes}
use Rattle.image.proofs.FramedCell.write.Goals as goal

pub returns-clause-room : goal.returns-clause-room
returns-clause-room c room =
    let part : List ℕ = c.args.part.now in
    let payload : List ℕ = c.args.payload in
    let size : length payload ≡ 32 = search rules in
    let is : c.stamped-cell.result ≡ writes (take 34 part) payload = c.stamped-cell.ensures ∙ ap (λ (b : ℕ). ((b + 1) % 256) ∷ (payload ++ ((b + 1) % 256) ∷ [])) (sym (get_or-take 34 part 33 0 (omega arith))) in
    let all : min (length c.stamped-cell.result) (length part) ≡ 34 = omega (arith, ap length is, length_writes (take 34 part) payload size) in
    let P : ℕ → List ℕ → Type 0 = λ n x. Asks n (λ k. written k x part) c.args.supply.now c.write_all.result c.write_all.new.part c.write_all.new.self in
    subst (λ (x : List ℕ). P 34 x) is (subst (λ (n : ℕ). P n c.stamped-cell.result) all c.write_all.ensures)
