-- A change from the steps that it is made of.
use Rattle.std.proofs.Common.{◌≡◌, ℕ, ◌<◌, List, ◌++◌, length, drop, replicate, Ok, Err, Option, Result, sym, refl, ap, ◌∙◌, arith}
use Rattle.std.specs.Result.{result_unwrap_or}
use Rattle.std.proofs.lemmas.List.{drop-replicate}
use Rattle.schema.specs.Paths.{entry_answer}
use Rattle.schema.specs.declared.nodes.Node.{Node}
use Rattle.config.specs.Configs.{found, used, without_entry, EntryPut, TakeAnswer}
use Rattle.config.specs.Images.{image, Encoded}
use Rattle.config.specs.declared.config.Config.{Config}
use Rattle.config.specs.declared.entry.Entry.{Entry}
use Rattle.amend.specs.declared.Change.{Change}
use Rattle.amend.specs.Amends.{Made}

-- an output of 769 bytes takes every image
encoded : {F : Type 0} (c : Config) (out : List ℕ) (r : Result ℕ F) → Encoded (used c) (replicate 769 0) out r → (result_unwrap_or r 0 ≡ length (image (used c))) × (out ≡ image (used c) ++ drop (result_unwrap_or r 0) (replicate 769 0))
encoded c out (Ok n) e = (e.1, e.2)
encoded c out (Err f) e = let zeros : List ℕ = replicate 769 0 in let short : length zeros < 769 = e.0 in let size : length zeros ≡ 769 = refl in let never : ⊥ = omega arith in absurd never

pub made : {F : Type 0} (ns : List Node) (c : Config) (x : Change) (d : Config) (taken : Option Entry) (e : Config) (out : List ℕ) (written : Result ℕ F) (n : ℕ) → entry_answer ns x.put.path x.put.value ≡ Ok tt → EntryPut (used c) x.put (used d) → TakeAnswer d x.gone e taken → Encoded (used e) (replicate 769 0) out written → n ≡ result_unwrap_or written 0 → Made ns c x (record { config = e; taken = taken; image = out; length = n })
made ns c x d taken e out written n fits p t w is =
    let size = encoded e out written w in
    record {
      fits = fits;
      taken = t.taken ∙ ap (λ l. found l x.gone) p.entries_are;
      entries = t.rest.entries_are ∙ ap (λ l. without_entry l x.gone) p.entries_are;
      size = is ∙ size.0;
      bytes = size.1 ∙ ap (λ k. image (used e) ++ drop k (replicate 769 0)) (sym is) ∙ ap (λ l. image (used e) ++ l) (drop-replicate n 769 0);
    }
