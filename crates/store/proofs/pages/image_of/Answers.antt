use Rattle.std.proofs.Common.{◌≡◌, ℕ, ◌-◌, ◌*◌, ◌≤◌, List, ◌++◌, length, Ok, Err, Result, ◌∙◌, arith}
use lib.ListN.{length-replicate}
use Rattle.config.specs.Configs.{used}
use Rattle.config.specs.Images.{image, Encoded}
use Rattle.config.specs.declared.entry.Entry.{Entry}
use Rattle.config.proofs.Images.{length_image}
use Rattle.config.proofs.Places.{used_few}
use Rattle.journal.specs.Layout.{zeros}
use Rattle.journal.proofs.Steps.{padded}
use Rattle.store.proofs.pages.image_of.Goals as goal

encoded : {F : Type 0} (es : List Entry) (out : List ℕ) (r : Result ℕ F) → length es ≤ 48 → Encoded es (zeros 769) out r → out ≡ image es ++ zeros (768 - 16 * length es)
encoded es out (Ok n) few e = padded es n out few (e.1 ∙ length_image es) e.2
encoded es out (Err f) few e = absurd (omega (arith, length-replicate {A = ℕ} 769 0))

pub returns : goal.returns
returns c = encoded (used c.args.config.now) c.encode.new.out c.encode.result (used_few c.args.config.now) c.encode.ensures
