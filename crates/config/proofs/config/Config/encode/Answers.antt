use Rattle.std.proofs.Common.{ℕ, ◌≤◌, List, length, Ok, Err, Result, subst, arith}
use Rattle.encoding.specs.Counts.{Encoded as Counted}
use Rattle.config.specs.declared.entry.Entry.{Entry}
use Rattle.config.specs.Images.{Encoded}
use Rattle.config.specs.Order.{entry_form}
use Rattle.config.proofs.Images.{length_image}
use Rattle.config.proofs.Places.{used_few}
use Rattle.config.proofs.config.Config.encode.Goals as goal

-- 48 entries have room in 769 bytes
roomy : {F : Type 0} (es : List Entry) (before after : List ℕ) (r : Result ℕ F) → length es ≤ 48 → 769 ≤ length before → Counted entry_form es before after r → Encoded es before after r
roomy es before after (Ok n) few room e = (room, e.1, e.3)
roomy es before after (Err f) few room e = let size = length_image es in (omega (arith, e.0 (omega arith)), e.1)

pub returns : goal.returns
returns c =
    let self = c.args.self.now in
    let room : 769 ≤ length c.args.out.now = omega arith in
    roomy _ _ _ c.encode.result (used_few self) room
    (subst (λ es. Counted entry_form es c.args.out.now c.encode.new.out c.encode.result) c.entries.ensures c.encode.ensures)
