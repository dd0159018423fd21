-- Byte writes in order under a supply of power. Assumes nothing.
use Rattle.std.specs.Prelude.{ℕ, Bool, List, length}
use Rattle.supply.specs.Writing.{ByteWrites, written}
use Rattle.supply.specs.declared.Supply.{Supply}

-- as many byte writes are done as power lasts for
abbrev pub Ended : List ℕ → List ℕ → Supply → Bool → List ℕ → Supply → Type 0
Ended new old s r part s' = ByteWrites (length new) (λ k. written k new old) s r part s'
