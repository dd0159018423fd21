-- Plans of block writes: what they come to, and where power may fail in them.
use Rattle.std.proofs.Common.{◌≡◌, ℕ, List, [], ◌∷◌, ◌++◌, get_or, set, refl, ap}
use Rattle.device.specs.declared.Block.{Block}
use Rattle.device.specs.declared.Block.TheVariants.{Good, Damaged}
use Rattle.device.specs.Power.{Left}
use Rattle.device.specs.Accesses.{Access, write}
use Rattle.device.specs.View.{Torn}
use Rattle.device.specs.View as view
use Rattle.journal.specs.Plans.{Write, as_writes}

-- the blocks after every write of a plan
abbrev pub written_out : List Write → List Block → List Block
written_out ws bs = view.after (as_writes ws) bs

-- the blocks where power failed in a plan: the writes before were done, and one block is left by the power rule
pub data Cut : List Write → List Block → ℕ → List Block → Type 0 where
  here : {w : Write} {ws : List Write} {bs : List Block} {b : Block} → Left (get_or bs w.0 Damaged) w.1 b → Cut (w ∷ ws) bs w.0 (set bs w.0 b)
  later : {w : Write} {ws : List Write} {bs bs' : List Block} {at : ℕ} → Cut ws (set bs w.0 (Good w.1)) at bs' → Cut (w ∷ ws) bs at bs'

pub cut_of : (ws : List Write) {bs bs' : List Block} {at : ℕ} → Torn (as_writes ws) bs at bs' → Cut ws bs at bs'
cut_of [] t = elim t [ ]
cut_of (w ∷ ws) (view.Torn.here (view.Struck.writing l)) = here l
cut_of (w ∷ ws) (view.Torn.later t) = later (cut_of ws t)

pub as_writes_append : (xs ys : List Write) → as_writes (xs ++ ys) ≡ as_writes xs ++ as_writes ys
as_writes_append [] ys = refl
as_writes_append (x ∷ xs) ys = ap (λ (l : List Access). write x.0 x.1 ∷ l) (as_writes_append xs ys)
