-- What a mirror makes of its two sides. Assumes nothing.
use Rattle.std.specs.Prelude.{ℕ, Bool, ◌&&◌, List, [], ◌∷◌, Ok, Err, Result}
use Rattle.device.specs.declared.Block.{Block}
use Rattle.device.specs.declared.Block.TheVariants.{Good, Damaged}
use Rattle.device.specs.declared.Device.{Ghosts}
use Rattle.device.specs.declared.DeviceFault.{DeviceFault}

-- the first side's block where it is good, else the second's
abbrev pub better : Block → Block → Block
better (Good bytes) b = Good bytes
better Damaged b = b

-- as many blocks as the smaller side has
abbrev pub merged : List Block → List Block → List Block
merged [] bs = []
merged (a ∷ as') [] = []
merged (a ∷ as') (b ∷ bs) = better a b ∷ merged as' bs

module _ {A B : Type 0} (reads₁ : A → ℕ → Result Block DeviceFault → A → Type 0) (reads₂ : B → ℕ → Result Block DeviceFault → B → Type 0) where
  -- a read: the sides before, the block, the answer, the sides after
  pub data MirrorRead : A → B → ℕ → Result Block DeviceFault → A → B → Type 0 where
    good : {a a' : A} {b : B} {at : ℕ} {bytes : List ℕ} → reads₁ a at (Ok (Good bytes)) a' → MirrorRead a b at (Ok (Good bytes)) a' b
    lost : {a a' : A} {b : B} {at : ℕ} {f : DeviceFault} → reads₁ a at (Err f) a' → MirrorRead a b at (Err f) a' b
    damaged : {a a' : A} {b b' : B} {at : ℕ} {r : Result Block DeviceFault} → reads₁ a at (Ok Damaged) a' → reads₂ b at r b' → MirrorRead a b at r a' b'

module _ {A B : Type 0} (reads₁ : A → ℕ → Result Block DeviceFault → A → Type 0) (writes₁ : A → ℕ → List ℕ → Result Unit DeviceFault → A → Type 0) (writes₂ : B → ℕ → List ℕ → Result Unit DeviceFault → B → Type 0) where
  -- a write: the first side's block is read; where it is good the second side is written and then the first, else the first
  -- and then the second; a side that loses power ends it
  pub data MirrorWrite : A → B → ℕ → List ℕ → Result Unit DeviceFault → A → B → Type 0 where
    unread : {a a' : A} {b : B} {at : ℕ} {bytes : List ℕ} {f : DeviceFault} → reads₁ a at (Err f) a' → MirrorWrite a b at bytes (Err f) a' b
    second_cut : {a a' : A} {b b' : B} {at : ℕ} {old bytes : List ℕ} {f : DeviceFault} → reads₁ a at (Ok (Good old)) a' → writes₂ b at bytes (Err f) b' → MirrorWrite a b at bytes (Err f) a' b'
    second_first : {a a' a'' : A} {b b' : B} {at : ℕ} {old bytes : List ℕ} {r : Result Unit DeviceFault} → reads₁ a at (Ok (Good old)) a' → writes₂ b at bytes (Ok tt) b' → writes₁ a' at bytes r a'' → MirrorWrite a b at bytes r a'' b'
    first_cut : {a a' a'' : A} {b : B} {at : ℕ} {bytes : List ℕ} {f : DeviceFault} → reads₁ a at (Ok Damaged) a' → writes₁ a' at bytes (Err f) a'' → MirrorWrite a b at bytes (Err f) a'' b
    first_first : {a a' a'' : A} {b b' : B} {at : ℕ} {bytes : List ℕ} {r : Result Unit DeviceFault} → reads₁ a at (Ok Damaged) a' → writes₁ a' at bytes (Ok tt) a'' → writes₂ b at bytes r b' → MirrorWrite a b at bytes r a'' b'

-- two sides as one device
module _ {A B : Type 0} (one : Ghosts A) (two : Ghosts B) where
  abbrev pub both : A → B → List Block
  both a b = merged (one.blocks a) (two.blocks b)

  abbrev pub both_on : A → B → Bool
  both_on a b = one.powered a && two.powered b

  abbrev pub BothRead : A → B → ℕ → Result Block DeviceFault → A → B → Type 0
  BothRead = MirrorRead one.reads two.reads

  abbrev pub BothWrite : A → B → ℕ → List ℕ → Result Unit DeviceFault → A → B → Type 0
  BothWrite = MirrorWrite one.reads one.writes two.writes
