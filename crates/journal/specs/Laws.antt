-- What the journal promises, on lists of blocks: for every device at once.
use Rattle.std.specs.Prelude.{◌≡◌, ℕ, ◌<◌, ◌≤◌, true, ◌⊎◌, List, [], ◌∷◌, ◌++◌, length, Some, Ok, Result}
use Rattle.device.specs.declared.Block.{Block}
use Rattle.device.specs.View.{Torn, after, Within}
use Rattle.schema.specs.declared.nodes.Node.{Node}
use Rattle.config.specs.Lawful.{Lawful}
use Rattle.config.specs.declared.entry.Entry.{Entry}
use Rattle.journal.specs.Layout.{header_of, rising, parse, home_pages}
use Rattle.journal.specs.Plans.{as_writes, format_plan, changed, records, header_write, closed, commit_plan}
use Rattle.journal.specs.Restart.{Restores, restart_plan, Idle}

-- a header has 32 bytes and reads back as its targets
abbrev pub HeaderReads : Type 0
HeaderReads = (ts : List ℕ) → rising 26 ts ≡ true → (length (header_of ts) ≡ 32) × (parse (header_of ts) ≡ Some ts)

-- no other bytes do, and what is read are home blocks, strictly rising
abbrev pub HeaderAlone : Type 0
HeaderAlone = (h ts : List ℕ) → parse h ≡ Some ts → (h ≡ header_of ts) × (rising 26 ts ≡ true)

-- two lawful configurations with the same home blocks are one
abbrev pub HomesDecide : Type 0
HomesDecide = (ns : List Node) (es fs : List Entry) → Lawful ns es → Lawful ns fs → home_pages es ≡ home_pages fs → es ≡ fs

-- blocks restore to one thing only
abbrev pub RestoresOnce : Type 0
RestoresOnce = (ns : List Node) (bs : List Block) (r q : Result (List Entry) ℕ) → Restores ns bs r → Restores ns bs q → r ≡ q

-- an idle store restores to its configuration
abbrev pub IdleRestores : Type 0
IdleRestores = (ns : List Node) (bs : List Block) (es : List Entry) → Lawful ns es → Idle bs es → Restores ns bs (Ok es)

-- What a restart finds after power failed at a block of a commit: a cut in a record keeps the old configuration, one in a home
-- block gives the new, one in the header gives either.
pub data Recovered (ns : List Node) (old new : List Entry) (at : ℕ) (bs : List Block) : Type 0 where
  kept : at < 26 → Restores ns bs (Ok old) → Recovered ns old new at bs
  moved : (at ≡ 0) ⊎ (26 ≤ at) → Restores ns bs (Ok new) → Recovered ns old new at bs

-- a commit that is cut off anywhere restores to the old configuration or to the new, whole
abbrev pub CommitRecovers : Type 0
CommitRecovers = (ns : List Node) (bs : List Block) (old new : List Entry) (at : ℕ) (bs' : List Block) → Lawful ns old → Lawful ns new → Idle bs old → Torn (as_writes (commit_plan old new)) bs at bs' → Recovered ns old new at bs'

-- whether the header was written decides it: until then the old configuration stands, from then on the new
abbrev pub CommitDecides : Type 0
CommitDecides =
    (ns : List Node) (bs : List Block) (old new : List Entry) (at : ℕ) (bs' : List Block) → Lawful ns old → Lawful ns new → Idle bs old
    → (Torn (as_writes (records (changed old new))) bs at bs' → Restores ns bs' (Ok old))
    × (Torn (as_writes (closed (changed old new))) (after (as_writes (records (changed old new) ++ header_write (changed old new) ∷ [])) bs) at bs' → Restores ns bs' (Ok new))

-- a commit that is carried out leaves an idle store of the new configuration
abbrev pub CommitFinishes : Type 0
CommitFinishes = (bs : List Block) (old new : List Entry) → Idle bs old → Idle (after (as_writes (commit_plan old new)) bs) new

-- nothing is written exactly where nothing changes
abbrev pub CommitWrites : Type 0
CommitWrites = (ns : List Node) (old new : List Entry) → Lawful ns old → Lawful ns new → (commit_plan old new ≡ [] → old ≡ new) × (old ≡ new → commit_plan old new ≡ [])

-- a format that is carried out leaves an idle store
abbrev pub FormatFinishes : Type 0
FormatFinishes = (bs : List Block) (es : List Entry) → 51 ≤ length bs → Idle (after (as_writes (format_plan es)) bs) es

-- a restart that is cut off anywhere, at a read or at a write, leaves what it found to the next one, also a fault
abbrev pub RepairRecovers : Type 0
RepairRecovers = (ns : List Node) (bs : List Block) (r : Result (List Entry) ℕ) (at : ℕ) (bs' : List Block) → 51 ≤ length bs → Restores ns bs r → Torn (restart_plan bs) bs at bs' → Restores ns bs' r

-- one that is carried out leaves an idle store of what it found
abbrev pub RepairFinishes : Type 0
RepairFinishes = (ns : List Node) (bs : List Block) (es : List Entry) → 51 ≤ length bs → Restores ns bs (Ok es) → Idle (after (restart_plan bs) bs) es

-- restarts one after the other, each cut off by power
pub data Restarts : List Block → List Block → Type 0 where
  none : {bs : List Block} → Restarts bs bs
  again : {bs bs' bs'' : List Block} {at : ℕ} → Torn (restart_plan bs) bs at bs' → Restarts bs' bs'' → Restarts bs bs''

-- any number of broken restarts changes nothing of what a restart gives
abbrev pub RestartsKeep : Type 0
RestartsKeep = (ns : List Node) (bs bs' : List Block) (r : Result (List Entry) ℕ) → 51 ≤ length bs → Restarts bs bs' → Restores ns bs r → Restores ns bs' r

-- the accesses of all plans are of the first 51 blocks
pub record PlansWithin : Type 0 where
  pub format : (es : List Entry) → Within 51 (as_writes (format_plan es))
  pub commit : (old new : List Entry) → Within 51 (as_writes (commit_plan old new))
  pub restart : (bs : List Block) → Within 51 (restart_plan bs)
