-- What a restart finds on the blocks of a device, and which accesses it makes.
-- A block at fault is told by its number.
use Rattle.std.specs.Prelude.{◌≡◌, ℕ, zero, suc, ◌+◌, ◌≤◌, ◌⊎◌, List, [], ◌∷◌, ◌++◌, length, Some, None, Ok, Err, Option, Result, ◌≢◌, slice_index_or}
use Rattle.device.specs.declared.Block.{Block}
use Rattle.device.specs.declared.Block.TheVariants.{Good, Damaged}
use Rattle.device.specs.Accesses.{Access, read}
use Rattle.device.specs.View.{after}
use Rattle.schema.specs.declared.nodes.Node.{Node}
use Rattle.config.specs.Lawful.{Lawful}
use Rattle.config.specs.declared.entry.Entry.{Entry}
use Rattle.journal.specs.Layout.{Pages, header_of, home_pages, parse}
use Rattle.journal.specs.Plans.{Write, as_writes, closed}

abbrev pub with_first : ℕ → Block → Result Pages ℕ → Result Pages ℕ
with_first at (Good b) (Ok bs) = Ok (b ∷ bs)
with_first at (Good b) (Err k) = Err k
with_first at Damaged r = Err at

-- the bytes of so many blocks from a first one on, or the first of them that is damaged
unfoldable pub read_run : List Block → ℕ → ℕ → Result Pages ℕ
read_run bs first zero = Ok []
read_run bs first (suc n) = with_first first (slice_index_or bs first Damaged) (read_run bs (first + 1) n)

abbrev pub homes : List Block → Result Pages ℕ
homes bs = read_run bs 26 25

-- each target with its record
abbrev pub paired : List ℕ → Pages → List Write
paired [] rs = []
paired (t ∷ ts) [] = []
paired (t ∷ ts) (r ∷ rs) = (t, r) ∷ paired ts rs

abbrev pub with_records : List ℕ → Result Pages ℕ → Result (List Write) ℕ
with_records ts (Err k) = Err k
with_records ts (Ok rs) = Ok (paired ts rs)

abbrev pub by_targets : List Block → Option (List ℕ) → Result (List Write) ℕ
by_targets bs None = Err 0
by_targets bs (Some ts) = with_records ts (read_run bs 1 (length ts))

abbrev pub by_header : List Block → Block → Result (List Write) ℕ
by_header bs Damaged = Ok []
by_header bs (Good h) = by_targets bs (parse h)

-- The writes home that the journal asks for, or the block at fault: a good header that is not of its form, or the first
-- damaged record. A damaged header asks for nothing.
abbrev pub pending : List Block → Result (List Write) ℕ
pending bs = by_header bs (slice_index_or bs 0 Damaged)

abbrev pub homes_after : List Block → Result (List Write) ℕ → Result Pages ℕ
homes_after bs (Err k) = Err k
homes_after bs (Ok ws) = homes (after (as_writes ws) bs)

-- the bytes of the home blocks once these writes are done, or the block at fault
unfoldable pub stored : List Block → Result Pages ℕ
stored bs = homes_after bs (pending bs)

-- The home blocks hold the configuration whose home blocks they are, byte for byte, if the schema allows one; else block 26 is
-- at fault.
abbrev pub Accepted : List Node → Pages → Result (List Entry) ℕ → Type 0
Accepted ns ps (Ok es) = Lawful ns es × (ps ≡ home_pages es)
Accepted ns ps (Err k) = (k ≡ 26) × ((es : List Entry) → Lawful ns es → ps ≢ home_pages es)

abbrev pub Judged : List Node → Result Pages ℕ → Result (List Entry) ℕ → Type 0
Judged ns (Ok ps) r = Accepted ns ps r
Judged ns (Err k) r = r ≡ Err k

-- what a restart over these blocks gives by the schema: a configuration, or the block at fault
abbrev pub Restores : List Node → List Block → Result (List Entry) ℕ → Type 0
Restores ns bs r = Judged ns (stored bs) r

-- ---- the accesses of a restart
abbrev pub unless_damaged : Block → List Access → List Access
unless_damaged (Good b) more = more
unless_damaged Damaged more = []

-- so many blocks from a first one on are read, up to the first that is damaged
unfoldable pub reads_until : List Block → ℕ → ℕ → List Access
reads_until bs first zero = []
reads_until bs first (suc n) = read first ∷ unless_damaged (slice_index_or bs first Damaged) (reads_until bs (first + 1) n)

abbrev pub target_reads : List Block → Option (List ℕ) → List Access
target_reads bs None = []
target_reads bs (Some ts) = reads_until bs 1 (length ts)

-- the records that the header asks for
abbrev pub record_reads : List Block → Block → List Access
record_reads bs Damaged = []
record_reads bs (Good h) = target_reads bs (parse h)

-- where nothing is at fault, the writes home, the empty header, and then the home blocks
abbrev pub repairs : List Block → Result (List Write) ℕ → List Access
repairs bs (Err k) = []
repairs bs (Ok ws) = as_writes (closed ws) ++ reads_until (after (as_writes (closed ws)) bs) 26 25

-- all accesses of a restart after its power-up: the header, its records, the repair
unfoldable pub restart_plan : List Block → List Access
restart_plan bs = read 0 ∷ (record_reads bs (slice_index_or bs 0 Damaged) ++ repairs bs (pending bs))

-- a header that asks for nothing is damaged or empty
abbrev pub Quiet : List Block → Type 0
Quiet bs = (slice_index_or bs 0 Damaged ≡ Damaged) ⊎ (slice_index_or bs 0 Damaged ≡ Good (header_of []))

-- a store of at least 51 blocks with nothing journalled, whose home blocks are those of a configuration
pub record Idle (bs : List Block) (es : List Entry) : Type 0 where
  pub room : 51 ≤ length bs
  pub header : Quiet bs
  pub home : homes bs ≡ Ok (home_pages es)
