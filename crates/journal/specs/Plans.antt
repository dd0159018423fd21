-- What is written to a device, as lists of block writes in order.
use Rattle.std.specs.Prelude.{ℕ, ◌+◌, cond, List, [], ◌∷◌, ◌++◌, map}
use Rattle.std.specs.Str.{bytes_eq}
use Rattle.device.specs.Accesses.{Access, write}
use Rattle.config.specs.declared.entry.Entry.{Entry}
use Rattle.journal.specs.Layout.{Pages, header_of, home_pages}

-- a block and the 32 bytes that are written to it
abbrev pub Write : Type 0
Write = ℕ × List ℕ

-- the writes as accesses of a device
abbrev pub as_writes : List Write → List Access
as_writes [] = []
as_writes (w ∷ ws) = write w.0 w.1 ∷ as_writes ws

-- consecutive blocks from a first one on
abbrev pub run_from : ℕ → Pages → List Write
run_from n [] = []
run_from n (p ∷ ps) = (n, p) ∷ run_from (n + 1) ps

-- the header that names nothing
abbrev pub empty_header : Write
empty_header = (0, header_of [])

-- what a format writes: the home blocks, then an empty header
abbrev pub format_plan : List Entry → List Write
format_plan es = run_from 26 (home_pages es) ++ empty_header ∷ []

-- the home blocks that differ, from a first one on, each with its new bytes
abbrev pub changes : ℕ → Pages → Pages → List Write
changes n [] new = []
changes n (o ∷ os) [] = []
changes n (o ∷ os) (x ∷ xs) = cond (bytes_eq o x) (changes (n + 1) os xs) ((n, x) ∷ changes (n + 1) os xs)

abbrev pub targets : List Write → List ℕ
targets = map (λ (w : Write). w.0)

abbrev pub pages : List Write → Pages
pages = map (λ (w : Write). w.1)

-- the records of some changes, from block 1 on, and the header that names their targets
abbrev pub records : List Write → List Write
records ws = run_from 1 (pages ws)

abbrev pub header_write : List Write → Write
header_write ws = (0, header_of (targets ws))

-- the writes home and then the empty header, or nothing where there is nothing to write
abbrev pub closed : List Write → List Write
closed [] = []
closed (w ∷ ws) = (w ∷ ws) ++ empty_header ∷ []

-- the records, the header, the writes home, the empty header, or nothing where nothing changes
abbrev pub journalled : List Write → List Write
journalled [] = []
journalled (w ∷ ws) = records (w ∷ ws) ++ header_write (w ∷ ws) ∷ closed (w ∷ ws)

-- the changes from one configuration to another
abbrev pub changed : List Entry → List Entry → List Write
changed old new = changes 26 (home_pages old) (home_pages new)

-- what a commit writes
abbrev pub commit_plan : List Entry → List Entry → List Write
commit_plan old new = journalled (changed old new)
