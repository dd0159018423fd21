-- The image of a configuration: a count byte, then 16 bytes for each entry.
use Rattle.std.specs.Prelude.{◌≡◌, ℕ, ◌<◌, ◌≤◌, true, List, ◌++◌, length, drop, Some, None, Ok, Err, Option, Result, ◌≢◌}
use Rattle.encoding.specs.Counts.{counted}
use Rattle.schema.specs.declared.nodes.Node.{Node}
use Rattle.config.specs.declared.entry.Entry.{Entry}
use Rattle.config.specs.declared.config.Config.{Config}
use Rattle.config.specs.Order.{entry_form, rising}
use Rattle.config.specs.Configs.{used}
use Rattle.config.specs.Lawful.{Lawful}

abbrev pub image : List Entry → List ℕ
image es = counted entry_form es

-- The image is written to the front of the output, and the bytes past it stay. An output under 769 bytes is refused.
abbrev pub Encoded : {F : Type 0} → List Entry → List ℕ → List ℕ → Result ℕ F → Type 0
Encoded es before after (Ok n) = (769 ≤ length before) × (n ≡ length (image es)) × (after ≡ image es ++ drop n before)
Encoded es before after (Err f) = (length before < 769) × (after ≡ before)

-- Bytes are accepted if they are the image of a lawful configuration, the one that is given.
abbrev pub Read : {F : Type 0} → List Node → List ℕ → Result Config F → Type 0
Read ns bytes (Ok c) = Lawful ns (used c) × (bytes ≡ image (used c))
Read ns bytes (Err f) = (es : List Entry) → Lawful ns es → bytes ≢ image es

-- the bytes are the image of these entries, or of no entries in rising order
abbrev pub Decoded : List ℕ → Option Config → Type 0
Decoded bytes (Some c) = bytes ≡ image (used c)
Decoded bytes None = (es : List Entry) → length es ≤ 48 → rising es ≡ true → bytes ≢ image es
