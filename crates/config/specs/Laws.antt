-- Configurations, paths and images: which of them say the others.
use Rattle.std.specs.Prelude.{◌≡◌, true, List, Ok, Err, Result}
use Rattle.schema.specs.declared.nodes.Node.{Node}
use Rattle.schema.specs.declared.path.Path.{Path}
use Rattle.config.specs.declared.entry.Entry.{Entry}
use Rattle.config.specs.declared.config.Config.{Config}
use Rattle.config.specs.declared.image.ImageFault.{ImageFault}
use Rattle.config.specs.Order.{rising}
use Rattle.config.specs.Configs.{found, used}
use Rattle.config.specs.Lawful.{Lawful}
use Rattle.config.specs.Images.{image, Read}

-- what is found at every path says which entries there are
abbrev pub PathsDecide : Type 0
PathsDecide = (es fs : List Entry) → rising es ≡ true → rising fs ≡ true → ((p : Path) → found es p ≡ found fs p) → es ≡ fs

-- entries with one image are the same entries
abbrev pub ImagesDecide : Type 0
ImagesDecide = (es fs : List Entry) → image es ≡ image fs → es ≡ fs

-- the answer is these entries
abbrev pub Gives : List Entry → Result Config ImageFault → Type 0
Gives es (Ok c) = used c ≡ es
Gives es (Err f) = ⊥

-- whatever answers the image of lawful entries as reading does gives these entries
abbrev pub ReadsBack : Type 0
ReadsBack = (ns : List Node) (es : List Entry) (r : Result Config ImageFault) → Lawful ns es → Read ns (image es) r → Gives es r
