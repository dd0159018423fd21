-- Laws of the model.
use Rattle.std.specs.Prelude.{◌≡◌, List, Decides}
use Rattle.config.specs.declared.entry.Entry.{Entry}
use Rattle.model.specs.Model.{same_entries}

abbrev pub SameDecides : Type 0
SameDecides = (es fs : List Entry) → Decides (same_entries es fs) (es ≡ fs)
