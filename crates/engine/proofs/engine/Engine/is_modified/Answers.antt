use Rattle.std.proofs.Common.{not, ap, ◌∙◌}
use Rattle.std.proofs.lemmas.Bool.Decides.{same_from_decides}
use Rattle.config.specs.Configs.{used}
use Rattle.config.specs.Equal.{same_config}
use Rattle.config.proofs.Equal.{decides_configs}
use Rattle.model.specs.Model.{same_entries}
use Rattle.model.proofs.Tables.{same_decides}
use Rattle.engine.proofs.engine.Engine.is_modified.Goals as goal

pub returns : goal.returns
returns g c =
    let e = c.args.self.now in
    let there = decides_configs e.candidate e.running in
    let here = same_decides (used e.candidate) (used e.running) in
    c.ne.ensures ∙ ap not (same_from_decides (same_config e.candidate e.running) (same_entries (used e.candidate) (used e.running)) there here)
