use Rattle.std.proofs.Common.{take, ◌∙◌}
use Rattle.model.specs.Model.{fresh}
use Rattle.run.proofs.Steps.{begun, promise_of}
use Rattle.run.proofs.run.Goals as goal

pub returns : goal.returns
returns g c =
    let d = g.met.D.Device in
    let dev = g.D.Device in
    let format = c.in_ok-format.ensures in
    let all = c.perform_all.ensures in
    let b = begun dev.blocks dev.powered dev.raises dev.reads dev.writes g.V.Validator.verdict d.raised d.reading d.writing d.unread d.unwritten c.args.engine.now c.args.image.now c.format.new.self format in
    record {
      formatted = c.format.new.self;
      format = format;
      schema = b.schema;
      schema_is = b.schema_is;
      entries = b.entries;
      lawful = b.lawful;
      image_is = b.image_is;
      started = b.started;
      count = all.count;
      rest = all.rest;
      validator_stays = all.validator ∙ format.validator;
      schema_stays = all.schema ∙ format.schema;
      promise = promise_of dev.blocks dev.powered dev.raises dev.reads dev.writes g.V.Validator.verdict d.raised d.reading d.writing d.unread d.unwritten c.args.engine.now.validator b.schema b.entries c.format.new.self (take c.perform_all.result c.args.calls.now) (take c.perform_all.result c.perform_all.new.answers) c.perform_all.new.engine format.validator (all.chain b.schema (fresh b.entries) (format.schema ∙ b.schema_is) b.tied);
    }
