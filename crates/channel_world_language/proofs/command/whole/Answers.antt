use Rattle.std.proofs.Common.{◌∙◌}
use Rattle.channel_world_language.proofs.CommandLemmas.{kept_alone}
use Rattle.channel_world_language.proofs.command.whole.Goals as goal

pub returns : goal.returns
returns g c = c.then_some.ensures ∙ kept_alone c.args.value c.args.rest c.is_none.result c.is_none.ensures
