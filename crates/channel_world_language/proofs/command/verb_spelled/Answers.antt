-- From the row that is found, and the table.
use Rattle.std.proofs.Common.{rules, tests, option_copied, refl}
use Rattle.std.specs.Str.{bytes_eq}
use Rattle.std.proofs.lemmas.Iterator.{YieldsList-from_slice}
use Rattle.std.proofs.lemmas.Iterator.Search.{find_from_yields_List}
use Rattle.channel_world_language.specs.Command.{call_commands}
use Rattle.channel_world_language.proofs.CommandLemmas.{form_of_found}
use Rattle.channel_world_language.proofs.command.verb_spelled.Goals as goal

pub returns : goal.returns
returns c =
    form_of_found c.args.word.now c.iter.result.rest.now call_commands (option_copied c.find.result) c.map.result
    (find_from_yields_List (λ r. bytes_eq c.args.word.now r.0.now) _ _ _ c.find.ensures.ran (YieldsList-from_slice c.iter.result.rest.now cc) (λ x b q k. search (rules, tests)))
    (search rules) (rw c.iter.ensures.rest refl)
