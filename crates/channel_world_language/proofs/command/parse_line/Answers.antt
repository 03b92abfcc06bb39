-- From the verb of the first word, and what is read after it.
use Rattle.std.proofs.Common.{rules, ◌≡◌, ◌∙◌, sym, ap, Option, Some, option_copied, nat_lt, false, length}
use Rattle.std.specs.Option.{option_map}
use Rattle.channel_world_language.proofs.CommandLemmas.{line_says}
use Rattle.channel_world_language.proofs.command.parse_line.Goals as goal
use Rattle.channel_world_language.specs.Command.{read}
use Rattle.channel_world_language.specs.Said.{said_line, form_of}
use Rattle.channel_world_language.specs.Words.{words_after}
use Rattle.channel_world_language.specs.declared.command.Verb.{Verb}

pub returns-in-Some : goal.returns-in-Some
returns-in-Some c =
    let short : nat_lt 200 (length c.args.line.now) ≡ false = search rules in
    let is : c.verb_spelled.result ≡ Some c.in-Some.verb = search rules in
    let says : option_map said_line c.map.result ≡ read (form_of c.in-Some.verb) (words_after (option_copied c.first_word.result.1)) = search rules in
    says ∙ sym (line_says c.args.line.now c.first_word.result.0.now _ c.in-Some.verb short c.first_word.ensures
    (sym (ap (λ (o : Option Verb). option_map form_of o) is) ∙ c.verb_spelled.ensures))
