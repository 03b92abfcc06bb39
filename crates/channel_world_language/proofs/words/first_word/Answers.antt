use Rattle.channel_world_language.proofs.WordLemmas.{first_word_at, split_nowhere}
use Rattle.channel_world_language.proofs.words.first_word.Goals as goal

pub returns-in-Some : goal.returns-in-Some
returns-in-Some c = first_word_at c.args.text.now c.in-Some.i c.in-Some.ensures

pub returns-in-None : goal.returns-in-None
returns-in-None c = split_nowhere _ c.args.text.now c.in-None.ensures
