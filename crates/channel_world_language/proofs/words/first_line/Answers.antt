use Rattle.channel_world_language.proofs.WordLemmas.{first_line_at, last_line}
use Rattle.std.proofs.Common.{rules, ◌≡◌, length}
use Rattle.channel_world_language.proofs.words.first_line.Goals as goal

pub returns-in-Some-clause-lines : goal.returns-in-Some-clause-lines
returns-in-Some-clause-lines c = first_line_at c.args.text.now c.in-Some.i c.in-Some.ensures

pub returns-in-None-clause-lines : goal.returns-in-None-clause-lines
returns-in-None-clause-lines c = let filled : length c.args.text.now ≡ 0 → ⊥ = search rules in last_line c.args.text.now c.in-None.ensures filled
