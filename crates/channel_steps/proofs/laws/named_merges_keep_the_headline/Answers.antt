-- From the merge behind, with its names alone.
use Rattle.channel_steps.proofs.every_run.Named.{named_merges_keep_the_headline}
use Rattle.channel_steps.proofs.laws.named_merges_keep_the_headline.Goals as goal

pub returns : goal.returns
returns g c = record { headline = named_merges_keep_the_headline _ _ _ _ g.S.Wakes.wakes }
