-- From what every step of a run keeps.
use Rattle.channel_steps.proofs.every_run.BridgeHeadline.{merges_keep_the_headline}
use Rattle.channel_steps.proofs.laws.merges_keep_the_headline.Goals as goal

pub returns : goal.returns
returns g c = record { headline = merges_keep_the_headline _ _ _ _ }
