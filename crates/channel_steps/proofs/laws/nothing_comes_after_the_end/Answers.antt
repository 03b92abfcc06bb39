-- A reply that says the end found it at a moment of its call, and from then on no call gets a mark that takes.
use Rattle.channel_steps.proofs.every_run.Ends.{end_is_known, nothing_comes}
use Rattle.channel_steps.proofs.laws.nothing_comes_after_the_end.Goals as goal

pub returns : goal.returns
returns g c = record { known = end_is_known _ _; nothing = nothing_comes _ _ }
