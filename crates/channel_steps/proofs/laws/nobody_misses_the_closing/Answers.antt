-- Who closes tells all lists, and one that comes in after it finds the channel closed.
use Rattle.channel_steps.proofs.every_run.Closings.{closing_stays_owed, nobody_misses_the_closing}
use Rattle.channel_steps.proofs.laws.nobody_misses_the_closing.Goals as goal

pub returns : goal.returns
returns g c = record { kept = closing_stays_owed _ _; owed = nobody_misses_the_closing _ _ }
