-- From what a poll asks of one that was woken, the names, and the order of waking.
use Rattle.channel_world_runs.proofs.rest.LoneAnswers.{they_poll}
use Rattle.channel_world_runs.proofs.rest_laws.a_poll_of_settling_is_the_models.Goals as goal

pub returns : goal.returns
returns g c = they_poll _
