-- From what is asked and refused, the names, and the order of waking.
use Rattle.channel_world_runs.proofs.rest.LoneAnswers.{they_agree, they_answer}
use Rattle.channel_world_runs.proofs.rest_laws.a_call_made_alone_is_the_models.Goals as goal

pub returns : goal.returns
returns g c = record { refused = they_agree _; answered = they_answer _ }
