-- From the accounts of one thing done after another.
use Rattle.channel_world.proofs.Lemmas.{leads_nowhere, leads_on, led_further, world_state_of}
use Rattle.channel_world.proofs.laws.what_is_done_in_turn_leads_on.Goals as goal

pub returns : goal.returns
returns g c = record {
  nothing = λ w. record { on = leads_nowhere (world_state_of w) };
  in_turn = λ w x y rs ss first second. record { on = leads_on (world_state_of w) (world_state_of x) (world_state_of y) rs ss first.on second.on };
  further = λ x y s rs ss led second. led_further (world_state_of x) (world_state_of y) s rs ss led second.on;
}
