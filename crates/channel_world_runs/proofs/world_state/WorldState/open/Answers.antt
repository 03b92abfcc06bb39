use Rattle.channel_world_runs.proofs.Lemmas.{arith, refl, common_steps, capacity_of, new_configuration}
use Rattle.channel_world_runs.proofs.WorldStateFacts.{new_shown, new_stands}
use Rattle.channel_world_runs.proofs.world_state.WorldState.open.Goals as goal

pub returns-clause-shown : goal.returns-clause-shown
returns-clause-shown g c = new_shown _ _ (capacity_of c.args.form) c.in_ok-open_channel.ensures.shown refl refl (grind (arith, common_steps)) c.new.ensures.items

pub returns-clause-stands : goal.returns-clause-stands
returns-clause-stands g c = record {
  configuration = new_configuration (capacity_of c.args.form);
  stands = new_stands _ (capacity_of c.args.form) (returns-clause-shown g c)
      (rw (c.new.ensures.items, c.in_ok-new.ensures, c.in_ok-new-2.ensures) refl);
}
