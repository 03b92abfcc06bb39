use Rattle.std.specs.Prelude.{◌≡◌}
use Rattle.channel_world_runs.proofs.Words.{length, refl, ◌∙◌}
use Rattle.channel_world_runs.proofs.world_state.WorldState.finish.Goals as goal

pub returns : goal.returns
returns g c =
    let from_is : c.len-from.result ≡ length c.args.names.items = c.len-from.ensures ∙ c.args.names.ok.0 in
    record {
      kept = c.run_alone-reply.result.kept;
      run = rw c.wake_from.ensures c.run_alone-reply.ensures.configurations;
      ample = c.run_alone-reply.ensures.ample;
      name_table = rw (c.settle-2.ensures, c.wake_from.ensures) refl;
      order = rw (c.settle.ensures, c.wake_from.ensures, from_is) refl;
      accepted = rw (c.wake_from.ensures, c.saturating_add-self.ensures, c.accepted_by.ensures) refl;
      calls = rw c.wake_from.ensures refl;
      place = rw c.wake_from.ensures refl;
    }
