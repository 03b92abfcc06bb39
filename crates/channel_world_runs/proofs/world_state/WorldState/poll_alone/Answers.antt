use Rattle.std.specs.Prelude.{◌≡◌, ◌-◌}
use Rattle.channel_world_runs.proofs.Lemmas.{arith, drop, length, vec_len, vec_capacity, ap, ◌∙◌, poll_of, Call, BeginsByName, brings, name_state_of}
use Rattle.channel_world_runs.proofs.LoneFacts.{is_at_rest, is_called}
use Rattle.channel_world_runs.proofs.NodeFacts.{is_ample}
use Rattle.channel_world_runs.proofs.PollFacts.{Heard, names_heard}
use Rattle.channel_world_runs.proofs.WokenPolls.{poll_keeps_place}
use Rattle.channel_world_runs.proofs.world_state.WorldState.poll_alone.Given.{Over}
use Rattle.channel_world_runs.proofs.world_state.WorldState.poll_alone.Goals as goal

pub finish-reply-requires : goal.finish-reply-requires
finish-reply-requires g c =
    let o = c.requires.stands in
    record { at_rest = is_at_rest c.args.self.now o.configuration o.stands.shown c.requires.quiet }

begins : (g : Over) (c : goal.After-finish-reply g)
    → BeginsByName c.args.self.now.name_table (poll_of c.args.name) c.begin_named-begun.result c.begin_named-begun.new.self
begins g c = rw c.poll_of-poll.ensures at c.begin_named-begun.ensures

heard : (g : Over) (c : goal.After-finish-reply g) → Heard c.args.names c.finish-reply.result.woken
heard g c =
    let by_name = begins g c in
    let start : vec_len c.args.names ≡ length c.args.names.items = c.args.names.ok.0 in
    names_heard (poll_of c.args.name) c.args.self.now c.finish-reply.new.self _ _ _ _ _ c.finish-reply.result
    (vec_capacity c.args.names - vec_len c.args.names) c.finish-reply.ensures by_name.ask c.requires.stands c.requires.quiet
    (omega (arith, start)) c.requires.room

pub returns-clause-polled : goal.returns-clause-polled
returns-clause-polled g c =
    let old = c.args.self.now in
    let h = heard g c in
    let start : vec_len c.args.names ≡ length c.args.names.items = c.args.names.ok.0 in
    record {
      woken = drop (length c.args.names.items) c.finish-reply.result.woken.items;
      names = h.names;
      called = is_called (poll_of c.args.name) old c.finish-reply.new.self _ _ _ _ _ c.finish-reply.result
          (vec_capacity c.args.names - vec_len c.args.names) c.finish-reply.ensures (begins g c)
          (λ s all. c.rest.ensures ∙ poll_keeps_place (name_state_of old) s c.args.name all.woken c.requires.woken)
          (c.brings-brings.ensures ∙ ap (λ (x : Call g.row.T.Denot). brings old.name_table x) c.poll_of-poll.ensures)
          c.requires.quiet c.requires.limit (omega (arith, start)) c.requires.room;
    }

pub returns-clause-capacity : goal.returns-clause-capacity
returns-clause-capacity g c = let h = heard g c in h.capacity

pub returns-clause-ample : goal.returns-clause-ample
returns-clause-ample g c =
    let by_name = begins g c in
    is_ample c.args.self.now c.args.name c.begin_named-begun.result.ask c.finish-reply.result.reply c.requires.stands c.requires.woken
    by_name.ask c.finish-reply.ensures.ample
