-- From the loop: the polls so far, and what is to come.
use Rattle.std.specs.Prelude.{◌≡◌}
use Rattle.channel_world.proofs.Lemmas.{arith, rules, ◌∙◌, slice_get, Some, vec_len, refl, slice_get_read, leads_nowhere, stands_led, polls_in, at_rest, leads_polled, world_state_of}
use Rattle.channel_world.proofs.SleepFacts.{no_receive_goes_on, no_send_goes_on, no_stream_goes_on}
use Rattle.channel_world.proofs.ComingIn.{still_within}
use Rattle.channel_world.proofs.NumberFacts.{messages_at_rest, pending_at_rest}
use Rattle.channel_world.proofs.Polls.{awake_at_rest}
use Rattle.channel_world.proofs.Positions.{fewer_positions, one_position, positions_on}
use Rattle.channel_world.proofs.SettleFacts.{NextPoll, Rests, ample_pushed, few_told, goes_first, goes_on, goes_pushed, goes_end, next_poll, one_poll}
use Rattle.channel_world.proofs.world.World.settle.Given.{Over}
use Rattle.channel_world.proofs.world.World.settle.Goals as goal

pub loop-names-init : goal.loop-names-init
loop-names-init g c =
    let now = (world_state_of c.args.self.now) in
    let awake = awake_at_rest now c.keeps_names.ensures.stands c.requires.quiet c.a_channel_at_rest_is_a_world.ensures.as_in_the_world in
    let r = c.in-Some.ensures in
    record {
      goes = rw r.polls (goes_first (at_rest now) _ awake r.names);
      quiet = c.requires.quiet;
      ample = rw r.polls refl;
      leads = rw r.polls (leads_nowhere now);
      names = r.room;
      polls = r.answers;
      places = λ name there. fewer_positions now _ _ (still_within (at_rest now) awake) (r.places name there);
    }

pub poll_woken-reply-requires-clause-quiet : goal.poll_woken-reply-requires-clause-quiet
poll_woken-reply-requires-clause-quiet g c = c.loop-names.invariant.quiet

next_up : (g : Over) (c : goal.After-poll_woken-arg-1 g)
    → NextPoll (at_rest (world_state_of c.args.self.now)) (at_rest (world_state_of c.loop-names.self)) c.loop-names.polls.items c.loop-names.names.items c.index-name.result.now
next_up g c =
    let names = c.loop-names.names in
    let polls = c.loop-names.polls in
    let place = c.len-in-loop-names-2.result in
    let name = c.index-name.result.now in
    let here : slice_get names.items place ≡ Some name =
    slice_get_read names.items (vec_len names) place name names.ok.0 (search rules) c.index-name.ensures in
    next_poll (at_rest (world_state_of c.args.self.now)) (at_rest (world_state_of c.loop-names.self)) polls.items names.items place name c.loop-names.invariant.goes
    (c.len-in-loop-names-2.ensures ∙ polls.ok.0) here

pub poll_woken-reply-requires-clause-woken : goal.poll_woken-reply-requires-clause-woken
poll_woken-reply-requires-clause-woken g c = let next = next_up g c in next.woken

pub poll_woken-reply-requires-clause-limit : goal.poll_woken-reply-requires-clause-limit
poll_woken-reply-requires-clause-limit g c =
    let next = next_up g c in
    let i = c.loop-names.invariant in
    let before = c.keeps_names.ensures.stands in
    let now = stands_led (world_state_of c.args.self.now) (world_state_of c.loop-names.self) _ before i.leads in
    one_position (world_state_of c.loop-names.self) now i.quiet (let goes = i.goes in goes.awake) c.index-name.result.now next.front (i.places c.index-name.result.now next.woken)

pub poll_woken-reply-requires-clause-room : goal.poll_woken-reply-requires-clause-room
poll_woken-reply-requires-clause-room g c =
    let next = next_up g c in
    λ a says.
    let one = next.room a says in
    let room = c.loop-names.invariant.names in
    let long = c.loop-names.names.ok.0 in
    omega (arith, one, room, long)

pub push_reserved-requires : goal.push_reserved-requires
push_reserved-requires g c =
    let names = c.loop-names.names in
    let polls = c.loop-names.polls in
    let place = c.len-in-loop-names-2.result in
    let name = c.index-name.result.now in
    let here : slice_get names.items place ≡ Some name =
    slice_get_read names.items (vec_len names) place name names.ok.0 (search rules) c.index-name.ensures in
    let next = next_poll (at_rest (world_state_of c.args.self.now)) (at_rest (world_state_of c.loop-names.self)) polls.items names.items place name c.loop-names.invariant.goes
    (c.len-in-loop-names-2.ensures ∙ polls.ok.0) here in
    let left = next.left in
    let room = c.loop-names.invariant.polls in
    let count = polls.ok.0 in
    omega (arith, left, room, count)

next_made : (g : Over) (c : goal.After-push_reserved g)
    → NextPoll (at_rest (world_state_of c.args.self.now)) (at_rest (world_state_of c.loop-names.self)) c.loop-names.polls.items c.loop-names.names.items c.index-name.result.now
next_made g c =
    let names = c.loop-names.names in
    let polls = c.loop-names.polls in
    let place = c.len-in-loop-names-2.result in
    let name = c.index-name.result.now in
    let here : slice_get names.items place ≡ Some name =
    slice_get_read names.items (vec_len names) place name names.ok.0 (search rules) c.index-name.ensures in
    next_poll (at_rest (world_state_of c.args.self.now)) (at_rest (world_state_of c.loop-names.self)) polls.items names.items place name c.loop-names.invariant.goes
    (c.len-in-loop-names-2.ensures ∙ polls.ok.0) here

pub loop-names-preserved : goal.loop-names-preserved
loop-names-preserved g c =
    let next = next_made g c in
    let polls = c.loop-names.polls in
    let names = c.loop-names.names in
    let name = c.index-name.result.now in
    let e = c.poll_woken-reply.ensures in
    let after = c.poll_woken-reply.result in
    let u = at_rest (world_state_of c.poll_woken-reply.new.self) in
    let pushed = c.push_reserved.ensures in
    let i = c.loop-names.invariant in
    let more = e.capacity in
    let wider = pushed.capacity in
    let a = i.names in
    let b = i.polls in
    let before = c.keeps_names.ensures.stands in
    let now = stands_led (world_state_of c.args.self.now) (world_state_of c.loop-names.self) _ before i.leads in
    record {
      goes = goes_pushed (at_rest (world_state_of c.args.self.now)) u polls.items c.push_reserved.new.self.items name after.reply after.names.items pushed.items
          (goes_on (at_rest (world_state_of c.args.self.now)) (at_rest (world_state_of c.loop-names.self)) (polls_in polls.items) names.items name i.goes next.front u after.reply after.names.items e.polled);
      quiet = e.quiet;
      ample = ample_pushed polls.items c.push_reserved.new.self.items name after.reply pushed.items i.ample e.ample;
      leads = leads_polled (world_state_of c.args.self.now) (world_state_of c.loop-names.self) (world_state_of c.poll_woken-reply.new.self) polls.items c.push_reserved.new.self.items _ pushed.items i.leads e.leads;
      names = omega (arith, more, a);
      polls = omega (arith, wider, b);
      places = λ other woken.
          positions_on (world_state_of c.loop-names.self) now i.quiet (let goes = i.goes in goes.awake) name next.front
          (world_state_of c.poll_woken-reply.new.self) names.items after.reply after.names.items e.polled e.place e.accepted (i.places name next.woken);
    }

pub loop-names-smaller : goal.loop-names-smaller
loop-names-smaller g c =
    let next = next_made g c in
    let left = next.left in
    let longer = c.push_reserved.ensures.len in
    let count = c.loop-names.polls.ok.0 in
    omega (arith, left, longer, count)

ended : (g : Over) (c : goal.After-drop-names g)
    → Rests (at_rest (world_state_of c.args.self.now)) (at_rest (world_state_of c.loop-names.self)) c.loop-names.polls.items
ended g c =
    let names = c.loop-names.names in
    let polls = c.loop-names.polls in
    goes_end (at_rest (world_state_of c.args.self.now)) (at_rest (world_state_of c.loop-names.self)) polls.items names.items c.loop-names.invariant.goes
    (let a = names.ok.0 in let b = polls.ok.0 in omega (arith, a, b, c.loop-names-test.false))

pub returns-clause-polls : goal.returns-clause-polls
returns-clause-polls g c = let end = ended g c in end.settles

pub returns-clause-few : goal.returns-clause-few
returns-clause-few g c = let end = ended g c in let few = end.few in let b = c.loop-names.polls.ok.0 in rw b few

pub returns-clause-short : goal.returns-clause-short
returns-clause-short g c = let end = ended g c in let short = end.short in let b = c.loop-names.polls.ok.0 in rw b short

pub returns-clause-room : goal.returns-clause-room
returns-clause-room g c = c.loop-names.invariant.polls

pub returns-clause-ample : goal.returns-clause-ample
returns-clause-ample g c = c.loop-names.invariant.ample

pub returns-clause-nobody_woken : goal.returns-clause-nobody_woken
returns-clause-nobody_woken g c =
    let names = c.loop-names.names in
    let polls = c.loop-names.polls in
    let end = goes_end (at_rest (world_state_of c.args.self.now)) (at_rest (world_state_of c.loop-names.self)) polls.items names.items c.loop-names.invariant.goes
    (let a = names.ok.0 in let b = polls.ok.0 in omega (arith, a, b, c.loop-names-test.false)) in
    end.rests.0

pub returns-clause-closing : goal.returns-clause-closing
returns-clause-closing g c = let end = ended g c in let n = end.rests.1 in n.opened

pub returns-clause-quiet : goal.returns-clause-quiet
returns-clause-quiet g c = c.loop-names.invariant.quiet

pub returns-clause-leads : goal.returns-clause-leads
returns-clause-leads g c = record { on = c.loop-names.invariant.leads }

pub returns-clause-stands : goal.returns-clause-stands
returns-clause-stands g c =
    let before = c.keeps_names.ensures.stands in
    stands_led (world_state_of c.args.self.now) (world_state_of c.loop-names.self) _ before c.loop-names.invariant.leads

pub returns-clause-few_pending : goal.returns-clause-few_pending
returns-clause-few_pending g c =
    let end = ended g c in
    let before = c.keeps_names.ensures.stands in
    let rests = c.a_channel_at_rest_is_a_world.ensures.as_in_the_world in
    let pending = pending_at_rest (world_state_of c.args.self.now) before rests c.keeps_names.ensures.apart c.requires.quiet in
    let few = end.few in
    let b = c.loop-names.polls.ok.0 in
    few_told _ _ _ _ b pending few

pub returns-clause-one_pending : goal.returns-clause-one_pending
returns-clause-one_pending g c =
    λ one. one_poll _ _ one (returns-clause-few_pending g c)

pub returns-clause-receives : goal.returns-clause-receives
returns-clause-receives g c =
    let end = ended g c in
    no_receive_goes_on (world_state_of c.loop-names.self) (messages_at_rest (world_state_of c.loop-names.self) (returns-clause-stands g c) c.loop-names.invariant.quiet) end.rests.1

pub returns-clause-streams : goal.returns-clause-streams
returns-clause-streams g c =
    let end = ended g c in
    no_stream_goes_on (world_state_of c.loop-names.self) (messages_at_rest (world_state_of c.loop-names.self) (returns-clause-stands g c) c.loop-names.invariant.quiet) end.rests.1

pub returns-clause-sends : goal.returns-clause-sends
returns-clause-sends g c =
    let end = ended g c in
    no_send_goes_on (world_state_of c.loop-names.self) (messages_at_rest (world_state_of c.loop-names.self) (returns-clause-stands g c) c.loop-names.invariant.quiet) end.rests.1

pub returns-in_default-clause-stands : goal.returns-in_default-clause-stands
returns-in_default-clause-stands g c = c.keeps_names.ensures.stands
