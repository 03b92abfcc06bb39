-- From the law that a poll of settling is the model's.
use Rattle.channel_world.proofs.Lemmas.{sym, PollsAlone, stands_led, name_state_of, call_leads, poll_of, world_state_of, inside_is}
use Rattle.channel_world_runs.proofs.WokenPolls.{woken_admitted}
use Rattle.channel_world.proofs.Polls.{poll_brings_within, poll_wakes_few, poll_answers}
use Rattle.channel_world.proofs.world.World.poll_woken.Goals as goal

pub poll_alone-requires-clause-room : goal.poll_alone-requires-clause-room
poll_alone-requires-clause-room g c =
    let k = c.keeps_names.ensures in
    rw (inside_is c.self.inside.world_state c.args.self.now c.self.view_is)
    (poll_wakes_few (world_state_of c.args.self.now) k.stands c.requires.quiet c.a_poll_of_settling_is_the_models.ensures c.args.name c.requires.woken _ _
    c.requires.room)

pub poll_alone-requires-clause-limit : goal.poll_alone-requires-clause-limit
poll_alone-requires-clause-limit g c =
    let k = c.keeps_names.ensures in
    rw (inside_is c.self.inside.world_state c.args.self.now c.self.view_is)
    (poll_brings_within (world_state_of c.args.self.now) k.stands c.requires.quiet c.a_poll_of_settling_is_the_models.ensures c.args.name c.requires.woken
    c.requires.limit)

pub returns-clause-leads : goal.returns-clause-leads
returns-clause-leads g c =
    let a = c.poll_alone.ensures in
    let old = (world_state_of c.args.self.now) in
    let p : PollsAlone c.args.name old c.args.names.items c.poll_alone.result.reply c.poll_alone.result.names.items c.poll_alone.new.self
    = rw (sym (inside_is c.self.inside.world_state c.args.self.now c.self.view_is)) a.polled in
    call_leads (poll_of c.args.name) old c.poll_alone.new.self c.poll_alone.result.reply p.woken c.requires.quiet
    (woken_admitted (name_state_of old) c.keeps_names.ensures.stands.configuration c.args.name c.keeps_names.ensures.stands.stands.kept.owned
    c.keeps_names.ensures.stands.stands.kept.woken c.requires.woken) p.called

pub invariant_of-self : goal.invariant_of-self
invariant_of-self g c =
    stands_led (world_state_of c.args.self.now) c.poll_alone.new.self _ c.keeps_names.ensures.stands (returns-clause-leads g c)

pub returns-clause-polled : goal.returns-clause-polled
returns-clause-polled g c =
    let k = c.keeps_names.ensures in
    poll_answers (world_state_of c.args.self.now) k.stands c.requires.quiet c.a_poll_of_settling_is_the_models.ensures c.args.name c.requires.woken
    c.poll_alone.new.self c.args.names.items c.poll_alone.result.reply c.poll_alone.result.names.items c.poll_alone.ensures.quiet
    (rw (sym (inside_is c.self.inside.world_state c.args.self.now c.self.view_is)) c.poll_alone.ensures.polled)
