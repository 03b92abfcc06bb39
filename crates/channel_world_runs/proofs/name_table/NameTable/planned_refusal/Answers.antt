-- What the names are that one call at a time sees.
use Rattle.channel_world_runs.proofs.Words.{◌∙◌, inl, inr, Any}
use Rattle.channel_world_runs.proofs.RefusalLemmas.{then_taken, through_seen, taking_seen, both_seen, polling_seen, asking_seen, operation_taken, handle_taken}
use Rattle.channel_world_model.specs.declared.plan.Wanted.TheVariants.{Receiver}
use Rattle.channel_world_runs.proofs.name_table.NameTable.planned_refusal.Goals as goal

pub returns-in-Through : goal.returns-in-Through
returns-in-Through g c = rw c.in-Through.is (c.through_refusal.ensures ∙ through_seen c.args.self.now c.in-Through.wanted c.in-Through.handle)

pub returns-in-ThroughBoth : goal.returns-in-ThroughBoth
returns-in-ThroughBoth g c = rw c.in-ThroughBoth.is (c.unlike_handles.ensures ∙ both_seen c.args.self.now c.in-ThroughBoth.a c.in-ThroughBoth.b)

pub returns-in-Makes : goal.returns-in-Makes
returns-in-Makes g c =
    rw c.in-Makes.is (c.or.ensures
    ∙ then_taken (c.through_refusal-in-Makes.ensures ∙ through_seen c.args.self.now c.in-Makes.wanted c.in-Makes.handle) c.then_some-taken.ensures
    (c.is_taken.ensures ∙ operation_taken c.args.self.now c.in-Makes.op))

pub returns-in-Polls : goal.returns-in-Polls
returns-in-Polls g c =
    let told = c.unfit_operation.ensures ∙ polling_seen c.args.self.now c.in-Polls.op in
    elim c.in-Polls.is [ inl polls ↦ rw polls told | inr gives_up ↦ rw gives_up told ]

pub returns-in-Asks : goal.returns-in-Asks
returns-in-Asks g c = rw c.in-Asks.is (c.unfit_send.ensures ∙ asking_seen c.args.self.now c.in-Asks.op)

pub returns-in-Streams : goal.returns-in-Streams
returns-in-Streams g c = rw c.in-Streams.is (c.taking_refusal.ensures ∙ taking_seen c.args.self.now Receiver c.in-Streams.receiver)

pub returns-in-Drops : goal.returns-in-Drops
returns-in-Drops g c = rw c.in-Drops.is (c.taking_refusal-in-Drops.ensures ∙ taking_seen c.args.self.now Any c.in-Drops.handle)

pub returns-in-Mints : goal.returns-in-Mints
returns-in-Mints g c =
    rw c.in-Mints.is (c.or-in-Mints.ensures
    ∙ then_taken (c.through_refusal-in-Mints.ensures ∙ through_seen c.args.self.now c.in-Mints.wanted c.in-Mints.from) c.then_some-taken-in-Mints.ensures
    (c.is_taken-in-Mints.ensures ∙ handle_taken c.args.self.now c.in-Mints.new))
