use Rattle.channel_world_runs.proofs.Lemmas.{refl, name_state_of, admitted, on_ok}
use Rattle.channel_world_runs.proofs.OwnerRuns.{idle_and_free}
use Rattle.channel_world_runs.proofs.WorldStateFacts.{has_begun}
use Rattle.channel_world_runs.proofs.world_state.WorldState.start.Goals as goal

pub begin-requires-2 : goal.begin-requires-2
begin-requires-2 g c =
    let accepted = idle_and_free c.args.party c.args.call (name_state_of c.args.self.now) c.requires.accepted in
    let a = admitted c.args.self.now.name_table c.args.call accepted.1 in a.new

pub returns-clause-ok : goal.returns-clause-ok
returns-clause-ok g c =
    let b = c.in_ok-begun.ensures.ok in
    has_begun c.args.party c.args.call c.args.self.now _ _ c.begun.result
    (rw (← b.ask) c.begun.ensures.begins) (rw (← b.on_return) c.begun.ensures.agent) (rw (← b.ask) c.begun.ensures.activity)
    (rw (c.push_reserved.ensures.items, c.reserve.ensures.items) refl)
    refl refl c.new.ensures.items refl b.names (on_ok _ _ c.if-is_err-2.ensures.value c.begin.ensures.ok) refl refl refl
    (c.if-not-has_position.ensures.enough refl) c.requires.accepted
