use Rattle.std.specs.Prelude.{◌≡◌}
use Rattle.channel_world_runs.proofs.Words.{List, map, refl, sym, ap, ◌∙◌, remove, get_or_from_slice_get, agent_of, CallUnderWay}
use Rattle.channel_world_runs.proofs.CallFacts.{agents_left}
use Rattle.channel_world_runs.proofs.world_state.WorldState.write_back.Goals as goal

pub returns-in-Some-clause-names : goal.returns-in-Some-clause-names
returns-in-Some-clause-names g c = λ x there.
    let calls = c.args.self.now.calls.items in
    let y = c.remove-call.result in
    let same : y ≡ x = c.remove-call.ensures.value ∙ get_or_from_slice_get calls c.args.k x y there in
    let agents : map (agent_of {T = g.row.T.Denot}) c.remove-call.new.self.items ≡ remove (map agent_of calls) c.args.k =
    ap (λ (cs : List (CallUnderWay g.row.T.Denot)). map agent_of cs) c.remove-call.ensures.items ∙ agents_left calls c.args.k y c.in-Some.reply in
    rw (c.in-Some.is, sym same, agents, c.settle-in-Some.ensures, c.settle.ensures, c.into_kept-kept.ensures) refl
