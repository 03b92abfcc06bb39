use Rattle.std.specs.Prelude.{◌≤◌, ◌≡◌}
use Rattle.channel_world_runs.proofs.Lemmas.{[], vec_capacity, arith, ◌∙◌, length, vec_len, refl, sym, ap, subst, slice_get_within, slice_get_read, after-set, get-set, LeadsByStep, CallUnderWay, Entry, WorldState, Vec, Waiter, Step, value_is, agents_kept}
use Rattle.channel_world_runs.proofs.WorldStateFacts.{has_stepped}
use Rattle.channel_world_runs.proofs.world_state.WorldState.go_on.Goals as goal

pub index_mut-call-requires : goal.index_mut-call-requires
index_mut-call-requires g c =
    let calls = c.args.self.now.calls in
    let found = c.in_ok-k.ensures in
    let few = slice_get_within calls.items c.in_ok-k.k found.0 found.1 in
    let size : vec_len calls ≡ length calls.items = calls.ok.0 in
    omega (arith, few, size)

pub returns-clause-some : goal.returns-clause-some
returns-clause-some g c =
    let calls = c.args.self.now.calls in
    let k = c.in_ok-k.k in
    let located = c.in_ok-k.ensures in
    let few = slice_get_within calls.items k located.0 located.1 in
    let size : vec_len calls ≡ length calls.items = calls.ok.0 in
    let x = c.index_mut-call.result.now in
    let d = c.step-reply.new.self in
    let there = slice_get_read calls.items calls.len k x (omega (arith, size)) (omega (arith, few, size)) c.index_mut-call.ensures.value in
    let found = located.1 in
    let same : x ≡ located.0 = cc in
    let whose = ap (λ (y : CallUnderWay g.row.T.Denot). y.party.id) same ∙ located.2 in
    let agents = agents_kept calls.items k x d there c.step-reply.ensures.agent in
    let calls_left = rw c.wake_from.ensures at c.write_back.ensures.calls in
    let names_left = rw c.wake_from.ensures at c.write_back.ensures.names in
    let rest = rw c.wake_from.ensures at c.write_back.ensures.rest in
    let entry : Entry g.row.T.Denot = record { mark = c.last_mark-mark.result; woken = c.step-reply.new.sink.names; reply = c.step-reply.result } in
    subst (λ (f : WorldState g.row.T.Denot). LeadsByStep (Step.Step c.args.party) c.args.self.now entry f) (sym rest)
    (has_stepped c.args.party k c.most_listeners-room.result c.brought_in.result x d c.args.self.now _ (record { names = c.in_ok-names.names }) c.step-reply.new.sink entry
    there whose c.step-reply.ensures.steps c.last_mark-mark.ensures c.step-reply.ensures.activity
    (calls_left ∙ after-set calls.items k d c.step-reply.result)
    (value_is (λ (ns : Vec Waiter). ns.items ≡ []) _ _ c.in_ok-names.ensures.value c.with_capacity.ensures.items) c.most_listeners-room.ensures (value_is (λ (ns : Vec Waiter). c.most_listeners-room.result ≤ vec_capacity ns) _ _ c.in_ok-names.ensures.value c.with_capacity.ensures.capacity) refl
    (rw (sym c.step-reply.ensures.agent, sym agents)
    (names_left d (get-set calls.items k d x there)))
    c.counted-self.ensures c.brought_in.ensures c.saturating_add-self.ensures refl c.requires.accepted)
