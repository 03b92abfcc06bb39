use Rattle.channel_world_runs.proofs.Lemmas.{arith, List, length, drop, refl, ap, subst, Waiter, CallsAlone, admitted, on_ok}
use Rattle.channel_world_runs.proofs.LoneFacts.{brings_within, is_at_rest, is_called}
use Rattle.channel_world_runs.proofs.world_state.WorldState.call_alone.Goals as goal

pub begin-requires-2 : goal.begin-requires-2
begin-requires-2 g c = let a = admitted c.args.self.now.name_table c.args.call c.requires.accepted in a.new

pub finish-requires : goal.finish-requires
finish-requires g c =
    let o = c.requires.stands in
    record { at_rest = is_at_rest c.args.self.now o.configuration o.stands.shown c.requires.quiet }

pub returns-clause-ok : goal.returns-clause-ok
returns-clause-ok g c =
    let start = ap (λ (ws : List Waiter). length ws) c.in-Ok.ensures.items in
    subst (λ (ws : List Waiter). CallsAlone c.args.call c.args.self.now c.finish.result.reply (drop (length ws) c.finish.result.woken.items) c.finish.new.self)
    c.in-Ok.ensures.items
    (is_called c.args.call c.args.self.now _ _ _ _ _ _ _ c.args.room c.finish.ensures c.in_ok-begun.ensures.ok
    (λ s all. on_ok _ _ c.if-is_err.ensures.value c.begin.ensures.ok) c.brings-brings.ensures c.requires.quiet
    (brings_within c.args.call c.args.self.now (c.if-not-has_position.ensures.enough refl)) (omega (arith, start, c.in-Ok.ensures.capacity))
    c.requires.room)
