-- From the number of tasks; a call that closes nothing wakes two more than the streams at most.
use Rattle.std.specs.Prelude.{◌+◌, ◌≤◌}
use Rattle.channel_world.proofs.Lemmas.{arith, rules, IfSome, length, subst, sym, parts_in, WorldState, Call, at_rest, most_woken, untold_count, few_tasks, closes_nothing, no_less, world_state_of, inside_is}
use Rattle.channel_world.proofs.world.World.room_for.Goals as goal

pub returns-in_default : goal.returns-in_default
returns-in_default g c =
    let f = c.self.inside.world_state in
    let few = few_tasks (parts_in f).wait_lists.streams.waiting in
    let most = closes_nothing c.args.call.now (at_rest f).waiting c.in_default.not-Close c.in_default.not-Drop c.in_default.not-RecvMany in
    let count = c.waiting-streams.ensures in
    subst (λ (x : WorldState g.row.T.Denot). IfSome c.checked_add.result (λ n. most_woken c.args.call.now (at_rest x).waiting ≤ n)) (inside_is c.self.inside.world_state c.args.self.now c.self.view_is)
    (no_less _ c.checked_add.result _ (c.waiting-streams.result + 2) c.checked_add.ensures (omega (arith, few, most, count)))

pub returns-in-RecvMany : goal.returns-in-RecvMany
returns-in-RecvMany g c =
    let f = c.self.inside.world_state in
    let few = few_tasks (parts_in f).wait_lists.sends.waiting in
    let count = c.waiting-sends.ensures in
    let enough : length (at_rest f).waiting.sends ≤ c.waiting-sends.result = omega (arith, few, count) in
    subst (λ (x : Call g.row.T.Denot). most_woken x (at_rest (world_state_of c.args.self.now)).waiting ≤ c.waiting-sends.result) (sym c.in-RecvMany.is)
    (subst (λ (x : WorldState g.row.T.Denot). length (at_rest x).waiting.sends ≤ c.waiting-sends.result) (inside_is c.self.inside.world_state c.args.self.now c.self.view_is) enough)

pub returns-in_ok-listening-in-Close : goal.returns-in_ok-listening-in-Close
returns-in_ok-listening-in-Close g c =
    let r = (parts_in c.self.inside.world_state).wait_lists in
    let a = few_tasks r.sends.waiting in
    let b = few_tasks r.receives.waiting in
    let d = few_tasks r.streams.waiting in
    let e = few_tasks r.closings.waiting in
    let ca = c.waiting-sends.ensures in
    let cb = c.waiting.ensures in
    let cd = c.waiting-streams.ensures in
    let ce = c.waiting-in-Close.ensures in
    let ab = c.in_ok-messengers-in-Close.ensures.1 in
    let de = c.in_ok-listening-in-Close.ensures.1 in
    let all : IfSome c.checked_add-in-Close-3.result (λ n. untold_count (at_rest (world_state_of c.args.self.now)).waiting ≤ n) =
    subst (λ (x : WorldState g.row.T.Denot). IfSome c.checked_add-in-Close-3.result (λ n. untold_count (at_rest x).waiting ≤ n)) (inside_is c.self.inside.world_state c.args.self.now c.self.view_is)
    (no_less _ c.checked_add-in-Close-3.result _ (c.in_ok-messengers-in-Close.messengers + c.in_ok-listening-in-Close.listening) c.checked_add-in-Close-3.ensures
    (omega (arith, a, b, d, e, ca, cb, cd, ce, ab, de))) in
    search (all, rules)
