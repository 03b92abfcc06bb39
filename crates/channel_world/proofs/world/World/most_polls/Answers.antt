-- From the numbers of those that are pending on each line.
use Rattle.std.specs.Prelude.{◌+◌, ◌*◌, ◌≡◌}
use Rattle.channel_world.proofs.Lemmas.{arith, ◌∙◌, List, length, vec_len, ap, Waiter, at_rest, just_it, world_state_of}
use Rattle.channel_world.proofs.SettleFacts.{just_so_many}
use Rattle.channel_world.proofs.world.World.most_polls.Goals as goal

pub returns : goal.returns
returns g c =
    let s = at_rest (world_state_of c.args.self.now) in
    let sends = c.in_ok-sends.sends in
    let receives = c.in_ok-receives.receives in
    let streams = c.in_ok-streams.streams in
    let woken : vec_len c.args.woken.now ≡ length s.waiting.woken = c.args.woken.now.ok.0 ∙ ap (λ (ws : List Waiter). length ws) c.requires.woken in
    let all = just_so_many s (vec_len c.args.woken.now) sends receives streams woken c.in_ok-sends.ensures c.in_ok-receives.ensures c.in_ok-streams.ensures in
    let sum-each = c.in_ok-checked_add.ensures.1 in
    let by-sends = c.in_ok-by_sends.ensures.1 in
    let by-receives = c.in_ok-checked_mul.ensures.1 in
    let sum-others = c.in_ok-others.ensures.1 in
    let sum-later = c.in_ok-checked_add-2.ensures.1 in
    let each : c.in_ok-checked_add.field-0 ≡ streams + 2 = omega (arith, sum-each) in
    let product : sends * c.in_ok-checked_add.field-0 ≡ sends * (streams + 2) = ap (λ n. sends * n) each in
    just_it _ c.checked_add-4.result _ (c.in_ok-checked_add-2.field-0 + c.len.result) c.checked_add-4.ensures
    (omega (arith, all, product, by-sends, by-receives, sum-others, sum-later, c.len.ensures))
