-- From the number of pending sends; where nobody is woken there is nobody for whom a position is asked.
use Rattle.std.specs.Prelude.{◌≡◌}
use Rattle.channel_world.proofs.Lemmas.{arith, rules, List, length, ap, sym, ◌∙◌, vec_len, eqb-true, Waiter, at_rest, world_state_of}
use Rattle.channel_world.proofs.Positions.{fewer_positions, nobody_there}
use Rattle.channel_world.proofs.world.World.has_positions_to_settle.Goals as goal

pub returns-then-is_empty-clause-enough : goal.returns-then-is_empty-clause-enough
returns-then-is_empty-clause-enough g c =
    let woken = (at_rest (world_state_of c.args.self.now)).waiting.woken in
    let long : length woken ≡ vec_len c.args.woken.now = ap (λ (ws : List Waiter). length ws) (sym c.requires.woken) ∙ sym c.args.woken.now.ok.0 in
    let none : vec_len c.args.woken.now ≡ 0 = eqb-true (vec_len c.args.woken.now) 0 (sym c.is_empty.ensures ∙ c.if-is_empty.true) in
    λ ok name there. absurd (nobody_there woken name (omega (arith, long, none)) there)

pub returns-in-Some-clause-enough : goal.returns-in-Some-clause-enough
returns-in-Some-clause-enough g c =
    λ ok name there. let so = c.in-Some.ensures in fewer_positions (world_state_of c.args.self.now) _ _ (omega (arith, so)) (c.has_positions.ensures.enough (search rules))
