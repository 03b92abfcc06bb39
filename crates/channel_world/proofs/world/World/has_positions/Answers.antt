use Rattle.std.specs.Prelude.{◌≡◌}
use Rattle.channel_world.proofs.Lemmas.{Some, IsTrue, inl, subst, HasPositions, WorldState, at_rest, inside_is}
use Rattle.channel_world_runs.proofs.ShownFacts.{one_place}
use Rattle.channel_world.proofs.world.World.has_positions.Goals as goal

pub returns-clause-enough : goal.returns-clause-enough
returns-clause-enough g c =
    subst (λ (f : WorldState g.row.T.Denot). IsTrue c.has_positions.result → HasPositions c.args.count f) (inside_is c.self.inside.world_state c.args.self.now c.self.view_is)
    c.has_positions.ensures.enough

pub returns-clause-all : goal.returns-clause-all
returns-clause-all g c =
    subst (λ (f : WorldState g.row.T.Denot). HasPositions c.args.count f → IsTrue c.has_positions.result) (inside_is c.self.inside.world_state c.args.self.now c.self.view_is)
    c.has_positions.ensures.all

pub returns-clause-one_place : goal.returns-clause-one_place
returns-clause-one_place g c =
    let o = c.self.invariant in
    subst (λ (f : WorldState g.row.T.Denot). (at_rest f).channel.capacity ≡ Some 1 → IsTrue c.has_positions.result) (inside_is c.self.inside.world_state c.args.self.now c.self.view_is)
    (λ one. c.has_positions.ensures.all (inl (one_place c.self.inside.world_state o.configuration o.stands.shown one)))
