use Rattle.std.specs.Prelude.{◌≡◌}
use Rattle.channel_world.proofs.Lemmas.{rules, ◌∙◌, Bool, ap, inl, count_by, iter_rest, is_sending, is_receiving, CallUnderWay, WorldState, counted, inside_is}
use Rattle.channel_world.proofs.world.World.calls_by_kind.Goals as goal

pub count-requires-clause-fits : goal.count-requires-clause-fits
count-requires-clause-fits g c = inl (search rules)

pub count-requires-2-clause-fits : goal.count-requires-2-clause-fits
count-requires-2-clause-fits g c = inl (search rules)

pub count-requires-3-clause-fits : goal.count-requires-3-clause-fits
count-requires-3-clause-fits g c = inl (search rules)

pub returns-clause-sending : goal.returns-clause-sending
returns-clause-sending g c =
    let test : CallUnderWay g.row.T.Denot → Bool = λ x. is_sending x.activity.role in
    let rest : c.iter.result.rest.now ≡ c.self.inside.world_state.calls.items = search rules in
    counted _ test _ _ (ap iter_rest c.filter.ensures.source ∙ rest) c.filter.ensures.closure (λ x b q k. (search rules, search rules)) c.count.ensures.ran
    ∙ ap (λ (f : WorldState g.row.T.Denot). count_by test f.calls.items) (inside_is c.self.inside.world_state c.args.self.now c.self.view_is)

pub returns-clause-receiving : goal.returns-clause-receiving
returns-clause-receiving g c =
    let test : CallUnderWay g.row.T.Denot → Bool = λ x. is_receiving x.activity.role in
    let rest : c.iter-2.result.rest.now ≡ c.self.inside.world_state.calls.items = search rules in
    counted _ test _ _ (ap iter_rest c.filter-2.ensures.source ∙ rest) c.filter-2.ensures.closure (λ x b q k. (search rules, search rules)) c.count-2.ensures.ran
    ∙ ap (λ (f : WorldState g.row.T.Denot). count_by test f.calls.items) (inside_is c.self.inside.world_state c.args.self.now c.self.view_is)

pub returns-clause-closers : goal.returns-clause-closers
returns-clause-closers g c =
    let test : CallUnderWay g.row.T.Denot → Bool = λ x. x.activity.has_closed in
    let rest : c.iter-3.result.rest.now ≡ c.self.inside.world_state.calls.items = search rules in
    counted _ test _ _ (ap iter_rest c.filter-3.ensures.source ∙ rest) c.filter-3.ensures.closure (λ x b q k. (search rules, search rules)) c.count-3.ensures.ran
    ∙ ap (λ (f : WorldState g.row.T.Denot). count_by test f.calls.items) (inside_is c.self.inside.world_state c.args.self.now c.self.view_is)
