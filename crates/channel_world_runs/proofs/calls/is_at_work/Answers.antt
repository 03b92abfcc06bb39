use Rattle.std.specs.Prelude.{◌≡◌}
use Rattle.channel_world_runs.proofs.Words.{rules, ◌∙◌, nat_eq, List, ap, list_any, YieldsList-from_shown, CallUnderWay}
use Rattle.std.specs.Slice.Iter.{iter_rest, iter_steps}
use Rattle.std.proofs.lemmas.Iterator.Search.{any_from_yields_List}
use Rattle.channel_world_runs.proofs.CallFacts.{at_work_read}
use Rattle.channel_world_runs.proofs.calls.is_at_work.Goals as goal

pub returns : goal.returns
returns g c =
    let calls = c.args.calls.now.items in
    let rest : c.iter.result.rest.now ≡ calls = search rules in
    let found : c.any.result ≡ list_any (λ (x : CallUnderWay g.row.T.Denot). nat_eq x.party.id c.args.party.0) c.iter.result.rest.now =
    any_from_yields_List (λ (x : CallUnderWay g.row.T.Denot). nat_eq x.party.id c.args.party.0) _ _ _ c.any.ensures.ran
    (YieldsList-from_shown iter_steps (λ x. x.now) iter_rest (λ t u h. h.0) (λ t x u h. h) _) (λ x b q k. (search rules, search rules)) in
    found
    ∙ (ap (λ (l : List (CallUnderWay g.row.T.Denot)). list_any (λ (x : CallUnderWay g.row.T.Denot). nat_eq x.party.id c.args.party.0) l) rest
    ∙ at_work_read calls c.args.party.0)
