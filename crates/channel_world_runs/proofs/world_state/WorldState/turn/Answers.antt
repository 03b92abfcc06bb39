use Rattle.channel_world_runs.proofs.Words.{subst, sym, LeadsByStep, Step}
use Rattle.channel_world_runs.proofs.ResultFacts.{ok_where_some}
use Rattle.channel_world_runs.proofs.world_state.WorldState.turn.Goals as goal

pub returns-in-Step-clause-ok : goal.returns-in-Step-clause-ok
returns-in-Step-clause-ok g c =
    ok_where_some _ _ _ _ _ c.ok_or.ensures.value
    (λ e led. subst (λ (x : Step g.row.T.Denot). LeadsByStep x c.args.self.now e c.go_on.new.self) (sym c.in-Step.is) led) c.go_on.ensures.some
