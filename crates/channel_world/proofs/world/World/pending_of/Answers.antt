-- From a walk over all that was ever taken, under which no name stands twice.
use Rattle.std.specs.Prelude.{◌≡◌}
use Rattle.channel_world.proofs.Lemmas.{arith, rules, ◌∙◌, subst, count_by, WorldState, is_pending_on, operation_stance, stream_stance, world_state_of, inside_is}
use Rattle.channel_world_runs.proofs.PendingFacts.{passed}
use Rattle.channel_world.proofs.KindFacts.{by_entries}
use Rattle.channel_world.proofs.world.World.pending_of.Goals as goal

pub returns : goal.returns
returns g c =
    let f = c.self.inside.world_state in
    let now = world_state_of c.args.self.now in
    let line = c.args.line in
    let same = inside_is f c.args.self.now c.self.view_is in
    let operations : c.count-operations.result ≡ count_by (λ e. is_pending_on line (operation_stance e.1)) f.name_table.operations
    = passed _ _ _ _ (c.filter.ensures.source ∙ c.iter-operations.ensures.entries) c.filter.ensures.closure (λ x b q k. (search rules, search rules)) c.count-operations.ensures.ran in
    let streams : c.count-streams.result ≡ count_by (λ e. is_pending_on line (stream_stance e.1)) f.name_table.handles
    = passed _ _ _ _ (c.filter-2.ensures.source ∙ c.iter-streams.ensures.entries) c.filter-2.ensures.closure (λ x b q k. (search rules, search rules)) c.count-streams.ensures.ran in
    let operations-now = subst (λ (x : WorldState g.row.T.Denot). c.count-operations.result ≡ count_by (λ e. is_pending_on line (operation_stance e.1)) x.name_table.operations) same operations in
    let streams-now = subst (λ (x : WorldState g.row.T.Denot). c.count-streams.result ≡ count_by (λ e. is_pending_on line (stream_stance e.1)) x.name_table.handles) same streams in
    let all = by_entries (is_pending_on line) now.name_table c.keeps_names.ensures.apart in
    omega (arith, operations-now, streams-now, all)
