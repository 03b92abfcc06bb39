use Rattle.std.specs.Prelude.{◌≡◌, ◌+◌}
use Rattle.channel_world_runs.proofs.Words.{rules, ◌∙◌, ap, count_by}
use Rattle.channel_world_runs.specs.Pending.{stands_pending, operation_stands, stream_stands}
use Rattle.channel_world_runs.proofs.PendingFacts.{passed}
use Rattle.channel_world_runs.proofs.name_table.NameTable.count_pending.Goals as goal

pub returns : goal.returns
returns g c =
    let operations : c.count.result ≡ count_by (λ e. operation_stands stands_pending e.1) c.args.self.now.operations
    = passed _ _ _ _ (c.filter-operations.ensures.source ∙ c.iter-operations.ensures.entries) c.filter-operations.ensures.closure (λ x b q k. (search rules, search rules)) c.count.ensures.ran in
    let streams : c.count-2.result ≡ count_by (λ e. stream_stands stands_pending e.1) c.args.self.now.handles
    = passed _ _ _ _ (c.filter-streams.ensures.source ∙ c.iter-streams.ensures.entries) c.filter-streams.ensures.closure (λ x b q k. (search rules, search rules)) c.count-2.ensures.ran in
    ap (λ n. n + c.count-2.result) operations
    ∙ ap (λ n. count_by (λ e. operation_stands stands_pending e.1) c.args.self.now.operations + n) streams
