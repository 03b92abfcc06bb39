use Rattle.std.specs.Prelude.{◌≡◌}
use Rattle.channel_world_runs.proofs.Lemmas.{rules, ◌∙◌, ap, length, Bool, count_by, Waiter}
use Rattle.channel_world_runs.proofs.LruLemmas.{marked_many}
use Rattle.channel_world_runs.proofs.PendingFacts.{passed}
use Rattle.channel_world_runs.proofs.order.Order.count_woken.Goals as goal

pub returns : goal.returns
returns c =
    let es = c.self.inside.places.entries in
    let counted : c.count.result ≡ count_by (λ (e : Waiter × Bool). e.1) es
    = passed _ _ _ _ (c.filter.ensures.source ∙ c.iter-places.ensures.rest) c.filter.ensures.closure (λ x b q k. (search rules, search rules)) c.count.ensures.ran in
    counted ∙ (marked_many es ∙ ap (λ o. length o.woken) c.self.view_is)
