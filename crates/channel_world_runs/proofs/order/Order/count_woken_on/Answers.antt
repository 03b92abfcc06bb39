use Rattle.std.specs.Prelude.{◌≡◌, ◌&&◌}
use Rattle.channel_world_runs.proofs.Lemmas.{rules, ◌∙◌, ap, Bool, count_by, is_line, line_at, Waiter, names_of, WakeOrder, woken_on}
use Rattle.channel_world_runs.proofs.LruLemmas.{marked_pass}
use Rattle.channel_world_runs.proofs.PendingFacts.{passed}
use Rattle.channel_world_runs.proofs.order.Order.count_woken_on.Goals as goal

pub returns : goal.returns
returns g c =
    let es = c.self.inside.places.entries in
    let test : Waiter → Bool = λ w. is_line c.args.line (line_at (names_of c.args.name_table.now) w) in
    let counted : c.count.result ≡ count_by (λ (e : Waiter × Bool). e.1 && test e.0) es
    = passed _ _ _ _ (c.filter.ensures.source ∙ c.iter-places.ensures.rest) c.filter.ensures.closure (λ x b q k. (search rules, search rules)) c.count.ensures.ran in
    counted ∙ (marked_pass test es ∙ ap (λ (o : WakeOrder). woken_on c.args.line c.args.name_table.now o.woken) c.self.view_is)
