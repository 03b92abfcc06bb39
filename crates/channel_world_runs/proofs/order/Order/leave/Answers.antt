-- From the places: one is taken out.
use Rattle.channel_world_runs.proofs.Lemmas.{◌∙◌, ap, keys_of, derived_is, keys_without, WakeOrder, marked_places, without_place}
use Rattle.channel_world_runs.proofs.LruLemmas.{marks_without}
use Rattle.channel_world_runs.proofs.order.Order.leave.Goals as goal

pub returns : goal.returns
returns c =
    let w = c.args.w in
    let es = c.self.inside.places.entries in
    let valid = rw derived_is at c.len-length.ensures.valid in
    let left = rw derived_is at c.pop-removed.ensures.entries in
    ap (λ n. record { places = keys_of n.entries; woken = marked_places n.entries }) left
    ∙ ((λ i. record { places = keys_without w es valid.0 i; woken = marks_without w es valid.0 i }) ∙ ap (λ (o : WakeOrder). without_place w o) c.self.view_is)
