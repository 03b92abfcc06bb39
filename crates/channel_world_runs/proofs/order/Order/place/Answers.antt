-- From the places: one is put in front, and has no mark.
use Rattle.std.specs.Prelude.{◌<◌, ◌^◌}
use Rattle.channel_world_runs.proofs.Lemmas.{arith, length, ◌∙◌, ap, keys_of, derived_is, WakeOrder, marked_places, placed}
use Rattle.channel_world_runs.proofs.LruLemmas.{put_unmarked}
use Rattle.channel_world_runs.proofs.order.Order.place.Goals as goal

pub returns-clause-ok : goal.returns-clause-ok
returns-clause-ok c =
    let w = c.args.w in
    let at = c.self.inside.places in
    let valid = rw derived_is at c.len-length.ensures.valid in
    let short : length at.entries < 2 ^ 63 = omega (arith, c.len-length.ensures.len, c.len-length.ensures.fits) in
    let same = put_unmarked w at valid.0 short c.self.invariant in
    let put = rw derived_is at c.in-Ok.ensures.entries in
    ap (λ n. record { places = keys_of n.entries; woken = marked_places n.entries }) put
    ∙ (λ i. record { places = same.0 i; woken = same.1 i })
    ∙ ap (λ (o : WakeOrder). placed w o) c.self.view_is
