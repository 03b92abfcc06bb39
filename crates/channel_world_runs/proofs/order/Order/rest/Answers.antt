-- From the places: one that is there is put in front, and has no mark.
use Rattle.std.specs.Prelude.{◌≡◌, ◌<◌, ◌^◌}
use Rattle.channel_world_runs.proofs.Lemmas.{arith, length, true, false, is_some, refl, ◌∙◌, ap, sym, keys_of, lookup, same_waiter, is_among, Waiter, derived_is, WakeOrder, marked_places, placed, rested}
use Rattle.channel_world_runs.proofs.LruLemmas.{among_known, put_unmarked}
use Rattle.channel_world_runs.proofs.order.Order.rest.Goals as goal

rested_there : (w : Waiter) (o : WakeOrder) → is_among w o.places ≡ true → placed w o ≡ rested w o
rested_there w o e = rw e refl

rested_absent : (w : Waiter) (o : WakeOrder) → is_among w o.places ≡ false → o ≡ rested w o
rested_absent w o e = rw e refl

pub returns-in-Ok : goal.returns-in-Ok
returns-in-Ok c =
    let w = c.args.w in
    let found : true ≡ is_some (lookup (same_waiter w) c.self.inside.places.entries) = rw derived_is at c.if-contains.ensures in
    let there = among_known w c.self.inside.places.entries ∙ sym found in
    let at = c.self.inside.places in
    let valid = rw derived_is at c.len-length.ensures.valid in
    let short : length at.entries < 2 ^ 63 = omega (arith, c.len-length.ensures.len, c.len-length.ensures.fits) in
    let same = put_unmarked w at valid.0 short c.self.invariant in
    let put = rw derived_is at c.in-Ok.ensures.entries in
    ap (λ n. record { places = keys_of n.entries; woken = marked_places n.entries }) put
    ∙ (λ i. record { places = same.0 i; woken = same.1 i })
    ∙ (rested_there w _ there ∙ ap (λ (o : WakeOrder). rested w o) c.self.view_is)

pub returns-else-contains : goal.returns-else-contains
returns-else-contains c =
    let w = c.args.w in
    let found : false ≡ is_some (lookup (same_waiter w) c.self.inside.places.entries) = rw derived_is at c.if-contains.ensures in
    rested_absent w c.args.self.now
    (ap (λ (o : WakeOrder). is_among w o.places) (sym c.self.view_is) ∙ (among_known w c.self.inside.places.entries ∙ sym found))
