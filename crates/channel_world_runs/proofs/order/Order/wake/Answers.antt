-- From the places: one that is there is marked, and goes last.
use Rattle.std.specs.Prelude.{◌≡◌, ◌++◌, ◌∷◌}
use Rattle.channel_world_runs.proofs.Lemmas.{[], true, false, is_some, refl, ◌∙◌, ap, sym, keys_of, lookup, demoted, same_waiter, is_among, without_waiter, Waiter, derived_is, WakeOrder, marked_places, woken_last}
use Rattle.channel_world_runs.proofs.LruLemmas.{among_known, put_last}
use Rattle.channel_world_runs.proofs.order.Order.wake.Goals as goal

last_there : (w : Waiter) (o : WakeOrder) → is_among w o.places ≡ true
    → (let p : WakeOrder = record { places = without_waiter w o.places ++ w ∷ []; woken = without_waiter w o.woken ++ w ∷ [] } in p) ≡ woken_last w o
last_there w o e = rw e refl

last_absent : (w : Waiter) (o : WakeOrder) → is_among w o.places ≡ false → o ≡ woken_last w o
last_absent w o e = rw e refl

pub returns-in-Ok : goal.returns-in-Ok
returns-in-Ok c =
    let w = c.args.w in
    let at = c.self.inside.places in
    let es = at.entries in
    let found : true ≡ is_some (lookup (same_waiter w) es) = rw derived_is at c.if-contains.ensures in
    let there = among_known w es ∙ sym found in
    let valid = rw derived_is at c.len-length.ensures.valid in
    let same = put_last w at valid.0 there in
    let put = rw derived_is at c.in-Ok.ensures.entries in
    let moved = rw derived_is at c.demote-moved.ensures.entries in
    ap (λ n. record { places = keys_of n.entries; woken = marked_places n.entries }) moved
    ∙ (ap (λ n. record { places = keys_of (demoted (same_waiter w) n.entries); woken = marked_places (demoted (same_waiter w) n.entries) }) put
    ∙ ((λ i. record { places = same.0 i; woken = same.1 i })
    ∙ (last_there w _ there ∙ ap (λ (o : WakeOrder). woken_last w o) c.self.view_is)))

pub returns-else-contains : goal.returns-else-contains
returns-else-contains c =
    let w = c.args.w in
    let found : false ≡ is_some (lookup (same_waiter w) c.self.inside.places.entries) = rw derived_is at c.if-contains.ensures in
    last_absent w c.args.self.now
    (ap (λ (o : WakeOrder). is_among w o.places) (sym c.self.view_is) ∙ (among_known w c.self.inside.places.entries ∙ sym found))
