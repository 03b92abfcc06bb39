use Rattle.std.proofs.Common.{◌≡◌, ℕ, ◌<◌, ◌++◌, drop, slice_set, List, Option, None, ap, ◌∙◌, arith, rules}
use Rattle.std.proofs.lemmas.List.{length-set}
use Rattle.concurrent_queue.proofs.Slots.{empties, emptied_more, all_emptied}
use Rattle.concurrent_queue.proofs.pool.clear_slots.Goals as goal

pub loop-i-preserved : goal.loop-i-preserved
loop-i-preserved g c =
    let l = c.loop-i in
    let old = c.args.slots.now in
    let full = c.requires in
    let below : l.i < 31 = search rules in (
      ap (λ (xs : List (Option g.row.T.Denot)). slice_set xs l.i None) l.invariant.0 ∙ emptied_more l.i old.items (omega (arith, old.ok.0)),
      length-set l.slots.items l.i None ∙ l.invariant.1,
    )

pub returns : goal.returns
returns g c =
    let l = c.loop-i in
    let old = c.args.slots.now in
    let full = c.requires in
    let i : l.i ≡ 31 = search rules in
    all_emptied l.slots.items old.items (omega (arith, old.ok.0)) (l.invariant.0 ∙ ap (λ (n : ℕ). empties n ++ drop n old.items) i)
