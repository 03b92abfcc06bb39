use Rattle.std.proofs.Common.{◌≡◌, ◌++◌, ◌∷◌, take, codes}
use Rattle.std.specs.List.{flat_map}
use Rattle.channel_world_language.specs.Table.{waiter_name}
use Rattle.channel_world_language.proofs.text.add_wakes.Given as goal

abbrev pub invariant-loop-waiter : goal.invariant-loop-waiter
invariant-loop-waiter l = l.line.items ≡ l.fn.line.items ++ codes " wakes" ++ flat_map (λ w. 32 ∷ waiter_name l.table w) (take l.waiter-index l.woken)
