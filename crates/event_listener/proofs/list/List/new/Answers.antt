use Rattle.std.proofs.Common.{None, refl}
use Rattle.event_listener.proofs.InsideLemmas.{empty-sound}
use Rattle.event_listener.proofs.list.List.new.Goals as goal

pub invariant_of-result : goal.invariant_of-result
invariant_of-result g c =
    empty-sound (record { nodes = c.new.result; told = record { first = None; last = None }; waiting = record { first = None; last = None }; told_count = 0; serials = 0 })
    c.new.ensures.slots c.new.ensures.capacity refl refl refl
