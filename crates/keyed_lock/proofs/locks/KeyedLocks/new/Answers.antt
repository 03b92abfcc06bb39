use Rattle.std.proofs.Common.{arith}
use Rattle.keyed_lock.proofs.Steps.{opens, zeros}
use Rattle.keyed_lock.proofs.locks.KeyedLocks.new.Goals as goal

pub new-requires : goal.new-requires
new-requires g c =
    opens g.I.Keeps.keeps c.args.about.now c.args.values _ _ _
    (zeros _ _ _ _ _ c.new-words.ensures.items c.in_ok-resize.ensures.items c.deref.ensures.value)
    c.in_ok-slots.ensures.items
    (omega (arith, c.in-Some.ensures, c.new-words.ensures.len, c.in_ok-slots.ensures.count))
    c.requires
