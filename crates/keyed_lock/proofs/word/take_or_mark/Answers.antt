use Rattle.std.proofs.Common.{arith}
use Rattle.keyed_lock.proofs.Steps.{takes_so, marks_two, has_it, took_it, took_nothing}
use Rattle.keyed_lock.proofs.word.take_or_mark.Goals as goal

pub swap-requires : goal.swap-requires
swap-requires g c =
    let lock = c.requires.lock in
    (c.requires.seat.0, omega (arith, lock.0, lock.1), takes_so g.I.Keeps.keeps _ _ _ _ 2 0 _ (marks_two g.I.Keeps.keeps c.args.locks.now.key) _ lock.0 c.requires.seat.1)

pub exchange-requires : goal.exchange-requires
exchange-requires g c = (search, has_it g.I.Keeps.keeps c.args.locks.now.table_id.slots c.args.which 2 0 c.swap.result c.args.locks.now.key _ _ c.requires.seat.1 c.swap.ensures.2 c.if-swap-eq-FREE.true)

pub returns-then-swap-eq-FREE-clause-took : goal.returns-then-swap-eq-FREE-clause-took
returns-then-swap-eq-FREE-clause-took g c = took_it g.I.Keeps.keeps c.args.locks.now.table_id.slots c.args.which 2 0 c.swap.result c.args.locks.now.key _ _ c.requires.seat.1 c.swap.ensures.2 c.if-swap-eq-FREE.true _ _ c.exchange.ensures.2 c.exchange.ensures.3

pub returns-clause-took : goal.returns-clause-took
returns-clause-took g c = took_nothing g.I.Keeps.keeps c.args.locks.now.table_id.slots c.args.which 2 0 c.swap.result c.args.locks.now.key _ _ c.requires.seat.1 c.swap.ensures.2 c.if-swap-eq-FREE.false
