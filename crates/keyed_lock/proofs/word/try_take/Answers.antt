use Rattle.std.proofs.Common.{arith}
use Rattle.keyed_lock.proofs.Steps.{takes_so, marks_one, has_it, took_it, took_nothing}
use Rattle.keyed_lock.proofs.word.try_take.Goals as goal

pub compare_exchange-requires : goal.compare_exchange-requires
compare_exchange-requires g c =
    let lock = c.requires.lock in
    (c.requires.seat.0, omega (arith, lock.0, lock.1), takes_so g.I.Keeps.keeps _ _ _ _ 0 1 _ (marks_one g.I.Keeps.keeps c.args.locks.now.key) _ lock.0 c.requires.seat.1)

pub exchange-requires : goal.exchange-requires
exchange-requires g c = (search, has_it g.I.Keeps.keeps c.args.locks.now.table_id.slots c.args.which 0 1 c.compare_exchange.result c.args.locks.now.key _ _ c.requires.seat.1 c.compare_exchange.ensures.2 c.if-compare_exchange-eq-FREE.true)

pub returns-then-compare_exchange-eq-FREE-clause-took : goal.returns-then-compare_exchange-eq-FREE-clause-took
returns-then-compare_exchange-eq-FREE-clause-took g c = took_it g.I.Keeps.keeps c.args.locks.now.table_id.slots c.args.which 0 1 c.compare_exchange.result c.args.locks.now.key _ _ c.requires.seat.1 c.compare_exchange.ensures.2 c.if-compare_exchange-eq-FREE.true _ _ c.exchange.ensures.2 c.exchange.ensures.3

pub returns-clause-took : goal.returns-clause-took
returns-clause-took g c = took_nothing g.I.Keeps.keeps c.args.locks.now.table_id.slots c.args.which 0 1 c.compare_exchange.result c.args.locks.now.key _ _ c.requires.seat.1 c.compare_exchange.ensures.2 c.if-compare_exchange-eq-FREE.false
