use Rattle.std.proofs.Common.{inl}
use Rattle.concurrent_queue.specs.history.Shared.{answer}
use Rattle.concurrent_queue.proofs.HistoryAnswers.{exchange_won, exchange_lost}
use Rattle.unbounded_cells.specs.Seated.{party_of}
use Rattle.unbounded_cells.proofs.cells.BlockCellsCells.compare_exchange.Goals as goal

pub compare_exchange-found-requires : goal.compare_exchange-found-requires
compare_exchange-found-requires g c = record { next = λ n. c.requires.may (answer n c.args.expected) }

pub returns-then-found-expected-clause-deed : goal.returns-then-found-expected-clause-deed
returns-then-found-expected-clause-deed g c =
    let v = party_of c.args.self.now.seat.seat in
    let e = c.compare_exchange-found.ensures in
    (inl (exchange_won g.P.Machine.moves v.form v.state (party_of c.compare_exchange-found.new.self.seat).state c.args.at c.args.expected c.args.next c.compare_exchange-found.result c.if-found-expected.true e.made), e.same.2, (e.same.0, e.same.1, e.same.3))

pub returns-else-found-expected-clause-deed : goal.returns-else-found-expected-clause-deed
returns-else-found-expected-clause-deed g c =
    let v = party_of c.args.self.now.seat.seat in
    let e = c.compare_exchange-found.ensures in
    (inl (exchange_lost g.P.Machine.moves v.form v.state (party_of c.compare_exchange-found.new.self.seat).state c.args.at c.args.expected c.args.next c.compare_exchange-found.result c.if-found-expected.false e.made), e.same.2, (e.same.0, e.same.1, e.same.3))
