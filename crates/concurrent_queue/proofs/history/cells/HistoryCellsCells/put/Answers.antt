use Rattle.std.proofs.Common.{inl}
use Rattle.concurrent_queue.proofs.HistoryAnswers.{put_refused}
use Rattle.concurrent_queue.proofs.history.cells.HistoryCellsCells.put.Goals as goal

pub try_put-requires : goal.try_put-requires
try_put-requires g c = record { next = λ o. c.requires.may o tt }

pub returns-in-Ok-clause-deed : goal.returns-in-Ok-clause-deed
returns-in-Ok-clause-deed g c =
    let e = c.in-Ok.ensures in
    (λ _. inl e.made, e.same.2, (e.same.0, e.same.1, e.same.3))

pub returns-in-Err-clause-deed : goal.returns-in-Err-clause-deed
returns-in-Err-clause-deed g c =
    let e = c.in-Err.ensures in
    (λ _. put_refused g.P.Machine.moves c.args.self.now.seat.seat.me c.try_put.new.self.seat.me c.args.at c.args.value _ _ e.made.0 e.made.1, e.same.2, (e.same.0, e.same.1, e.same.3))
