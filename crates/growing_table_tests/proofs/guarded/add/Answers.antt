use Rattle.std.proofs.Common.{ap}
use Rattle.growing_table.specs.Seats.{me_of, number_of}
use Rattle.growing_table_tests.proofs.Guards.{wins, gives_back}
use Rattle.growing_table_tests.proofs.guarded.add.Goals as goal

pub compare_exchange_in-requires-clause-rule : goal.compare_exchange_in-requires-clause-rule
compare_exchange_in-requires-clause-rule c = wins (number_of c.args.seat.now) (me_of c.args.seat.now) c.args.place.number c.args.slot

pub store_in-requires-clause-rule : goal.store_in-requires-clause-rule
store_in-requires-clause-rule c = gives_back (number_of c.exchange.new.seat) (me_of c.exchange.new.seat) c.args.place.number c.args.slot _ (ap (λ m. m.hand) c.exchange.ensures.slot.1)
