use Rattle.std.proofs.Common.{◌≡◌}
use Rattle.waybill.specs.Sides.{takes}
use Rattle.waybill.proofs.sink.Sink.receive_all.Given as goal

abbrev pub invariant-loop : goal.invariant-loop
invariant-loop g l = l.sink ≡ takes l.initial.sink.sole l.initial.sink.senders l.got.items
