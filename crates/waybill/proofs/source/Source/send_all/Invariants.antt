use Rattle.std.proofs.Common.{◌≡◌, take}
use Rattle.waybill.specs.Sides.{sends}
use Rattle.waybill.proofs.source.Source.send_all.Given as goal

abbrev pub invariant-loop-next : goal.invariant-loop-next
invariant-loop-next g l = l.source ≡ sends l.initial.source.sender (take l.next l.all)
