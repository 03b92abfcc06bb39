use Rattle.std.proofs.Common.{[], sym}
use Rattle.std.proofs.lemmas.List.{append-nil}
use Rattle.waybill.proofs.Order.{are_in_order}
use Rattle.waybill.proofs.laws.all_come_in_order.Goals as goal

pub returns : goal.returns
returns g c = λ sent got all part is so. are_in_order sent got [] got [] all part (sym (append-nil got)) is so
