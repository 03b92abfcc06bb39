use Rattle.waybill.proofs.Order.{come_in_order}
use Rattle.waybill.proofs.laws.messages_come_in_order.Goals as goal

pub returns : goal.returns
returns g c = λ s sent got mine part is rises. come_in_order s sent got mine part is (rises s)
