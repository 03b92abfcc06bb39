use Rattle.waybill.proofs.Order.{come_first}
use Rattle.waybill.proofs.laws.the_first_messages_come_first.Goals as goal

pub returns : goal.returns
returns g c = λ s sent got mine part is gapless. come_first s sent got mine part is (gapless s)
