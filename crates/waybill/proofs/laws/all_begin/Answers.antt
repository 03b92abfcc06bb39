use Rattle.std.proofs.Common.{refl}
use Rattle.waybill.proofs.Order.{are_beginnings}
use Rattle.waybill.proofs.laws.all_begin.Goals as goal

pub returns : goal.returns
returns g c = λ sent got all part is so. are_beginnings sent got got all part refl is so
