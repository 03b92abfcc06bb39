use Rattle.std.proofs.Common.{◌≡◌, [], take}
use Rattle.waybill.specs.Accounts.{account}
use Rattle.examples.proofs.waybills.relay.send_all.Given as goal

abbrev pub invariant-loop-next : goal.invariant-loop-next
invariant-loop-next g l = l.pass ≡ account 1 (take l.next l.all) [] []
