use Rattle.std.proofs.Common.{◌≡◌, ◌≤◌, length, take}
use Rattle.waybill.specs.Accounts.{after_all_sent}
use Rattle.waybill.proofs.tokens.Office.pack_each.Given as goal

abbrev pub invariant-loop-next : goal.invariant-loop-next
invariant-loop-next g l = (l.pass ≡ after_all_sent l.initial.pass (take l.next l.values)) × (l.parcels.items ≡ take l.next l.values) × (length l.values ≤ l.parcels.cap)
