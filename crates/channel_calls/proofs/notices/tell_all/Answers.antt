use Rattle.std.proofs.Common.{length}
use Rattle.channel_calls.proofs.NoticeFacts.{answer_of, all_told, all_moved}
use Rattle.channel_calls.proofs.notices.tell_all.Goals as goal

pub returns-clause-lists : goal.returns-clause-lists
returns-clause-lists g c =
    let l = c.args.list.now.lists in
    let h = c.notify.ensures.notified in
    let n = answer_of _ (length h.tags) h.rest c.notify.result h.answer in
    all_told l c.notify.new.self.lists h.tags h.lists (all_moved (length l.told) (length l.waiting) c.total-total.result (length h.tags) c.total-total.ensures c.total-total.type_inv n)
