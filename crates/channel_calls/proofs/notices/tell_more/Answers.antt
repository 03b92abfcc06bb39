use Rattle.std.proofs.Common.{◌≡◌, ℕ, length, Result, Ok}
use Rattle.event_listener.specs.Notices.{IsAnswer}
use Rattle.event_listener.specs.declared.error.NoMemory.{NoMemory}
use Rattle.event_listener.specs.declared.error.NotifyError.{NotifyError}
use Rattle.event_listener.specs.declared.notify.Additional.{Additional}
use Rattle.event_listener.specs.declared.notify.Notify.{Notify}
use Rattle.channel_calls.proofs.NoticeFacts.{answer_by, more_told, more_woken}
use Rattle.channel_calls.proofs.notices.tell_more.Goals as goal

-- the notification has as many tags as are asked for
abbrev gives : Additional Notify → Result (Unit {0}) NoMemory → Additional Notify → Type 0
gives s r t = (r ≡ Ok tt) × (t.inner ≡ s.inner)

all_told : (many told : ℕ) (rest : Additional Notify) (r : Result ℕ NotifyError) → IsAnswer gives many told rest r → told ≡ many
all_told many told rest r h = answer_by gives (λ s e t no. absurd (let never = no.0 in cc)) many told rest r h

pub returns-clause-lists : goal.returns-clause-lists
returns-clause-lists g c =
    let h = c.notify.ensures.notified in
    more_told c.args.count c.args.list.now.lists c.notify.new.self.lists h.tags h.lists (all_told _ (length h.tags) h.rest c.notify.result h.answer)

pub returns-clause-woken : goal.returns-clause-woken
returns-clause-woken g c =
    let h = c.notify.ensures.notified in
    more_woken g.S.Wakes.wakes c.args.count c.args.list.now.lists c.args.sink.now c.notify.new.sink h.tags (all_told _ (length h.tags) h.rest c.notify.result h.answer) h.woken
