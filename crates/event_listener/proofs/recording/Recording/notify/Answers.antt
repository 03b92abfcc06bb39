use Rattle.std.proofs.Common.{◌≡◌, ◌<◌, ◌++◌, ◌∷◌, [], ℕ, nat_lt, Ok, Err, if◌then◌else◌, inl, length, take, ap, sym, subst, ◌∙◌, arith, rules, vec_len}
use Rattle.event_listener.specs.declared.recorded.RecordedCall.TheVariants.{Notified}
use Rattle.event_listener.specs.Drawing.{DrawsFirst}
use Rattle.event_listener.specs.Lists.{notified, told_by, moved, tasks_of}
use Rattle.event_listener.specs.Notices.{Woken}
use Rattle.event_listener.specs.Runs.{tags_given, tags_answer}
use Rattle.event_listener.specs.Replay.{total_of}
use Rattle.event_listener.proofs.DrawingLemmas.{tells_them}
use Rattle.event_listener.proofs.TellingLemmas.{moved-at-most}
use Rattle.event_listener.proofs.ReplayLemmas.{kept, told-tags, total-notified, told-given, some-told, told-somebody, some-left, ok-moved, is-recorded}
use Rattle.event_listener.proofs.recording.Recording.notify.Goals as goal

pub invariant_of-self-2 : goal.invariant_of-self-2
invariant_of-self-2 g c =
    let lists = c.self.inside.list.lists in
    let additional = c.is_additional-additional.result in
    let count = c.count-count.result in
    let tags = c.in-Ok-draw.tags in
    let same : c.in-Ok-draw.given.items ≡ tags.items = search rules in
    let call = Notified count additional tags c.notify_with-answer.result in
    let made = c.notify_with-answer.ensures.lists ∙ ap (λ ts. notified additional (tags_given additional count ts lists) lists) same in
    let answered = sym (c.notify_with-answer.ensures.answer ∙ ap (λ ts. tags_answer additional count ts lists) same) in
    let total = ap total_of made ∙ total-notified additional (tags_given additional count tags.items lists) lists in
    let grown = c.push_reserved.ensures.items ∙ ap (λ calls. calls ++ call ∷ []) c.in-Ok.ensures.items in
    kept _ _ _ lists _ c.self.invariant call _ _ _ c.notify_with-answer.new.self.lists c.notify_with-answer.new.self.serials answered made c.notify_with-answer.ensures.serials grown
    (omega (arith, total, c.in-Ok.ensures.room, c.total-total.ensures, c.push_reserved.ensures.len, c.push_reserved.ensures.capacity))

pub returns-clause-at_most : goal.returns-clause-at_most
returns-clause-at_most g c =
    let lists = c.self.inside.list.lists in
    let most = moved-at-most c.is_additional-additional.result c.count-count.result lists in
    let told = told-given (length c.in-Ok-draw.given.items) (moved c.is_additional-additional.result c.count-count.result lists) in
    rw c.notify_with-answer.ensures.answer (omega (arith, most, told, c.count-count.ensures))

pub returns-clause-answer : goal.returns-clause-answer
returns-clause-answer g c =
    let lists = c.self.inside.list.lists in
    let many = ok-moved (length c.in-Ok-draw.given.items) c.is_additional-additional.result _ c.count-count.result _ lists c.is_additional-additional.ensures c.count-count.ensures in
    rw (sym c.self.view_is) (rw c.notify_with-answer.ensures.answer many)

pub returns-clause-recorded : goal.returns-clause-recorded
returns-clause-recorded g c =
    let lists = c.self.inside.list.lists in
    let additional = c.is_additional-additional.result in
    let count = c.count-count.result in
    let tags = c.in-Ok-draw.tags in
    let same : c.in-Ok-draw.given.items ≡ tags.items = search rules in
    let call = Notified count additional tags c.notify_with-answer.result in
    let made = c.notify_with-answer.ensures.lists ∙ ap (λ ts. notified additional (tags_given additional count ts lists) lists) same in
    let grown = c.push_reserved.ensures.items ∙ ap (λ calls. calls ++ call ∷ []) c.in-Ok.ensures.items in
    let first = subst (λ (k : ℕ). DrawsFirst g.N.Notification.gives k c.args.notice tags.items) c.to_move-many.ensures.value c.in-Ok-draw.ensures.first in
    λ told. (
      tags,
      rw (sym c.self.view_is) (rw (sym c.is_additional-additional.ensures) (rw (sym c.count-count.ensures) (is-recorded call _ _ _ _ made c.notify_with-answer.ensures.serials grown))),
      rw (sym c.self.view_is) (rw (sym c.is_additional-additional.ensures) (rw (sym c.count-count.ensures) first)),
    )

pub returns-clause-tells : goal.returns-clause-tells
returns-clause-tells g c =
    let lists = c.self.inside.list.lists in
    let additional = c.is_additional-additional.result in
    let count = c.count-count.result in
    let tags = c.in-Ok-draw.tags.items in
    let same : c.in-Ok-draw.given.items ≡ tags = search rules in
    let value = c.to_move-many.ensures.value in
    let most = moved-at-most additional count lists in
    inl
    (tells_them g.N.Notification.gives g.N.Notification.size c.to_move-many.result c.args.notice tags c.notify_with-answer.result
    (omega (arith, most, value, c.count-count.ensures)) c.in-Ok-draw.ensures.first
    (c.notify_with-answer.ensures.answer
    ∙ (ap (λ ts. tags_answer additional count ts lists) same
    ∙ ap (λ (k : ℕ). if nat_lt (length tags) k then Err (record { told = length tags }) else Ok k) (sym value))))

pub returns-clause-unchanged : goal.returns-clause-unchanged
returns-clause-unchanged g c =
    let lists = c.self.inside.list.lists in
    let many = moved c.is_additional-additional.result c.count-count.result lists in
    let same : c.in-Ok-draw.given.items ≡ c.in-Ok-draw.tags.items = search rules in
    let left = some-left (vec_len c.in-Ok-draw.tags) (sym c.is_empty.ensures ∙ c.if-is_empty.false) in
    let some : 0 < length c.in-Ok-draw.given.items = rw same (omega (arith, left, c.in-Ok-draw.tags.ok.0)) in
    let waiting : 0 < many = omega (arith, c.to_move-many.ensures.value, c.if-many-eq0.false) in
    let told : 0 < told_by c.notify_with-answer.result = rw c.notify_with-answer.ensures.answer (some-told (length c.in-Ok-draw.given.items) many some waiting) in
    told-somebody _ (told_by c.notify_with-answer.result) told

pub returns-clause-woken : goal.returns-clause-woken
returns-clause-woken g c =
    let lists = c.self.inside.list.lists in
    let given = c.in-Ok-draw.given.items in
    let many = moved c.is_additional-additional.result c.count-count.result lists in
    let told : length (take many given) ≡ told_by c.notify_with-answer.result = sym (ap told_by c.notify_with-answer.ensures.answer ∙ told-tags many given) in
    rw (sym c.self.view_is)
    (subst (λ (k : ℕ). Woken g.S.Wakes.wakes c.args.sink.now (tasks_of (take k lists.waiting)) c.notify_with-answer.new.sink) told c.notify_with-answer.ensures.woken)
