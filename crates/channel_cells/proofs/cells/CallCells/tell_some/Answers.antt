use Rattle.std.proofs.Common.{◌∙◌, [], refl, sym, subst, ap}
use Rattle.concurrent_queue.specs.declared.cells.QueueForm.{QueueForm}
use Rattle.channel_history.proofs.ListTurns.{notify_changes}
use Rattle.channel_calls.specs.Deeds.{Deed, told}
use Rattle.channel_calls.specs.Parts.{Listeners, told_as_wakes}
use Rattle.channel_history.specs.Cells.{May, Did}
use Rattle.channel_history.specs.declared.party.Standing.{Standing}
use Rattle.channel_cells.proofs.Sections.{goes_on, may_turn, was_done, answered_by, answers_to}
use Rattle.channel_cells.proofs.cells.CallCells.tell_some.Goals as goal
use Rattle.channel_cells.specs.Cells.{view_of, form_in, IsSameParty}

pub enter-section-requires : goal.enter-section-requires
enter-section-requires g c = record { free = (c.requires.may []).2.2.0 }

pub happen-requires : goal.happen-requires
happen-requires g c =
    let enter = c.enter-section in
    let list = enter.result.list.value.lists in
    let after = c.tell.new.list.value.lists in
    let deed : Listeners g.row.W.Denot → Deed g.row.T.Denot g.row.W.Denot = λ l. told c.args.line c.args.telling (told_as_wakes c.args.telling l) in
    let may = subst (λ (f : QueueForm). May f (deed list) (view_of c.args.self.now)) (sym enter.ensures.same.0) (c.requires.may (told_as_wakes c.args.telling list)) in
    let goes = goes_on (form_in enter.new.self) c.args.line (deed list) (view_of c.args.self.now) (view_of enter.new.self) list after may enter.ensures.inside refl (notify_changes c.args.line list after c.args.telling c.tell.ensures.lists) in
    let flags = may_turn (form_in enter.new.self) c.args.line (view_of enter.new.self) goes.0 list after c.nobody_waits-before.result c.nobody_waits-after.result c.nobody_waits-before.ensures.nobody c.nobody_waits-before.ensures.somebody c.nobody_waits-after.ensures.nobody goes.1 in
    record { next = (goes.0, flags, answered_by (form_in enter.new.self) c.args.line (view_of c.args.self.now) (view_of enter.new.self) list may.2.2.0 enter.ensures.inside deed after goes.0 goes.2) }

pub leave-requires : goal.leave-requires
leave-requires g c =
    let enter = c.enter-section in
    let list = enter.result.list.value.lists in
    let after = c.tell.new.list.value.lists in
    let deed : Listeners g.row.W.Denot → Deed g.row.T.Denot g.row.W.Denot = λ l. told c.args.line c.args.telling (told_as_wakes c.args.telling l) in
    let may = subst (λ (f : QueueForm). May f (deed list) (view_of c.args.self.now)) (sym enter.ensures.same.0) (c.requires.may (told_as_wakes c.args.telling list)) in
    let to = answers_to (form_in enter.new.self) c.args.line (view_of c.args.self.now) (view_of enter.new.self) list may.2.2.0 enter.ensures.inside deed after (view_of c.happen.new.self) c.happen.ensures.made in
    let done = was_done (form_in enter.new.self) c.args.line (deed list) (view_of c.args.self.now) (view_of enter.new.self) list after may enter.ensures.inside (view_of c.happen.new.self) to in
    record { inside = done.1; taken = (enter.ensures.taken.0 ∙ sym (ap (λ t. t.table) c.happen.ensures.channel), enter.ensures.taken.1) }

pub returns-clause-told : goal.returns-clause-told
returns-clause-told g c =
    let enter = c.enter-section in
    let list = enter.result.list.value.lists in
    let after = c.tell.new.list.value.lists in
    let deed : Listeners g.row.W.Denot → Deed g.row.T.Denot g.row.W.Denot = λ l. told c.args.line c.args.telling (told_as_wakes c.args.telling l) in
    let may = subst (λ (f : QueueForm). May f (deed list) (view_of c.args.self.now)) (sym enter.ensures.same.0) (c.requires.may (told_as_wakes c.args.telling list)) in
    let to = answers_to (form_in enter.new.self) c.args.line (view_of c.args.self.now) (view_of enter.new.self) list may.2.2.0 enter.ensures.inside deed after (view_of c.happen.new.self) c.happen.ensures.made in
    let done = was_done (form_in enter.new.self) c.args.line (deed list) (view_of c.args.self.now) (view_of enter.new.self) list after may enter.ensures.inside (view_of c.happen.new.self) to in
    let did = subst (λ (f : QueueForm). Did f (deed list) (view_of c.args.self.now) (view_of c.leave.new.self)) enter.ensures.same.0
    (subst (λ (x : Standing g.row.T.Denot g.row.W.Denot). Did (form_in enter.new.self) (deed list) (view_of c.args.self.now) x) (sym c.leave.ensures.outside) done.0) in
    (told_as_wakes c.args.telling list, did, c.tell.ensures.woken)

pub returns-clause-same : goal.returns-clause-same
returns-clause-same g c =
    let turned = c.happen.ensures.same in
    let left = c.leave.ensures.same in
    let entered = c.enter-section.ensures.same in
    (left.0 ∙ (turned.0 ∙ entered.0), (left.1.0 ∙ (turned.1.0 ∙ entered.1.0), left.1.1 ∙ (turned.1.1 ∙ entered.1.1), left.1.2 ∙ (turned.1.2 ∙ entered.1.2)))
