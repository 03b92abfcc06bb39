use Rattle.std.proofs.Common.{◌∙◌, Err, refl, sym, subst, ap}
use Rattle.concurrent_queue.specs.declared.cells.QueueForm.{QueueForm}
use Rattle.channel_calls.specs.Deeds.{Deed, inserted}
use Rattle.channel_history.proofs.ListTurns.{insert_changes}
use Rattle.event_listener.specs.declared.error.ListenError.TheVariants.{NoMemory}
use Rattle.channel_history.specs.Cells.{May, Did}
use Rattle.channel_history.specs.declared.party.Standing.{Standing}
use Rattle.channel_cells.proofs.Sections.{goes_on, may_turn, was_done}
use Rattle.channel_cells.proofs.cells.steps.CallCellsChannelCells.insert.Goals as goal
use Rattle.channel_cells.specs.Cells.{view_of, form_in, IsSameParty}

pub enter-section-requires : goal.enter-section-requires
enter-section-requires g c = record { free = (c.requires.may (Err NoMemory)).2.2.0 }

pub happen-requires : goal.happen-requires
happen-requires g c =
    let enter = c.enter-section in
    let list = enter.result.list.value.lists in
    let after = c.insert-answer.new.list.value.lists in
    let d : Deed g.row.T.Denot g.row.W.Denot = inserted c.args.line c.insert-answer.result in
    let may = subst (λ (f : QueueForm). May f d (view_of c.args.self.now)) (sym enter.ensures.same.0) (c.requires.may c.insert-answer.result) in
    let goes = goes_on (form_in enter.new.self) c.args.line d (view_of c.args.self.now) (view_of enter.new.self) list after may enter.ensures.inside refl (insert_changes c.args.line list after c.insert-answer.result c.insert-answer.ensures.unknown c.insert-answer.ensures.lists c.insert-answer.ensures.unchanged) in
    let flags = may_turn (form_in enter.new.self) c.args.line (view_of enter.new.self) goes.0 list after c.nobody_waits-before.result c.nobody_waits-after.result c.nobody_waits-before.ensures.nobody c.nobody_waits-before.ensures.somebody c.nobody_waits-after.ensures.nobody goes.1 in
    record { next = (goes.0, flags, goes.2) }

pub leave-requires : goal.leave-requires
leave-requires g c =
    let enter = c.enter-section in
    let list = enter.result.list.value.lists in
    let after = c.insert-answer.new.list.value.lists in
    let d : Deed g.row.T.Denot g.row.W.Denot = inserted c.args.line c.insert-answer.result in
    let may = subst (λ (f : QueueForm). May f d (view_of c.args.self.now)) (sym enter.ensures.same.0) (c.requires.may c.insert-answer.result) in
    let done = was_done (form_in enter.new.self) c.args.line d (view_of c.args.self.now) (view_of enter.new.self) list after may enter.ensures.inside (view_of c.happen.new.self) c.happen.ensures.made in
    record { inside = done.1; taken = (enter.ensures.taken.0 ∙ sym (ap (λ t. t.table) c.happen.ensures.channel), enter.ensures.taken.1) }

pub returns-clause-deed : goal.returns-clause-deed
returns-clause-deed g c =
    let enter = c.enter-section in
    let list = enter.result.list.value.lists in
    let after = c.insert-answer.new.list.value.lists in
    let d : Deed g.row.T.Denot g.row.W.Denot = inserted c.args.line c.insert-answer.result in
    let may = subst (λ (f : QueueForm). May f d (view_of c.args.self.now)) (sym enter.ensures.same.0) (c.requires.may c.insert-answer.result) in
    let done = was_done (form_in enter.new.self) c.args.line d (view_of c.args.self.now) (view_of enter.new.self) list after may enter.ensures.inside (view_of c.happen.new.self) c.happen.ensures.made in
    let turned = c.happen.ensures.same in
    let left = c.leave.ensures.same in
    let entered = enter.ensures.same in
    let form = left.0 ∙ (turned.0 ∙ entered.0) in
    let party : IsSameParty c.args.self.now c.leave.new.self = (left.1.0 ∙ (turned.1.0 ∙ entered.1.0), left.1.1 ∙ (turned.1.1 ∙ entered.1.1), left.1.2 ∙ (turned.1.2 ∙ entered.1.2)) in
    let did = subst (λ (f : QueueForm). Did f d (view_of c.args.self.now) (view_of c.leave.new.self)) entered.0
    (subst (λ (x : Standing g.row.T.Denot g.row.W.Denot). Did (form_in enter.new.self) d (view_of c.args.self.now) x) (sym c.leave.ensures.outside) done.0) in
    (did, form, party)
