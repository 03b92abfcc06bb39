use Rattle.std.proofs.Common.{◌∙◌, refl, sym, subst}
use Rattle.std.specs.Prelude.{Option, None}
use Rattle.concurrent_queue.specs.declared.cells.QueueForm.{QueueForm}
use Rattle.event_listener.specs.Lists.{registration}
use Rattle.channel_calls.specs.Deeds.{Deed, registered}
use Rattle.channel_calls.specs.Parts.{Listeners}
use Rattle.channel_history.proofs.ListTurns.{register_changes}
use Rattle.channel_history.specs.CallSections.{HoldsList}
use Rattle.channel_history.specs.Cells.{May, Did}
use Rattle.channel_history.specs.declared.party.Standing.{Standing}
use Rattle.channel_cells.proofs.Sections.{goes_on, turns_so, registration_leaves_none, was_done, registers_so, registers_once, registered_by, registers_to}
use Rattle.channel_cells.proofs.cells.steps.CallCellsChannelCells.register.Goals as goal
use Rattle.channel_cells.specs.Cells.{view_of, form_in, IsSameParty}

pub enter-section-requires : goal.enter-section-requires
enter-section-requires g c = record { free = (c.requires.may None).2.2.0 }

pub turn_by-requires : goal.turn_by-requires
turn_by-requires g c =
    let enter = c.enter-section in
    let list = enter.result.list.value.lists in
    let s = view_of c.args.self.now in
    let u = view_of enter.new.self in
    let at = form_in enter.new.self in
    let none = (c.requires.may None).2.2.0 in
    let o = registers_so list c.args.key c.args.task in
    let d : Deed g.row.T.Denot g.row.W.Denot = registered c.args.line c.args.key c.args.task o.0 in
    let after = registration c.args.key c.args.task list in
    let may = subst (λ (f : QueueForm). May f d s) (sym enter.ensures.same.0) (c.requires.may o.0) in
    let goes = goes_on at c.args.line d s u list after may enter.ensures.inside refl (register_changes c.args.line list after c.args.key c.args.task o.0 o.1 refl) in
    record { next = (goes.0, turns_so at c.args.line u goes.0 list after (registration_leaves_none c.args.key c.args.task list) goes.1, registered_by at c.args.line s u list none enter.ensures.inside c.args.key c.args.task o.0 goes.0 o.1 goes.2) }

pub leave-requires : goal.leave-requires
leave-requires g c =
    let enter = c.enter-section in
    let list = enter.result.list.value.lists in
    let s = view_of c.args.self.now in
    let u = view_of enter.new.self in
    let at = form_in enter.new.self in
    let none = (c.requires.may None).2.2.0 in
    let to = registers_to at c.args.line s u list none enter.ensures.inside c.args.key c.args.task c.turn_by.new.self.seat.me.0.state c.turn_by.ensures.made in
    let d : Deed g.row.T.Denot g.row.W.Denot = registered c.args.line c.args.key c.args.task to.0 in
    let may = subst (λ (f : QueueForm). May f d s) (sym enter.ensures.same.0) (c.requires.may to.0) in
    let done = was_done at c.args.line d s u list (registration c.args.key c.args.task list) may enter.ensures.inside c.turn_by.new.self.seat.me.0.state to.2 in
    record {
      inside = subst (λ (x : Listeners g.row.W.Denot). HoldsList c.args.line x c.turn_by.new.self.seat.me.0.state) (sym c.register-back.ensures.lists) done.1;
      taken = enter.ensures.taken;
    }

pub returns-clause-deed : goal.returns-clause-deed
returns-clause-deed g c =
    let enter = c.enter-section in
    let list = enter.result.list.value.lists in
    let s = view_of c.args.self.now in
    let u = view_of enter.new.self in
    let at = form_in enter.new.self in
    let none = (c.requires.may None).2.2.0 in
    let to = registers_to at c.args.line s u list none enter.ensures.inside c.args.key c.args.task c.turn_by.new.self.seat.me.0.state c.turn_by.ensures.made in
    let d : Deed g.row.T.Denot g.row.W.Denot = registered c.args.line c.args.key c.args.task to.0 in
    let may = subst (λ (f : QueueForm). May f d s) (sym enter.ensures.same.0) (c.requires.may to.0) in
    let done = was_done at c.args.line d s u list (registration c.args.key c.args.task list) may enter.ensures.inside c.turn_by.new.self.seat.me.0.state to.2 in
    let back = registers_once list c.args.key c.args.task to.0 c.register-back.result to.1 c.register-back.ensures.answer in
    let turned = c.turn_by.ensures.same in
    let left = c.leave.ensures.same in
    let entered = enter.ensures.same in
    let form = left.0 ∙ (turned.2 ∙ entered.0) in
    let party : IsSameParty c.args.self.now c.leave.new.self = (left.1.0 ∙ (turned.0 ∙ entered.1.0), left.1.1 ∙ (turned.1 ∙ entered.1.1), left.1.2 ∙ (turned.3 ∙ entered.1.2)) in
    let did = subst (λ (f : QueueForm). Did f d s (view_of c.leave.new.self)) entered.0
    (subst (λ (x : Standing g.row.T.Denot g.row.W.Denot). Did at d s x) (sym c.leave.ensures.outside) done.0) in
    (subst (λ (o : Option g.row.W.Denot). Did (form_in c.args.self.now) (registered c.args.line c.args.key c.args.task o) s (view_of c.leave.new.self)) back did, form, party)
