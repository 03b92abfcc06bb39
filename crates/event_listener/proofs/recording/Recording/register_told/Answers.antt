use Rattle.std.proofs.Common.{◌≡◌, Some, Ok, ap, sym, subst, true, ◌∙◌, arith}
use Rattle.event_listener.specs.declared.recorded.RecordedCall.TheVariants.{Registered}
use Rattle.event_listener.specs.Lists.{kind_of}
use Rattle.event_listener.specs.Replay.{total_of}
use Rattle.event_listener.proofs.ReplayLemmas.{kept, gone-registered}
use Rattle.event_listener.proofs.recording.Recording.register_told.Goals as goal

pub invariant_of-self : goal.invariant_of-self
invariant_of-self g c =
    let lists = c.self.inside.list.lists in
    let gone = gone-registered c.args.key c.args.task lists (subst (λ v. kind_of v.lists c.args.key ≡ Some true) (sym c.self.view_is) c.requires) in
    let made = c.in-Ok-Told.ensures.lists in
    let total = ap total_of made in
    kept _ _ _ lists _ c.self.invariant (Registered c.args.key c.args.task (Some c.in-Ok-Told.tag)) _ _ _ c.register.new.self.lists c.register.new.self.serials (sym c.in-Ok-Told.ensures.answer ∙ ap Ok c.in-Ok-Told.field-0-is) made c.in-Ok-Told.ensures.serials c.push_reserved.ensures.items
    (omega (arith, gone, total, c.self.invariant.room, c.push_reserved.ensures.len, c.push_reserved.ensures.capacity))
