use Rattle.std.proofs.Common.{◌≡◌, ◌++◌, ◌∷◌, [], Some, None, ap, sym, subst, false, ◌∙◌, arith}
use Rattle.event_listener.specs.declared.recorded.RecordedCall.TheVariants.{Registered}
use Rattle.event_listener.specs.Lists.{kind_of}
use Rattle.event_listener.specs.Replay.{total_of}
use Rattle.event_listener.proofs.ReplayLemmas.{kept, same-registered, waits-answer}
use Rattle.event_listener.proofs.recording.Recording.register_waiting.Goals as goal

pub invariant_of-self-2 : goal.invariant_of-self-2
invariant_of-self-2 g c =
    let lists = c.self.inside.list.lists in
    let waits = subst (λ v. kind_of v.lists c.args.key ≡ Some false) (sym c.self.view_is) c.requires in
    let same = same-registered c.args.key c.args.task lists waits in
    let made = c.register.ensures.lists in
    let total = ap total_of made in
    let grown = c.push_reserved.ensures.items ∙ ap (λ calls. calls ++ Registered c.args.key c.args.task None ∷ []) c.in-Ok.ensures.items in
    kept _ _ _ lists _ c.self.invariant (Registered c.args.key c.args.task None) _ _ _ c.register.new.self.lists c.register.new.self.serials (waits-answer c.args.key lists waits) made c.register.ensures.serials grown
    (omega (arith, same, total, c.in-Ok.ensures.room, c.total-total.ensures, c.push_reserved.ensures.len, c.push_reserved.ensures.capacity))
