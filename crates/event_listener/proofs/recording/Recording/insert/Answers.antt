use Rattle.std.proofs.Common.{◌++◌, ◌∷◌, [], ap, ◌∙◌, arith}
use Rattle.event_listener.specs.declared.recorded.RecordedCall.TheVariants.{Listened}
use Rattle.event_listener.specs.Replay.{total_of}
use Rattle.event_listener.proofs.ReplayLemmas.{kept, total-listened}
use Rattle.event_listener.proofs.recording.Recording.insert.Goals as goal

pub invariant_of-self-in-Ok-insert : goal.invariant_of-self-in-Ok-insert
invariant_of-self-in-Ok-insert g c =
    let lists = c.self.inside.list.lists in
    let made = c.in-Ok-insert.ensures.lists in
    let total = ap total_of made ∙ total-listened c.in-Ok-insert.key lists in
    let grown = c.push_reserved.ensures.items ∙ ap (λ calls. calls ++ Listened c.in-Ok-insert.key ∷ []) c.in-Ok.ensures.items in
    kept _ _ _ lists _ c.self.invariant (Listened c.in-Ok-insert.key) _ _ _ c.insert.new.self.lists c.insert.new.self.serials (c.in-Ok-insert.ensures.unknown, c.in-Ok-insert.ensures.serial) made c.in-Ok-insert.ensures.serials grown
    (omega (arith, total, c.in-Ok.ensures.room, c.total-total.ensures, c.push_reserved.ensures.len, c.push_reserved.ensures.capacity))
