use Rattle.std.proofs.Common.{ap, sym, arith}
use Rattle.event_listener.specs.declared.recorded.RecordedCall.TheVariants.{Removed}
use Rattle.event_listener.specs.Replay.{total_of}
use Rattle.event_listener.proofs.ReplayLemmas.{kept, gone-removed}
use Rattle.event_listener.proofs.recording.Recording.remove.Goals as goal

pub invariant_of-self : goal.invariant_of-self
invariant_of-self g c =
    let lists = c.self.inside.list.lists in
    let gone = gone-removed c.args.key c.args.pass_on lists c.in-Ok.told (sym c.in-Ok.ensures.answer) in
    let made = c.in-Ok.ensures.lists in
    let total = ap total_of made in
    kept _ _ _ lists _ c.self.invariant (Removed c.args.key c.args.pass_on c.in-Ok.told) _ _ _ c.remove.new.self.lists c.remove.new.self.serials (sym c.in-Ok.ensures.answer) made c.in-Ok.ensures.serials c.push_reserved.ensures.items
    (omega (arith, gone, total, c.self.invariant.room, c.push_reserved.ensures.len, c.push_reserved.ensures.capacity))
