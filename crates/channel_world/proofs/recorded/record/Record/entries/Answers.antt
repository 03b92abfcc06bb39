use Rattle.channel_world.proofs.Words.{subst, RecordView, IsHistory}
use Rattle.channel_world.proofs.recorded.record.Record.entries.Goals as goal

pub returns-clause-laws : goal.returns-clause-laws
returns-clause-laws g c =
    let now = c.args.self.now in
    let h : IsHistory now.capacity now.entries =
    subst (λ (r : RecordView g.row.T.Denot). IsHistory r.capacity r.entries) c.self.view_is c.self.invariant in (
      h,
      c.a_record_loses_nothing.ensures.in_order now.capacity now.entries h,
      c.a_record_leaves_nobody_asleep.ensures.awake now.capacity now.entries h,
    )
