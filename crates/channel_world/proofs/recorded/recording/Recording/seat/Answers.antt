use Rattle.channel_world.proofs.Lemmas.{arith, ap, inl, inr, RecordingView, sum_next}
use Rattle.channel_world.proofs.recorded.recording.Recording.seat.Goals as goal
use Rattle.channel_world.proofs.recorded.recording.Recording.seat.Goals.{then-self-le1-via-then-self-le1, then-self-le1-via-else-self-le1+then-self-ge-MOST_SEATS}

pub returns-then-self-le1-clause-used_up : goal.returns-then-self-le1-clause-used_up
returns-then-self-le1-clause-used_up g c =
    let parts = ap (λ (v : RecordingView g.row.T.Denot). v.parts) c.self.view_is in
    let seats = ap (λ (v : RecordingView g.row.T.Denot). v.seats) c.self.view_is in
    let most = c.self.invariant.1.numbered in
    elim c.then-self-le1.branch [
      | then-self-le1-via-then-self-le1 w ↦ let h = w.if-self-le1.true in inl (omega (arith, parts, h))
      | then-self-le1-via-else-self-le1+then-self-ge-MOST_SEATS w ↦ let h = w.if-self-ge-MOST_SEATS.true in inr (omega (arith, seats, most, h))
    ]

pub invariant_of-self : goal.invariant_of-self
invariant_of-self g c =
    let i = c.self.invariant.1 in
    let counted = i.counted in
    let added = c.add.ensures.total in
    let next = sum_next c.self.inside.made in
    let idle = i.idle in
    let left = i.parts_left in
    let each = i.one_each in
    let more = c.if-self-le1.false in
    let few = c.if-self-ge-MOST_SEATS.false in
    let parts = c.split_off-mine.ensures.parts_left in
    let amount = c.split_off-mine.ensures.amount_left in (
      c.self.invariant.0,
      record {
        replays = i.replays;
        counted = omega (arith, counted, added, next);
        idle = omega (arith, idle, amount);
        parts_left = omega (arith, left, parts, more);
        one_each = omega (arith, each, more);
        numbered = omega (arith, few);
        kept = λ some. omega (arith, more);
      },
    )
