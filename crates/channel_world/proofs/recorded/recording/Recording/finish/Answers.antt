use Rattle.std.specs.Prelude.{◌≡◌, ◌∷◌, ◌++◌}
use Rattle.channel_world.proofs.Lemmas.{◌∙◌, [], ℕ, List, ap, arith, length, vec_len, SeatView, calls_of, numbers_of, sum_below, calls_snoc, none_counted, numbers_snoc, told_apart}
use Rattle.channel_world.specs.View.{at_rest}
use Rattle.channel_world.proofs.recorded.recording.Recording.finish.Goals as goal

pub loop-seat-preserved : goal.loop-seat-preserved
loop-seat-preserved g c =
    let i = c.loop-seat.invariant in
    let items : c.loop-seat.seats.items ≡ c.pop.new.self.items ++ c.in-Some.seat ∷ [] = c.in-Some.ensures.items in
    let len = c.in-Some.ensures.len in
    let view = c.seat.view_is in
    let number = ap (λ (s : SeatView). s.number) view in
    let made = ap (λ (s : SeatView). s.calls) view in
    let kept = c.seat.invariant in
    let one = kept.0 in
    let few = kept.1 in
    let mine = kept.2 in
    let calls = ap (λ (ss : List SeatView). calls_of ss) items ∙ calls_snoc c.pop.new.self.items c.in-Some.seat in
    let numbers = ap (λ (ss : List SeatView). numbers_of ss) items ∙ numbers_snoc c.pop.new.self.items c.in-Some.seat in
    let parts = c.merge.ensures.parts in
    let amount = c.merge.ensures.amount in
    let p = i.parts in
    let q = i.amounts in
    let s = i.small in
    record {
      parts = omega (arith, parts, one, len, p);
      within = c.merge.ensures.apart;
      amounts = omega (arith, amount, mine, made, number, calls, numbers, q);
      small = omega (arith, number, few, numbers, len, s);
    }

pub returns-clause-counted : goal.returns-clause-counted
returns-clause-counted g c =
    let i = c.loop-seat.invariant in
    let p = i.parts in
    let q = i.amounts in
    let s = i.small in
    let old = c.self.invariant.1 in
    let seats = old.one_each in
    let counted = old.counted in
    let none : vec_len c.loop-seat.seats ≡ 0 = c.in_default.ensures.cases.0 in
    let left : vec_len c.loop-seat.seats ≡ length c.loop-seat.seats.items = c.loop-seat.seats.ok.0 in
    let rest = none_counted c.loop-seat.seats.items (omega (arith, none, left)) in
    let within = i.within in
    let gathered = c.if-len-self.false in
    let long = c.len.ensures in
    let whole = c.audit.ensures.whole (omega (arith, p, seats, none, within, gathered, long)) in
    let entries : vec_len c.self.inside.entries ≡ length c.self.inside.entries.items = c.self.inside.entries.ok.0 in
    let items : vec_len c.args.seats ≡ length c.args.seats.items = c.args.seats.ok.0 in
    let as_many : c.self.inside.made ≡ length c.args.seats.items = omega (arith, p, seats, none, within, gathered, long, items) in
    let told =
    told_apart c.self.inside.made (numbers_of c.args.seats.items) (calls_of c.args.seats.items) (length c.self.inside.entries.items)
    old.numbered (omega (arith, s, rest, none, left, as_many, items)) (omega (arith, q, rest, whole, counted, entries)) in
    (told.0 ∙ ap (λ (n : ℕ). sum_below n) as_many, told.1)

pub returns-then-len-self-clause-gathered : goal.returns-then-len-self-clause-gathered
returns-then-len-self-clause-gathered g c all =
    let old = c.self.invariant.1 in
    let each = old.one_each in
    let few = c.if-len-self.true in
    let long = c.len.ensures in
    let items : vec_len c.args.seats ≡ length c.args.seats.items = c.args.seats.ok.0 in
    let kept = old.kept (omega (arith, few)) in
    absurd (omega (arith, all, each, few, long, items, kept))

pub invariant_of-result : goal.invariant_of-result
invariant_of-result g c = record { last = at_rest c.self.inside.world; replays = c.self.invariant.1.replays }
