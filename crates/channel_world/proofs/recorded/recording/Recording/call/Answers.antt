use Rattle.std.specs.Prelude.{◌≡◌, ◌∷◌, ◌++◌}
use Rattle.channel_world.proofs.Lemmas.{arith, rules, ◌∙◌, [], List, None, Some, ap, inl, inr, length, refl, subst, sym, vec_len, refusal, MayStop, Waiter, MadeAsSaid, SeatView, RecordingView, IsRecording, Receipt, WorldRefusal, few_woken, few_listed, made_so, one_recorded, still_recording, sum_is_small}
use Rattle.channel_world.specs.View.{at_rest}
use Rattle.channel_world.proofs.recorded.recording.Recording.call.Goals as goal

pub copied_receipt-receipt-requires-clause-names : goal.copied_receipt-receipt-requires-clause-names
copied_receipt-receipt-requires-clause-names g c =
    let few = few_woken (at_rest c.self.inside.world) c.args.call _ c.in-Ok.ensures.ok in
    let room = c.in-Some.ensures.names.1 in
    let woken = ap (λ (ws : List Waiter). length ws) c.new.ensures in
    omega (arith, few, room, woken)

pub copied_receipt-receipt-requires-clause-messages : goal.copied_receipt-receipt-requires-clause-messages
copied_receipt-receipt-requires-clause-messages g c =
    let few = few_listed (at_rest c.self.inside.world) c.args.call _ c.in-Ok.ensures.ok in
    let room = c.in-Some.ensures.messages.1 in
    omega (arith, few, room)

pub returns-in-Some-refusal-clause-why : goal.returns-in-Some-refusal-clause-why
returns-in-Some-refusal-clause-why g c =
    let refused : refusal (at_rest c.self.inside.world) c.args.call ≡ Some c.in-Some-refusal.why = search rules in
    subst (λ (v : RecordingView g.row.T.Denot). MayStop v.state c.args.call (Some c.in-Some-refusal.why)) c.self.view_is (inl refused)

pub returns-in_default-answer-clause-why : goal.returns-in_default-answer-clause-why
returns-in_default-answer-clause-why g c =
    let accepted : refusal (at_rest c.self.inside.world) c.args.call ≡ None = search rules in
    subst (λ (v : RecordingView g.row.T.Denot). MayStop v.state c.args.call (Some WorldRefusal.NoMemory)) c.self.view_is (inr (accepted, refl))

pub invariant_of-self : goal.invariant_of-self
invariant_of-self g c =
    let state = at_rest c.self.inside.world in
    let v : RecordingView g.row.T.Denot = record { capacity = c.self.inside.capacity; state = state; entries = c.self.inside.entries.items; seats = c.self.inside.made; parts = c.self.inside.left } in (
      c.self.invariant.0,
      still_recording v state c.room_for.new.entries.items (vec_len c.self.inside.entries) (vec_len c.room_for.new.entries) c.self.inside.book.total
          c.self.inside.rest.parts c.self.inside.rest.amount g.L.Ledger.parts c.self.invariant.1 refl c.in_default.ensures.entries.0 c.in_default.ensures.entries.1,
    )

pub invariant_of-self-in_default-answer : goal.invariant_of-self-in_default-answer
invariant_of-self-in_default-answer g c =
    let state = at_rest c.self.inside.world in
    let v : RecordingView g.row.T.Denot = record { capacity = c.self.inside.capacity; state = state; entries = c.self.inside.entries.items; seats = c.self.inside.made; parts = c.self.inside.left } in (
      c.answer.ensures.quiet,
      still_recording v (at_rest c.answer.new.self) c.room_for.new.entries.items (vec_len c.self.inside.entries) (vec_len c.room_for.new.entries) c.self.inside.book.total
          c.self.inside.rest.parts c.self.inside.rest.amount g.L.Ledger.parts c.self.invariant.1 c.in_default-answer.ensures.err c.in-Some.ensures.entries.0 c.in-Some.ensures.entries.1,
    )

pub invariant_of-self-2 : goal.invariant_of-self-2
invariant_of-self-2 g c =
    let before = at_rest c.self.inside.world in
    let after = at_rest c.answer.new.self in
    let done = c.in-Ok.done in
    let accepted : refusal before c.args.call ≡ None = search rules in
    let entry : Receipt g.row.T.Denot = record { place = c.len.result; seat = c.seat.inside.number; call = c.args.call; reply = done.reply; woken = c.new.result } in
    let made = made_so before after c.args.call c.len.result c.seat.inside.number done.reply done.woken.items c.new.result accepted c.in-Ok.ensures.ok c.new.ensures in
    let old = c.self.inside.entries.items in
    let v : RecordingView g.row.T.Denot = record { capacity = c.self.inside.capacity; state = before; entries = old; seats = c.self.inside.made; parts = c.self.inside.left } in
    let len = c.len.ensures in
    let still = c.in-Some.ensures.entries.1 in
    let long : vec_len c.self.inside.entries ≡ length old = c.self.inside.entries.ok.0 in
    let longer = c.push_reserved.ensures.len in
    let items : c.push_reserved.new.self.items ≡ old ++ entry ∷ [] =
    c.push_reserved.ensures.items ∙ ap (λ (es : List (Receipt g.row.T.Denot)). es ++ entry ∷ []) c.in-Some.ensures.entries.0 in
    let i = one_recorded v after entry (vec_len c.self.inside.entries) (vec_len c.push_reserved.new.self) c.self.inside.book.total c.add.new.self.total
    c.self.inside.rest.parts c.self.inside.rest.amount g.L.Ledger.parts c.self.invariant.1 (omega (arith, len, still, long)) made (omega (arith, longer, still)) (omega (arith, c.audit.ensures.total, c.add.ensures.total)) in (
      c.answer.ensures.quiet,
      subst
          (λ (es : List (Receipt g.row.T.Denot)).
          IsRecording (record { capacity = c.self.inside.capacity; state = after; entries = es; seats = c.self.inside.made; parts = c.self.inside.left }) (vec_len c.push_reserved.new.self)
          c.add.new.self.total c.self.inside.rest.parts c.self.inside.rest.amount g.L.Ledger.parts)
          (sym items) i,
    )

pub returns-clause-made : goal.returns-clause-made
returns-clause-made g c =
    let before = at_rest c.self.inside.world in
    let after = at_rest c.answer.new.self in
    let done = c.in-Ok.done in
    let accepted : refusal before c.args.call ≡ None = search rules in
    let made = made_so before after c.args.call c.len.result c.seat.inside.number done.reply done.woken.items c.new.result accepted c.in-Ok.ensures.ok c.new.ensures in
    let receipt : MadeAsSaid before c.copied_receipt-receipt.result after =
    subst (λ (r : Receipt g.row.T.Denot). MadeAsSaid before r after) (sym c.copied_receipt-receipt.ensures.same) made in
    subst (λ (v : RecordingView g.row.T.Denot). MadeAsSaid v.state c.copied_receipt-receipt.result after) c.self.view_is receipt

pub returns-clause-ends : goal.returns-clause-ends
returns-clause-ends g c =
    let before = at_rest c.self.inside.world in
    let after = at_rest c.answer.new.self in
    let done = c.in-Ok.done in
    let accepted : refusal before c.args.call ≡ None = search rules in
    let made = made_so before after c.args.call c.len.result c.seat.inside.number done.reply done.woken.items c.new.result accepted c.in-Ok.ensures.ok c.new.ensures in
    let place : c.copied_receipt-receipt.result.place ≡ c.len.result = ap (λ (r : Receipt g.row.T.Denot). r.place) c.copied_receipt-receipt.ensures.same in
    let len = c.len.ensures in
    let still = c.in-Some.ensures.entries.1 in
    let long : vec_len c.self.inside.entries ≡ length c.self.inside.entries.items = c.self.inside.entries.ok.0 in
    record {
      capacity = c.self.inside.capacity;
      before = c.self.inside.entries.items;
      history = record { last = before; replays = c.self.invariant.1.replays };
      place = omega (arith, place, len, still, long);
      after = after;
      made = subst (λ (r : Receipt g.row.T.Denot). MadeAsSaid before r after) (sym c.copied_receipt-receipt.ensures.same) made;
    }

pub returns-clause-behind : goal.returns-clause-behind
returns-clause-behind g c =
    let place : c.copied_receipt-receipt.result.place ≡ c.len.result = ap (λ (r : Receipt g.row.T.Denot). r.place) c.copied_receipt-receipt.ensures.same in
    let len = c.len.ensures in
    let still = c.in-Some.ensures.entries.1 in
    let bound = c.audit.ensures.bound in
    let counted = c.self.invariant.1.counted in
    let most = c.self.invariant.1.numbered in
    let sum = sum_is_small c.self.inside.made most in
    let mine = c.seat.invariant.2 in
    let calls = ap (λ (s : SeatView). s.calls) c.seat.view_is in
    omega (arith, place, len, still, bound, counted, most, sum, mine, calls)
