-- One step of a call's machine over parts of a channel that change just as each deed says: it is the step of the contract.
use Rattle.std.proofs.Common.{◌≡◌, ℕ, ◌+◌, ◌-◌, Bool, true, false, if◌then◌else◌, List, [], ◌++◌, Option, None, Some, Ok, Err, inl, inr, refl, sym, ap, ◌∙◌, subst}
use Rattle.concurrent_queue.specs.Contents.{Contents}
use Rattle.concurrent_queue.specs.Queue.{Queue, Phase, after, asked}
use Rattle.concurrent_queue.proofs.Callers.{itself}
use Rattle.concurrent_queue.specs.Step.{ActiveQueueCall, FitsAt, chain_after, mark_of, IsQueueStep}
use Rattle.concurrent_queue.specs.declared.queue_call.QueueCall.{QueueCall}
use Rattle.concurrent_queue.specs.declared.call.QueueReply.{QueueReply}
use Rattle.event_listener.specs.Lists.{listened, registration, removed, removed_wakes}
use Rattle.event_listener.specs.Notices.{Woken}
use Rattle.event_listener.specs.declared.key.Key.{Key}
use Rattle.channel_calls.proofs.Walking.{taken_of}
use Rattle.channel_calls.specs.declared.mark.Mark.{Mark}
use Rattle.channel_calls.specs.declared.mark.Mark.TheVariants.{Nothing}
use Rattle.channel_calls.specs.declared.reply.Reply.{Reply}
use Rattle.channel_calls.specs.declared.reply.Reply.TheVariants as reply
use Rattle.channel_calls.specs.declared.stage.Purpose.{Purpose}
use Rattle.channel_calls.specs.declared.stage.Ending.{Ending}
use Rattle.channel_calls.specs.declared.stage.ListenerRef.{ListenerRef}
use Rattle.channel_calls.specs.declared.stage.Returned.{Returned}
use Rattle.channel_calls.specs.declared.stage.WaitList.{WaitList}
use Rattle.channel_calls.specs.declared.stage.WaitList.TheVariants.{Sends, Receives, Streams}
use Rattle.channel_calls.specs.declared.stage.Making.{Making}
use Rattle.channel_calls.specs.declared.stage.Side.{Side}
use Rattle.channel_calls.specs.declared.stage.Stage.{Stage}
use Rattle.channel_calls.specs.declared.stage.Stage.TheVariants.{Trying, Working, Finished}
use Rattle.channel_calls.specs.declared.stage.NextStep.{NextStep}
use Rattle.channel_calls.specs.declared.stage.NextStep.TheVariants.{Tries, Works, Ends}
use Rattle.channel_calls.specs.declared.stage.Waiting.{Waiting}
use Rattle.channel_calls.specs.declared.stage.ListStep.{ListStep}
use Rattle.channel_calls.specs.declared.stage.ListStep.TheVariants.{TellReceive, TellStreams, TellSend, TellSends, TakeRoom, TellAll, Insert, Register, Leave, Lower, Count, Load, Raise}
use Rattle.channel_calls.specs.Deeds.{Deed, Done}
use Rattle.channel_calls.specs.Effects.{Does, OnList}
use Rattle.channel_calls.specs.Marks.{mark_of_queue, up, down}
use Rattle.channel_calls.specs.Parts.{Parts, WaitLists, Listeners, with_cells, with_wait_lists, listeners, count, with_count, is_raised, told_one, told_one_wakes, told_more, told_more_wakes, told_all, told_all_wakes, waits}
use Rattle.channel_calls.specs.Turns.{line_of, leaving, nothing_kept, ends_by, again, unlistened, pends_by, told_all_next, TakesRoom, lowered_next, loaded_next, raised_next}
use Rattle.channel_calls.specs.Answered.{answered_next}
use Rattle.channel_calls.specs.Moves.{Channel, Effect, channel, queued, untouched, on_line, on_count, leaves, Turned, TakesRoomFor, Worked, seats, phase, OnePlace, IsTaken, IsStepOver, IsChannelStep}
use Rattle.channel_calls.specs.Walks.{Marked, Heard, Leaves, WorkMakes, ChannelMakes}

module _ {T W : Type 0} where
  -- a turn that was taken: over cells that fit the other calls, the new call of the queue fits beside them
  pub record Entered (turn : NextStep T W) (blocks : List ℕ) (cells : Contents T) (q : Queue T) (left right : List (ActiveQueueCall T)) (r : Option (Reply T)) (s : Stage (QueueCall T) T W) : Type 0 where
    pub phase_now : Phase T
    pub turned : Turned turn r (phase phase_now s)
    pub fits : FitsAt blocks cells q (left ++ (seats phase_now s ++ right))

  module _ (blocks : List ℕ) (cells : Contents T) (q : Queue T) (f : Phase T) (left right : List (ActiveQueueCall T)) (h : FitsAt blocks cells q (left ++ right)) where
    fits_beside : (s stage : Stage (QueueCall T) T W) → s ≡ stage → seats f stage ≡ [] → FitsAt blocks cells q (left ++ (seats f s ++ right))
    fits_beside s stage e none =
        let same : seats f s ≡ [] = ap (λ (x : Stage (QueueCall T) T W). seats f x) e ∙ none in
        subst (λ (ss : List (ActiveQueueCall T)). FitsAt blocks cells q (left ++ (ss ++ right))) (sym same) h

    entered : (turn : NextStep T W) (r : Option (Reply T)) (s : Stage (QueueCall T) T W) → IsTaken turn r s → Entered turn blocks cells q left right r s
    entered (Tries x purpose) r s (call, starts, none, e) =
        record {
          phase_now = asked x;
          turned = (none, ap (λ (z : Stage (QueueCall T) T W). phase (asked x) z) e);
          fits = subst (λ (z : Stage (QueueCall T) T W). FitsAt blocks cells q (left ++ (seats (asked x) z ++ right))) (sym e) (starts blocks cells q left right h);
        }
    entered (Works w) r s (none, e) =
        record { phase_now = f; turned = (none, ap (λ (z : Stage (QueueCall T) T W). phase f z) e); fits = fits_beside s (Working w) e refl }
    entered (Ends x kept) r s (some, e) =
        record { phase_now = f; turned = (some, ap (λ (z : Stage (QueueCall T) T W). phase f z) e); fits = fits_beside s (Finished kept) e refl }

  module _ (parts parts' : Parts T W) where
    at_next : (stage s s0 : Stage (QueueCall T) T W) (m m0 : Mark) (r r0 : Option (Reply T)) → s ≡ s0 → m ≡ m0 → r ≡ r0 → IsStepOver parts stage [] parts' s0 m0 r0 → IsStepOver parts stage [] parts' s m r
    at_next stage s s0 m m0 r r0 e f g h =
        let by_reply : IsStepOver parts stage [] parts' s0 m0 r = subst (λ (x : Option (Reply T)). IsStepOver parts stage [] parts' s0 m0 x) (sym g) h in
        let by_mark : IsStepOver parts stage [] parts' s0 m r = subst (λ (x : Mark). IsStepOver parts stage [] parts' s0 x r) (sym f) by_reply in
        subst (λ (x : Stage (QueueCall T) T W). IsStepOver parts stage [] parts' x m r) (sym e) by_mark

    -- ---- a step of the queue's call

    wait_lists_stays : (q' : Queue T) (q : Queue T) → parts'.wait_lists ≡ parts.wait_lists → channel q' parts' ≡ record (channel q parts) { queue = q' }
    wait_lists_stays q' q e = ap (λ (a : WaitLists W). let c : Channel T W = record { queue = q'; wait_lists = a } in c) e

    cells_only : parts'.wait_lists ≡ parts.wait_lists → parts' ≡ with_cells parts'.cells parts
    cells_only e = ap (λ (a : WaitLists W). let p : Parts T W = record { cells = parts'.cells; wait_lists = a } in p) e

    module _ (call call' : QueueCall T) (purpose : Purpose T W) (wait_lists : parts'.wait_lists ≡ parts.wait_lists) where
      queue_effect : (q : Queue T) (f : Phase T)
          → (let e : Effect T W = record { channel = channel (after f (mark_of call') q) parts'; mark = mark_of_queue (mark_of call'); woken = [] } in e) ≡ queued f (mark_of call') (channel q parts)
      queue_effect q f =
          ap (λ (c : Channel T W). let e : Effect T W = record { channel = c; mark = mark_of_queue (mark_of call'); woken = [] } in e) (wait_lists_stays (after f (mark_of call') q) q wait_lists)

      queue_goes : IsQueueStep parts.cells call parts'.cells call' None → IsStepOver parts (Trying call purpose) [] parts' (Trying call' purpose) (mark_of_queue (mark_of call')) None
      queue_goes step blocks q f left right range fits =
          let s = step blocks q f left right range fits in
          let d = s.effect in
          record {
            queue = after f (mark_of call') q;
            phase_now = d.0;
            one_place = inl (cells_only wait_lists, s.one_cell);
            fits = d.2;
            ends = λ free. inl (call', refl, s.ends free);
            moves = record { mark = mark_of call'; effect = queue_effect q f; how = inl (d.0, d.1, refl, refl) };
          }

      queue_answers : (x : QueueReply T) (r : Option (Reply T)) (stage' : Stage (QueueCall T) T W) → IsQueueStep parts.cells call parts'.cells call' (Some x) → IsTaken (answered_next purpose x) r stage'
          → IsStepOver parts (Trying call purpose) [] parts' stage' (mark_of_queue (mark_of call')) r
      queue_answers x r stage' step taken blocks q f left right range fits =
          let s = step blocks q f left right range fits in
          let d = s.effect in
          let t = entered (chain_after blocks parts.cells parts'.cells) parts'.cells (after f (mark_of call') q) f left right d.1 (answered_next purpose x) r stage' taken in
          record {
            queue = after f (mark_of call') q;
            phase_now = t.phase_now;
            one_place = inl (cells_only wait_lists, s.one_cell);
            fits = t.fits;
            ends = λ free. inr (x, mark_of call', d.0, taken);
            moves = record { mark = mark_of call'; effect = queue_effect q f; how = inr (x, d.0, t.turned) };
          }

    heard : (call after : QueueCall T) (purpose : Purpose T W) (o : Option (QueueReply T)) (m : Mark) (next : Stage (QueueCall T) T W) (r : Option (Reply T)) → IsQueueStep parts.cells call parts'.cells after o → parts'.wait_lists ≡ parts.wait_lists
        → m ≡ mark_of_queue (mark_of after) → Heard purpose after o next r → IsStepOver parts (Trying call purpose) [] parts' next m r
    heard call after purpose None m next r step wait_lists e (n, none) =
        at_next (Trying call purpose) next (Trying after purpose) m (mark_of_queue (mark_of after)) r None n e none (queue_goes call after purpose wait_lists step)
    heard call after purpose (Some x) m next r step wait_lists e h =
        at_next (Trying call purpose) next next m (mark_of_queue (mark_of after)) r r refl e refl (queue_answers call after purpose wait_lists x r next step (taken_of (answered_next purpose x) next r h))

    -- ---- a step on a list or on a count

    same_blocks : (blocks : List ℕ) (c : Contents T) → chain_after blocks c c ≡ blocks
    same_blocks blocks c = rw (itself c.tail_block) refl

    still_fits : (blocks : List ℕ) (q : Queue T) (ss : List (ActiveQueueCall T)) → parts'.cells ≡ parts.cells → FitsAt blocks parts.cells q ss
        → FitsAt (chain_after blocks parts.cells parts'.cells) parts'.cells q ss
    still_fits blocks q ss e h =
        subst (λ (c : Contents T). FitsAt (chain_after blocks parts.cells c) c q ss) (sym e)
        (subst (λ (bs : List ℕ). FitsAt bs parts.cells q ss) (sym (same_blocks blocks parts.cells)) h)

    no_effect : (q : Queue T) → parts' ≡ parts
        → (let e : Effect T W = record { channel = channel q parts'; mark = Nothing; woken = [] } in e) ≡ untouched (channel q parts)
    no_effect q e = ap (λ (p : Parts T W). let x : Effect T W = record { channel = channel q p; mark = Nothing; woken = [] } in x) e

    -- a call that has answered
    rests : (kept : Returned T) → parts' ≡ parts → IsStepOver parts (Finished kept) [] parts' (Finished kept) Nothing None
    rests kept e blocks q f left right range fits =
        record {
          queue = q;
          phase_now = f;
          one_place = inr (inl (Sends, parts.wait_lists.sends, e));
          fits = still_fits blocks q (left ++ right) (ap (λ (p : Parts T W). p.cells) e) fits;
          ends = λ free. tt;
          moves = (no_effect q e, refl, refl);
        }

    module _ (work : ListStep T W) (turn : NextStep T W) (m : Mark) (next : Stage (QueueCall T) T W) (r : Option (Reply T)) where
      -- whatever it changed in the wait_lists, a step beside the queue's cells takes its turn
      beside : (names : List W) (m0 : Mark) → parts'.cells ≡ parts.cells → OnePlace parts parts' → Marked m0 turn m next r
          → ((q : Queue T) (s : Stage (Phase T) T W) → Turned turn r s → Worked (channel q parts) work (record { channel = channel q parts'; mark = m0; woken = names }) r s)
          → IsStepOver parts (Working work) names parts' next m r
      beside names m0 same one (e, takes) ok =
          subst (λ (x : Mark). IsStepOver parts (Working work) names parts' next x r) (sym e)
          (λ blocks q f left right range fits.
          let t = entered (chain_after blocks parts.cells parts'.cells) parts'.cells q f left right (still_fits blocks q (left ++ right) same fits) turn r next (taken_of turn next r takes) in
          record { queue = q; phase_now = t.phase_now; one_place = one; fits = t.fits; ends = λ free. tt; moves = ok q (phase t.phase_now next) t.turned })

      -- what follows from the effect of such a step
      abbrev Follows : (Channel T W → Effect T W) → Type 0
      Follows effect = (q : Queue T) (e : Effect T W) (s : Stage (Phase T) T W) → e ≡ effect (channel q parts) → Turned turn r s → Worked (channel q parts) work e r s

      module _ {S : Type 0} (wakes : S → W → S → Type 0) (a b : S) where
        -- one section on a list
        on_list : (line : WaitList) (l : Listeners W) (names names' : List W) → (names ≡ names') × OnList line l parts parts' → Woken wakes a names b → Marked Nothing turn m next r
            → Follows (on_line line l names') → IsChannelStep wakes parts (Working work) a parts' next m r b
        on_list line l names names' (how, e) woken marked ok = (
          names',
          subst (λ (ns : List W). Woken wakes a ns b) how woken,
          beside names' Nothing (ap (λ (p : Parts T W). p.cells) e) (inr (inl (line, l, e))) marked
              (λ q s turned. ok q _ s (ap (λ (p : Parts T W). let x : Effect T W = record { channel = channel q p; mark = Nothing; woken = names' } in x) e) turned),
        )

        -- one operation on a count
        on_number : (side : Side) (n : ℕ) (m0 : Mark) → parts' ≡ with_wait_lists (with_count side n parts.wait_lists) parts → b ≡ a → Marked m0 turn m next r
            → Follows (on_count side n m0) → IsChannelStep wakes parts (Working work) a parts' next m r b
        on_number side n m0 e silent marked ok = (
          [],
          silent,
          beside [] m0 (ap (λ (p : Parts T W). p.cells) e) (inr (inr (side, n, e))) marked
              (λ q s turned. ok q _ s (ap (λ (p : Parts T W). let x : Effect T W = record { channel = channel q p; mark = m0; woken = [] } in x) e) turned),
        )

        -- a step that changes nothing
        on_nothing : parts' ≡ parts → b ≡ a → Marked Nothing turn m next r → Follows (λ c. untouched c) → IsChannelStep wakes parts (Working work) a parts' next m r b
        on_nothing e silent marked ok = (
          [],
          silent,
          beside [] Nothing (ap (λ (p : Parts T W). p.cells) e) (inr (inl (Sends, parts.wait_lists.sends, e))) marked (λ q s turned. ok q _ s (no_effect q e) turned),
        )

module _ {T W S : Type 0} (wakes : S → W → S → Type 0) (p p' : Parts T W) (a b : S) where
  abbrev did : Deed T W → Parts T W × S → Parts T W × S → Type 0
  did = Done Does wakes

  room_so : (n : ℕ) (turn : NextStep T W) (r : Option (Reply T)) (s : Stage (Phase T) T W) → TakesRoom n turn → Turned turn r s → TakesRoomFor n r s
  room_so n turn r s (inl e) h = inl (subst (λ (x : NextStep T W). Turned x r s) e h)
  room_so n turn r s (inr (some, e)) h = inr (some, subst (λ (x : NextStep T W). Turned x r s) e h)

  module _ (m : Mark) (next : Stage (QueueCall T) T W) (r : Option (Reply T)) where
    registers_so : (w : Waiting T) (key : Key) (task : W) (k : Bool) → waits key (listeners (line_of w) p.wait_lists) ≡ k → OnList (line_of w) (registration key task (listeners (line_of w) p.wait_lists)) p p' → b ≡ a
        → Marked Nothing (if k then pends_by w key else again w None task) m next r → IsChannelStep wakes p (Working (Register w key task)) a p' next m r b
    registers_so w key task k answer lists silent marked =
        let turn : Bool → NextStep T W = λ x. if x then pends_by w key else again w None task in
        on_list p p' (Register w key task) (turn (waits key (listeners (line_of w) p.wait_lists))) m next r wakes a b (line_of w) _ [] [] (refl, lists) silent
        (subst (λ (x : Bool). Marked Nothing (turn x) m next r) (sym answer) marked) (λ q e s effect turned. (effect, turned))

    left : (e : Ending T) (held : Option ListenerRef) → e.held ≡ held → Leaves did held (p, a) (p', b) → Marked Nothing (Ends e.reply (leaving None e.message)) m next r → IsChannelStep wakes p (Working (Leave e)) a p' next m r b
    left e None is h marked =
        on_nothing p p' (Leave e) (Ends e.reply (leaving None e.message)) m next r wakes a b (ap (λ (x : Parts T W × S). x.0) h) (ap (λ (x : Parts T W × S). x.1) h) marked
        (λ q x s effect turned. (effect ∙ ap (λ (o : Option ListenerRef). leaves o (channel q p)) (sym is), turned))
    left e (Some held) is (names, (deed, woken)) marked =
        on_list p p' (Leave e) (Ends e.reply (leaving None e.message)) m next r wakes a b held.line (removed held.key true (listeners held.line p.wait_lists)) names (removed_wakes held.key true (listeners held.line p.wait_lists)) deed woken marked
        (λ q x s effect turned. (effect ∙ ap (λ (o : Option ListenerRef). leaves o (channel q p)) (sym is), turned))

    raised_so : (side : Side) (n : ℕ) (making : Making) (k : Bool) → k ≡ is_raised side n p.wait_lists → (q : Queue T) (e : Effect T W) (s : Stage (Phase T) T W)
        → e ≡ (if k then on_count side (n + 1) (up side) (channel q p) else untouched (channel q p)) → Turned (raised_next side making k) r s → Worked (channel q p) (Raise side n making) e r s
    raised_so side n making k is q e s effect turned = (
      effect ∙ ap (λ (x : Bool). if x then on_count side (n + 1) (up side) (channel q p) else untouched (channel q p)) is,
      subst (λ (x : Bool). Turned (raised_next side making x) r s) is turned,
    )

    worked : (w : ListStep T W) → WorkMakes did w (p, a) (p', b) m next r → IsChannelStep wakes p (Working w) a p' next m r b
    worked (TellReceive e) (names, (deed, woken), marked) =
        on_list p p' (TellReceive e) (Works (TellStreams e)) m next r wakes a b Receives (told_one p.wait_lists.receives) names (told_one_wakes p.wait_lists.receives) deed woken marked (λ q x s effect turned. (effect, turned))
    worked (TellStreams e) (names, (deed, woken), marked) =
        on_list p p' (TellStreams e) (ends_by e) m next r wakes a b Streams (told_all p.wait_lists.streams) names (told_all_wakes p.wait_lists.streams) deed woken marked (λ q x s effect turned. (effect, turned))
    worked (TellSend e) (names, (deed, woken), marked) =
        on_list p p' (TellSend e) (ends_by e) m next r wakes a b Sends (told_one p.wait_lists.sends) names (told_one_wakes p.wait_lists.sends) deed woken marked (λ q x s effect turned. (effect, turned))
    worked (TellSends n e) (names, (deed, woken), marked) =
        on_list p p' (TellSends n e) (ends_by e) m next r wakes a b Sends (told_more n p.wait_lists.sends) names (told_more_wakes n p.wait_lists.sends) deed woken marked (λ q x s effect turned. (effect, turned))
    worked (TakeRoom n) (turn, same, room, marked) =
        on_nothing p p' (TakeRoom n) turn m next r wakes a b (ap (λ (x : Parts T W × S). x.0) same) (ap (λ (x : Parts T W × S). x.1) same) marked
        (λ q x s effect turned. (effect, room_so n turn r s room turned))
    worked (TellAll line c) (names, (deed, woken), marked) =
        on_list p p' (TellAll line c) (told_all_next line c) m next r wakes a b line (told_all (listeners line p.wait_lists)) names (told_all_wakes (listeners line p.wait_lists)) deed woken marked (λ q x s effect turned. (effect, turned))
    worked (Insert w task) (Ok key, ((unlisted, lists), woken), marked) =
        on_list p p' (Insert w task) (again w (Some key) task) m next r wakes a b (line_of w) (listened key (listeners (line_of w) p.wait_lists)) [] [] (refl, lists) woken marked
        (λ q x s effect turned. inl (key, unlisted, effect, turned))
    worked (Insert w task) (Err error, (same, woken), marked) =
        on_nothing p p' (Insert w task) (unlistened w error) m next r wakes a b same woken marked (λ q x s effect turned. inr (error, effect, turned))
    worked (Register w key task) (Some back, (((is, answer), lists), woken), marked) =
        registers_so w key task false answer lists woken (subst (λ (x : W). Marked Nothing (again w None x) m next r) is marked)
    worked (Register w key task) (None, ((answer, lists), woken), marked) = registers_so w key task true answer lists woken marked
    worked (Leave e) (h, marked) = left e e.held refl h marked
    worked (Lower side key) (n, ((is, lists), woken), marked) =
        let k = count side p.wait_lists in
        let now : (p' ≡ with_wait_lists (with_count side (k - 1) p.wait_lists) p) × Marked (down side) (lowered_next side key k) m next r =
        subst (λ (i : ℕ). (p' ≡ with_wait_lists (with_count side (i - 1) p.wait_lists) p) × Marked (down side) (lowered_next side key i) m next r) is (lists, marked)
        in
        on_number p p' (Lower side key) (lowered_next side key k) m next r wakes a b side (k - 1) (down side) now.0 woken now.1 (λ q x s effect turned. (effect, turned))
    worked (Count side) (n, ((is, same), woken), marked) =
        let turn : ℕ → NextStep T W = λ i. Ends (reply.Count i) nothing_kept in
        on_nothing p p' (Count side) (turn (count side p.wait_lists)) m next r wakes a b same woken (subst (λ (i : ℕ). Marked Nothing (turn i) m next r) is marked) (λ q x s effect turned. (effect, turned))
    worked (Load side making) (n, ((is, same), woken), marked) =
        on_nothing p p' (Load side making) (loaded_next side making (count side p.wait_lists)) m next r wakes a b same woken
        (subst (λ (i : ℕ). Marked Nothing (loaded_next side making i) m next r) is marked) (λ q x s effect turned. (effect, turned))
    worked (Raise side n making) (true, ((is, lists), woken), marked) =
        on_number p p' (Raise side n making) (raised_next side making true) m next r wakes a b side (n + 1) (up side) lists woken marked (raised_so side n making true is)
    worked (Raise side n making) (false, ((is, same), woken), marked) =
        on_nothing p p' (Raise side n making) (raised_next side making false) m next r wakes a b same woken marked (raised_so side n making false is)

    pub made : (at : Stage (QueueCall T) T W) → ChannelMakes did at (p, a) (p', b) m next r → IsChannelStep wakes p at a p' next m r b
    made (Trying call purpose) (after, o, ((step, wait_lists), silent), e, h) = ([], silent, heard p p' call after purpose o m next r step wait_lists e h)
    made (Working w) h = worked w h
    made (Finished kept) (same, m0, e, none) = (
      [],
      ap (λ (x : Parts T W × S). x.1) same,
      at_next p p' (Finished kept) next (Finished kept) m Nothing r None e m0 none (rests p p' kept (ap (λ (x : Parts T W × S). x.0) same)),
    )
