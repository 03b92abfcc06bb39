-- A call from its beginning to its end, by the view of its seat.
use Rattle.std.proofs.Common.{◌≡◌, inl, inr, ⊎_elim, ℕ, zero, suc, List, [], ◌∷◌, ◌++◌, refl, sym, ap, ◌∙◌, subst}
use Rattle.std.specs.Prelude.{Option, None, Some}
use Rattle.concurrent_queue.specs.declared.call.QueueReply.{QueueReply}
use Rattle.concurrent_queue.specs.declared.cells.QueueForm.{QueueForm}
use Rattle.concurrent_queue.specs.declared.queue_call.QueueCall.{QueueCall}
use Rattle.channel_calls.specs.Answered.{answered_next}
use Rattle.channel_calls.specs.Asks.{first, kept_by}
use Rattle.channel_calls.specs.Deeds.{Deed, Done}
use Rattle.channel_calls.specs.Stands.{NotesDeed}
use Rattle.channel_calls.specs.Tracked.{unmarked}
use Rattle.channel_calls.specs.Walks.{Takes, Heard, WorkMakes, ChannelMakes, Walked, WalkedFrom}
use Rattle.channel_calls.specs.Walks as walks
use Rattle.channel_calls.specs.declared.ask.ChannelAsk.{ChannelAsk}
use Rattle.channel_calls.specs.declared.mark.Mark.{Mark}
use Rattle.channel_calls.specs.declared.reply.Reply.{Reply}
use Rattle.channel_calls.specs.declared.reply.Reply.TheVariants as reply
use Rattle.channel_calls.specs.declared.stage.Ending.{Ending}
use Rattle.channel_calls.specs.declared.stage.ListenerRef.{ListenerRef}
use Rattle.channel_calls.specs.declared.stage.ListStep.{ListStep}
use Rattle.channel_calls.specs.declared.stage.ListStep.TheVariants.{TellReceive, TellStreams, TellSend, TellSends, TakeRoom, TellAll, Insert, Register, Leave, Lower, Count, Load, Raise}
use Rattle.channel_calls.specs.declared.stage.Purpose.{Purpose}
use Rattle.channel_calls.specs.declared.stage.Returned.{Returned}
use Rattle.channel_calls.specs.declared.stage.Side.{Side}
use Rattle.channel_calls.specs.declared.stage.Stage.{Stage}
use Rattle.channel_calls.specs.declared.stage.Stage.TheVariants.{Trying, Working, Finished}
use Rattle.channel_calls.specs.declared.whole.Completed.{Completed}
use Rattle.channel_steps.specs.every_run.Bridge.{on_nothing, Notes}
use Rattle.channel_history.specs.Cells.{HasEnded, StandsAt, own_after, Did, ViewsKeepWhatCellsAsk}
use Rattle.channel_history.specs.InHand.{in_hand, handles_at, handles_made, handles_after, kept_on, CallsHoldTheirOwn}
use Rattle.channel_history.specs.Party.{with_own}
use Rattle.channel_history.specs.Steps.{stepped, PartiesGoOn}
use Rattle.channel_history.specs.WholeCalls.{stage_of, MayAsk, asked_by, BeginsSo, handle_wanted, wanted, if_made, HasAnswered, HasAsked, CallsGoByTheirViews}
use Rattle.channel_history.specs.declared.party.Standing.{Standing}
use Rattle.channel_history.proofs.Cells.{views_keep_what_cells_ask, CellsDid}
use Rattle.channel_history.proofs.InHand.{calls_hold_their_own}
use Rattle.channel_history.proofs.Stages.{Makes, same_taken, same_step, step_noted, rested, in_room_acts, shown_work, one_stage, kept_alike}
use Rattle.channel_history.proofs.Steps.{parties_go_on}
use Rattle.channel_history.proofs.Turns.{WantsOn, sound_taken, wants_taken, takes_on, answered_on, first_on, WorkTurns, work_turns}

-- ---- the handles that a call makes

module _ {T W : Type 0} where
  -- a step leaves the call with the handles that it is to make, or has made them where it answers so
  abbrev Wants : Stage (QueueCall T) T W → Stage (QueueCall T) T W → Option (Reply T) → Type 0
  Wants at next None = wanted next ≡ wanted at
  Wants at next (Some r) = handles_after at next (Some r) ≡ if_made r (wanted at)

  raised_none : (side : Side) (next : Stage (QueueCall T) T W) (r : Reply T) → if_made r (side ∷ []) ≡ [] → handles_made side next (Some r) ≡ if_made r (side ∷ [])
  raised_none side next reply.Made e = refl
  raised_none side next r e = refl

  worked : (form : QueueForm) (w : ListStep T W) (next : Stage (QueueCall T) T W) (answer : Option (Reply T)) → WantsOn T W form (wanted (Working w)) next answer → Wants (Working w) next answer
  worked form w next None h = h
  worked form (Raise side n making) next (Some r) h = raised_none side next r h
  worked form w next (Some r) h = sym h

  work_wants : (form : QueueForm) (w : ListStep T W) (next : Stage (QueueCall T) T W) (answer : Option (Reply T)) → WorkTurns T W form w next answer → Wants (Working w) next answer
  work_wants form w next answer (inl (turn, on, takes)) = worked form w next answer (wants_taken T W form (wanted (Working w)) turn next answer on takes)
  work_wants form w next answer (inr (side, n, making, is, made, ended)) =
      subst (λ (z : Option (Reply T)). Wants (Working w) next z) (sym made) (subst (λ (z : ListStep T W). Wants (Working z) next (Some reply.Made)) (sym is) refl)

  heard_wants : (form : QueueForm) (p : Purpose T W) (call after : QueueCall T) (o : Option (QueueReply T)) (next : Stage (QueueCall T) T W) (answer : Option (Reply T)) → Heard p after o next answer → Wants (Trying call p) next answer
  heard_wants form p call after None next answer (is, none) =
      subst (λ (z : Option (Reply T)). Wants (Trying call p) next z) (sym none) (ap (λ (z : Stage (QueueCall T) T W). wanted z) is)
  heard_wants form p call after (Some x) next answer takes = by answer (wants_taken T W form (wanted (Trying call p)) (answered_next p x) next answer (answered_on T W form p x) takes) where
    by : (r : Option (Reply T)) → WantsOn T W form (wanted (Trying call p)) next r → Wants (Trying call p) next r
    by None h = h
    by (Some r) h = sym h

  wants_so : (form : QueueForm) (at : Stage (QueueCall T) T W) (o : Option (Deed T W)) (m : Mark) (next : Stage (QueueCall T) T W) (answer : Option (Reply T)) → Makes at o m next answer → Wants at next answer
  wants_so form (Trying call p) o m next answer (after, x, e, i, heard) = heard_wants form p call after x next answer heard
  wants_so form (Working w) o m next answer h = work_wants form w next answer (work_turns T W form w o m next answer h)
  wants_so form (Finished kept) o m next answer (e, i, is, none) =
      subst (λ (z : Option (Reply T)). Wants (Finished kept) next z) (sym none) (ap (λ (z : Stage (QueueCall T) T W). wanted z) is)

  wanted_alike : (at to : Stage (QueueCall T) T W) → unmarked at ≡ unmarked to → wanted to ≡ wanted at
  wanted_alike at to e = sym (bare to) ∙ (ap (λ (z : Stage (QueueCall T) T W). wanted z) (sym e) ∙ bare at) where
    bare : (z : Stage (QueueCall T) T W) → wanted (unmarked z) ≡ wanted z
    bare (Trying call p) = refl
    bare (Working w) = refl
    bare (Finished kept) = refl

-- ---- a step that does nothing, as an act of its party

module _ {T W : Type 0} (form : QueueForm) where
  idle_leave : (e : Ending T) (m : Mark) (next : Stage (QueueCall T) T W) (r : Option (Reply T)) → WorkMakes NotesDeed (Leave e) None None m next r → WorkMakes (Notes form) (Leave e) on_nothing on_nothing m next r
  idle_leave e m next r (h, k) = (by e.held h, k) where
    by : (held : Option ListenerRef) → walks.Leaves (NotesDeed {T = T} {W = W}) held None None → walks.Leaves (Notes {T = T} {W = W} form) held on_nothing on_nothing
    by None h = refl
    by (Some held) (names, h) = absurd cc

  idle_work : (w : ListStep T W) (m : Mark) (next : Stage (QueueCall T) T W) (r : Option (Reply T)) → WorkMakes NotesDeed w None None m next r → WorkMakes (Notes form) w on_nothing on_nothing m next r
  idle_work (TellReceive e) m next r (names, h, k) = absurd cc
  idle_work (TellStreams e) m next r (names, h, k) = absurd cc
  idle_work (TellSend e) m next r (names, h, k) = absurd cc
  idle_work (TellSends n e) m next r (names, h, k) = absurd cc
  idle_work (TakeRoom n) m next r (turn, same, room, k) = (turn, refl, room, k)
  idle_work (TellAll line c) m next r (names, h, k) = absurd cc
  idle_work (Insert w task) m next r (x, h, k) = absurd cc
  idle_work (Register w key task) m next r (x, h, k) = absurd cc
  idle_work (Leave e) m next r h = idle_leave e m next r h
  idle_work (Lower side key) m next r (n, h, k) = absurd cc
  idle_work (Count side) m next r (n, h, k) = absurd cc
  idle_work (Load side making) m next r (n, h, k) = absurd cc
  idle_work (Raise side n making) m next r (b, h, k) = absurd cc

  -- ---- the beginning

  begins_so : (s : Standing T W) (a : ChannelAsk T W) → MayAsk form s a → BeginsSo form s a
  begins_so s a may =
      let on : PartiesGoOn T W = parties_go_on T W in
      let hold : CallsHoldTheirOwn T W = calls_hold_their_own T W in
      let turns = first_on T W form a may.asks in
      let at : Stage (QueueCall T) T W = stage_of (first a) in
      let takes : Takes (first a) at None = takes_on T W form (first a) turns.1 in
      let own = hold.begins a at takes in
      record {
        takes = takes;
        begins = on.begins form s a at may.idle takes;
        stands = λ other turn. (
          may.bounded,
          inr (at, refl, inl (same_taken (first a) at other None None takes turn).0),
          (
            may.lists,
            λ shown e.
                let same : at ≡ shown = cc in
                ((may.listeners ∙ sym own.0) ∙ ap (λ (z : Stage (QueueCall T) T W). in_hand z) same, (may.handles ∙ sym own.1) ∙ ap (λ (z : Stage (QueueCall T) T W). handles_at z) same),
          ),
          sound_taken T W form (handle_wanted a) (first a) other None turns.0 turn,
        );
      }

  asks_so : (s : Standing T W) (a : ChannelAsk T W) (at : Stage (QueueCall T) T W) → MayAsk form s a → Takes (first a) at None → HasAsked form s a at (asked_by s a)
  asks_so s a at may takes =
      let b = begins_so s a may in
      record { stands = b.stands at takes; asked = refl; given = refl; wants = wants_taken T W form (handle_wanted a) (first a) at None (first_on T W form a may.asks).0 takes }

  -- ---- a step of a call under way

  module _ (s : Standing T W) (a : ChannelAsk T W) where
    abbrev Next : Stage (QueueCall T) T W → Option (Reply T) → Standing T W → Type 0
    Next next None now = HasAsked form s a next now
    Next next (Some r) now = HasAnswered form s a r (kept_by next) now

    -- ---- by a deed

    went : (at next : Stage (QueueCall T) T W) (d : Deed T W) (m : Mark) (v w : Standing T W) → HasAsked form s a at v → Did form d v w → Makes at (Some d) m next None → HasAsked form s a next w
    went at next d m v w h did makes =
        let views : ViewsKeepWhatCellsAsk T W = views_keep_what_cells_ask T W in
        let alike = same_step at did.at d m did.mark next did.next None did.answer (one_stage v at did.at next did.next d d (h.stands).1 (did.stands).1 (m, None, makes) (did.mark, did.answer, did.makes)) makes did.makes in
        let is : w ≡ with_own (own_after did.at did.next did.answer) (stepped v did.next None) = did.left ∙ ap (λ (z : Option (Reply T)). with_own (own_after did.at did.next did.answer) (stepped v did.next z)) alike.1 in
        record {
          stands = (views form).1 at next v w d h.stands did (m, None, makes);
          asked = ap (λ (z : Standing T W). z.asked) is ∙ h.asked;
          given = ap (λ (z : Standing T W). z.given) is ∙ h.given;
          wants = wants_so form at (Some d) m next None makes ∙ h.wants;
        }

    answers : (at next : Stage (QueueCall T) T W) (d : Deed T W) (m : Mark) (r : Reply T) (v w : Standing T W) → HasAsked form s a at v → Did form d v w → Makes at (Some d) m next (Some r) → HasAnswered form s a r (kept_by next) w
    answers at next d m r v w h did makes =
        let on : PartiesGoOn T W = parties_go_on T W in
        let one = one_stage v at did.at next did.next d d (h.stands).1 (did.stands).1 (m, Some r, makes) (did.mark, did.answer, did.makes) in
        let alike = same_step at did.at d m did.mark next did.next (Some r) did.answer one makes did.makes in
        let is : w ≡ with_own (own_after did.at did.next (Some r)) (stepped v did.next (Some r)) = did.left ∙ ap (λ (z : Option (Reply T)). with_own (own_after did.at did.next z) (stepped v did.next z)) alike.1 in
        let kept : kept_by did.next ≡ kept_by next = kept_alike next did.next alike.0 in
        let makes_so : Makes did.at (Some d) did.mark did.next (Some r) = subst (λ (z : Option (Reply T)). Makes did.at (Some d) did.mark did.next z) alike.1 did.makes in
        record {
          rests = w;
          ends = on.ended form w (ap (λ (z : Standing T W). z.stage) is);
          own = refl;
          asked = ap (λ (z : Standing T W). z.asked) is ∙ h.asked;
          given = ap (λ (z : Standing T W). z.given) is
              ∙ (ap (λ (z : List (Completed T)). z ++ record { reply = r; kept = kept_by did.next } ∷ []) h.given ∙ ap (λ (z : Returned T). s.given ++ record { reply = r; kept = z } ∷ []) kept);
          lists = ap (λ (z : Standing T W). z.own.lists) is;
          listeners = ap (λ (z : Standing T W). z.own.listeners) is ∙ ap (λ (z : Returned T). kept_on r z.key) kept;
          handles = ap (λ (z : Standing T W). z.own.handles) is ∙ wants_so form did.at (Some d) did.mark did.next (Some r) makes_so ∙ ap (λ (z : List Side). if_made r z) (wanted_alike at did.at one ∙ h.wants);
        }

    -- ---- by a step that does nothing

    rested_on : (at next : Stage (QueueCall T) T W) (m : Mark) (v : Standing T W) → HasAsked form s a at v → Makes at None m next None → HasAsked form s a next v
    rested_on at next m v h makes =
        let views : ViewsKeepWhatCellsAsk T W = views_keep_what_cells_ask T W in
        record { stands = (views form).2 at next v h.stands (m, None, makes); asked = h.asked; given = h.given; wants = wants_so form at None m next None makes ∙ h.wants }

    ended_silent : (at next : Stage (QueueCall T) T W) (m : Mark) (r : Reply T) → Makes at None m next (Some r) → HasEnded at → ⊥
    ended_silent (Trying call p) next m r h (kept, is) = cc
    ended_silent (Working w) next m r h (kept, is) = cc
    ended_silent (Finished left) next m r (e, i, j, k) ended = cc

    rest_answers : (w : ListStep T W) (next : Stage (QueueCall T) T W) (m : Mark) (r : Reply T) (v : Standing T W) → HasAsked form s a (Working w) v → v.stage ≡ Some (Working w) → WorkMakes NotesDeed w None None m next (Some r)
        → HasAnswered form s a r (kept_by next) v
    rest_answers w next m r v h is makes =
        let on : PartiesGoOn T W = parties_go_on T W in
        let hold : CallsHoldTheirOwn T W = calls_hold_their_own T W in
        let acts : ChannelMakes (Notes form) (Working w) on_nothing on_nothing m next (Some r) = idle_work w m next (Some r) makes in
        let left = hold.steps form (Working w) on_nothing m next (Some r) acts in
        let owns = (h.stands).2 in
        let has = owns.1 (Working w) is in
        let rests : Standing T W = stepped v next (Some r) in
        record {
          rests = rests;
          ends = on.ends form v rests rests on_nothing tt (Working w, m, next, Some r, is, acts, refl) (on.ended form rests refl);
          own = refl;
          asked = h.asked;
          given = ap (λ (z : List (Completed T)). z ++ record { reply = r; kept = kept_by next } ∷ []) h.given;
          lists = owns.0;
          listeners = has.0 ∙ sym (⊎_elim (λ e. e) (λ lost. absurd lost) left.0);
          handles = has.1 ∙ (sym left.1 ∙ (wants_so form (Working w) None m next (Some r) makes ∙ ap (λ (z : List Side). if_made r z) h.wants));
        }

    rest_ends : (at next : Stage (QueueCall T) T W) (m : Mark) (r : Reply T) (v : Standing T W) → HasAsked form s a at v → StandsAt v at → Makes at None m next (Some r) → HasAnswered form s a r (kept_by next) v
    rest_ends at next m r v w (inl ended) makes = absurd (ended_silent at next m r makes ended)
    rest_ends (Trying call p) next m r v w (inr (u, is, k)) (after, o, e, i, h) = absurd cc
    rest_ends (Finished kept) next m r v w (inr (u, is, k)) makes = absurd (ended_silent (Finished kept) next m r makes (kept, refl))
    rest_ends (Working x) next m r v w (inr (u, is, inl same)) makes = rest_answers x next m r v w (is ∙ ap (λ (z : Stage (QueueCall T) T W). Some z) (shown_work u x same)) makes
    rest_ends (Working x) next m r v w (inr (u, is, inr before)) makes = ⊎_elim
        (λ room. absurd (in_room_acts room.0 (Working x) next room.2 (m, Some r, makes)))
        (λ ended. absurd (ended_silent (Working x) next m r makes ended))
        (rested u (Working x) before)

    -- ---- over anything by whose view deeds are done, as long as this holds of it

    module _ {X : Type 0} (of : X → Standing T W) (Good : X → Type 0) (did : Deed T W → X → X → Type 0) (by_view : (d : Deed T W) (b c : X) → Good b → did d b c → Did form d (of b) (of c) × Good c) where
      step : (at next : Stage (QueueCall T) T W) (x y : X) (m : Mark) (r : Option (Reply T)) → Good x → HasAsked form s a at (of x) → ChannelMakes did at x y m next r → Next next r (of y) × Good y
      step at next x y m r good h makes = ⊎_elim
          (λ (p : (d : Deed T W) × did d x y × Makes at (Some d) m next r). let by = by_view p.0 x y good p.1 in (by_deed r p.0 by.0 p.2, by.1))
          (λ (p : (y ≡ x) × Makes at None m next r). subst (λ (z : X). Next next r (of z) × Good z) (sym p.0) (by_rest r p.1, good))
          (step_noted did at x y m next r makes)
        where
          by_deed : (o : Option (Reply T)) (d : Deed T W) → Did form d (of x) (of y) → Makes at (Some d) m next o → Next next o (of y)
          by_deed None d made k = went at next d m (of x) (of y) h made k
          by_deed (Some o) d made k = answers at next d m o (of x) (of y) h made k

          by_rest : (o : Option (Reply T)) → Makes at None m next o → Next next o (of x)
          by_rest None k = rested_on at next m (of x) h k
          by_rest (Some o) k = rest_ends at next m o (of x) h (h.stands).1 k

      -- A CALL THAT IS LED ON
      pub call_led : (n : ℕ) (x y : X) (at next : Stage (QueueCall T) T W) → Good x → HasAsked form s a at (of x) → walks.Leads did n x at y next → HasAsked form s a next (of y) × Good y
      call_led zero x y at next good h (same, stays) =
          subst (λ (z : X). HasAsked form s a next (of z) × Good z) (sym same) (subst (λ (z : Stage (QueueCall T) T W). HasAsked form s a z (of x)) (sym stays) h, good)
      call_led (suc n) x y at next good h (z, mid, m, makes, l) = let one = step at mid x z m None good h makes in call_led n z y mid next one.1 one.0 l

      -- A CALL THAT IS WALKED TO ITS ANSWER
      pub call_ends : (x y : X) (at : Stage (QueueCall T) T W) (r : Reply T) (kept : Returned T) → Good x → HasAsked form s a at (of x) → Walked did at x r kept y → HasAnswered form s a r kept (of y) × Good y
      call_ends x y at r kept good h (n, z, last, m, next, path, makes, is) =
          let before = call_led n x z at last good h path in
          subst (λ (k : Returned T). HasAnswered form s a r k (of y) × Good y) (sym is) (step last next z y m (Some r) before.1 before.0 makes)

pub calls_go_by_their_views : (T W X : Type 0) → CallsGoByTheirViews T W X
calls_go_by_their_views T W X = record {
  begins = λ form s a may. begins_so form s a may;
  asked = λ form s a at may takes. asks_so form s a at may takes;
  led = λ form of s a x y n at next h path. (call_led form s a of (λ z. Unit {0}) (λ d b c. Did form d (of b) (of c)) (λ d b c good did. (did, tt)) n x y at next tt h path).0;
  ends = λ form of s a x y at r kept h walked. (call_ends form s a of (λ z. Unit {0}) (λ d b c. Did form d (of b) (of c)) (λ d b c good did. (did, tt)) x y at r kept tt h walked).0;
}

-- ---- of cells with such a view, and of cells with a sink

module _ {T W C : Type 0} (form_of : C → QueueForm) (of : C → Standing T W) (Same : C → C → Type 0) (stays : (c : C) → Same c c) (joins : (c d e : C) → Same c d → Same d e → Same c e) where
  -- the cells are the same, by whatever is known of that, and of the same form
  abbrev pub AreStill : C → C → Type 0
  AreStill c d = (form_of d ≡ form_of c) × Same c d

  stills : (c : C) (d : Deed T W) (a b : C) → AreStill c a → CellsDid form_of of Same d a b → Did (form_of c) d (of a) (of b) × AreStill c b
  stills c d a b still did = (subst (λ (f : QueueForm). Did f d (of a) (of b)) still.0 did.0, (did.1 ∙ still.0, joins c a b still.1 did.2))

  -- a call that begins on cells, and is walked to its answer
  pub cells_end : (s : Standing T W) (a : ChannelAsk T W) (c e : C) (r : Reply T) (kept : Returned T) → MayAsk (form_of c) s a → of c ≡ asked_by s a → WalkedFrom (CellsDid form_of of Same) (first a) c r kept e
      → HasAnswered (form_of c) s a r kept (of e) × AreStill c e
  cells_end s a c e r kept may begun (at, takes, walked) =
      call_ends (form_of c) s a of (λ z. AreStill c z) (CellsDid form_of of Same) (λ d b z still did. stills c d b z still did) c e at r kept (refl, stays c)
      (subst (λ (z : Standing T W). HasAsked (form_of c) s a at z) (sym begun) (asks_so (form_of c) s a at may takes)) walked

  module _ {S : Type 0} (wakes : S → W → S → Type 0) where
    abbrev pub CellsDone : Deed T W → C × S → C × S → Type 0
    CellsDone d b e = Done (CellsDid form_of of Same) wakes d b e

    -- and one that wakes others on its way
    pub sinks_end : (s : Standing T W) (a : ChannelAsk T W) (c e : C × S) (r : Reply T) (kept : Returned T) → MayAsk (form_of c.0) s a → of c.0 ≡ asked_by s a → WalkedFrom CellsDone (first a) c r kept e
        → HasAnswered (form_of c.0) s a r kept (of e.0) × AreStill c.0 e.0
    sinks_end s a c e r kept may begun (at, takes, walked) =
        call_ends (form_of c.0) s a (λ z. of z.0) (λ z. AreStill c.0 z.0) CellsDone (λ d b z still done. stills c.0 d b.0 z.0 still done.0) c e at r kept (refl, stays c.0)
        (subst (λ (z : Standing T W). HasAsked (form_of c.0) s a at z) (sym begun) (asks_so (form_of c.0) s a at may takes)) walked
