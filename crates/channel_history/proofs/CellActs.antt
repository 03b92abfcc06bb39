-- Sections on a list and operations on a count, by the view of the seat of their call.
use Rattle.std.proofs.Common.{◌≡◌, inl, inr, ⊎_elim, List, [], ◌∷◌, ◌++◌, refl, sym, ap, ◌∙◌, subst, append-nil}
use Rattle.std.specs.Prelude.{Option, None, Some}
use Rattle.concurrent_queue.specs.declared.cells.QueueForm.{QueueForm}
use Rattle.concurrent_queue.specs.declared.queue_call.QueueCall.{QueueCall}
use Rattle.event_listener.specs.Lists.{ListView}
use Rattle.channel_calls.specs.Deeds.{Deed, stepped as queue_stepped}
use Rattle.channel_calls.specs.Stands.{NotesDeed}
use Rattle.channel_calls.specs.Walks.{Leaves as LeavesOff, WorkMakes, ChannelMakes}
use Rattle.channel_calls.specs.declared.mark.Mark.{Mark}
use Rattle.channel_calls.specs.declared.reply.Reply.{Reply}
use Rattle.channel_calls.specs.declared.stage.ListenerRef.{ListenerRef}
use Rattle.channel_calls.specs.declared.stage.ListStep.{ListStep}
use Rattle.channel_calls.specs.declared.stage.ListStep.TheVariants.{TellReceive, TellStreams, TellSend, TellSends, TakeRoom, TellAll, Insert, Register, Leave, Lower, Count, Load, Raise}
use Rattle.channel_calls.specs.declared.stage.Side.{Side}
use Rattle.channel_calls.specs.declared.stage.Stage.{Stage}
use Rattle.channel_calls.specs.declared.stage.Stage.TheVariants.{Trying, Working, Finished}
use Rattle.channel_calls.specs.declared.stage.WaitList.{WaitList}
use Rattle.channel_steps.specs.every_run.Bridge.{on_wait_lists, on_nothing, Notes}
use Rattle.channel_history.specs.Cells.{StandsAt, Stands, May, Completes, own_after, Did}
use Rattle.channel_history.specs.InHand.{in_hand, in_hand_after, handles_at, handles_after, CallsHoldTheirOwn}
use Rattle.channel_history.specs.Keeps.{LeavesHandles, LeavesListeners, Leaves}
use Rattle.channel_history.specs.Party.{both, with_own}
use Rattle.channel_history.specs.Party as party
use Rattle.channel_history.specs.Sections.{just_list, holding, IsOnList, IsOnCount, CountOperation, SectionsAct}
use Rattle.channel_history.specs.Steps.{stepped}
use Rattle.channel_history.specs.declared.party.Belongings.{Belongings}
use Rattle.channel_history.specs.declared.party.Standing.{Standing}
use Rattle.channel_history.proofs.Acting.{comes, acts_on, makes_with, same_hand}
use Rattle.channel_history.proofs.InHand.{calls_hold_their_own}
use Rattle.channel_history.proofs.Stages.{Makes, shown_work}

module _ {T W : Type 0} where
  -- ---- a deed on a list or a count

  abbrev IsNoStep : Deed T W → Type 0
  IsNoStep (queue_stepped call after o) = ⊥
  IsNoStep d = Unit {0}

  on_list : (line : WaitList) (d : Deed T W) → IsOnList line d → IsNoStep d
  on_list line (queue_stepped call after o) on = on
  on_list line d on = tt

  on_count : (d : Deed T W) → IsOnCount d → IsNoStep d
  on_count (queue_stepped call after o) on = on
  on_count d on = tt

  same_deed : (d e : Deed T W) → Some d ≡ Some e → d ≡ e
  same_deed d e h = cc

  -- with these lists at hand
  abbrev with_lists : List (WaitList × ListView Unit W) → Standing T W → Standing T W
  with_lists lists s = with_own (record { lists = lists; handles = s.own.handles; listeners = s.own.listeners }) s

  module _ (form : QueueForm) where
    completes : (d : Deed T W) → IsNoStep d → Completes form d
    completes (queue_stepped call after o) plain = absurd plain
    completes d plain = tt

    goes : (d : Deed T W) (s : Standing T W) → IsNoStep d → May form d s → (t : Standing T W) × Did form d s t
    goes d s plain (at, next, stands, (m, r, makes)) =
        (with_own (own_after at next r) (stepped s next r), record { at = at; next = next; mark = m; answer = r; stands = stands; makes = makes; completes = completes d plain; left = refl })

    -- ---- as an act of its party

    abbrev Acted : ListStep T W → Deed T W → Mark → Stage (QueueCall T) T W → Option (Reply T) → Type 0
    Acted w d m next r = WorkMakes (Notes form) w on_nothing (on_wait_lists d) m next r

    same_act : (d e : Deed T W) → Some d ≡ Some e → on_wait_lists d ≡ on_wait_lists e
    same_act d e h = ap (λ (z : Deed T W). on_wait_lists z) (same_deed d e h)

    work_acts : (w : ListStep T W) (d : Deed T W) (m : Mark) (next : Stage (QueueCall T) T W) (r : Option (Reply T)) → WorkMakes NotesDeed w None (Some d) m next r → Acted w d m next r
    work_acts (TellReceive e) d m next r (names, h, k) = (names, same_act d _ h, k)
    work_acts (TellStreams e) d m next r (names, h, k) = (names, same_act d _ h, k)
    work_acts (TellSend e) d m next r (names, h, k) = (names, same_act d _ h, k)
    work_acts (TellSends n e) d m next r (names, h, k) = (names, same_act d _ h, k)
    work_acts (TakeRoom n) d m next r (turn, h, room, k) = absurd cc
    work_acts (TellAll line c) d m next r (names, h, k) = (names, same_act d _ h, k)
    work_acts (Insert w task) d m next r (x, h, k) = (x, same_act d _ h, k)
    work_acts (Register w key task) d m next r (x, h, k) = (x, same_act d _ h, k)
    work_acts (Leave e) d m next r (h, k) = (by e.held h, k) where
      by : (held : Option ListenerRef) → LeavesOff (NotesDeed {T = T} {W = W}) held None (Some d) → LeavesOff (Notes form) held on_nothing (on_wait_lists d)
      by None h = absurd cc
      by (Some held) (names, h) = (names, same_act d _ h)
    work_acts (Lower side key) d m next r (n, h, k) = (n, same_act d _ h, k)
    work_acts (Count side) d m next r (n, h, k) = (n, same_act d _ h, k)
    work_acts (Load side making) d m next r (n, h, k) = (n, same_act d _ h, k)
    work_acts (Raise side n making) d m next r (b, h, k) = (b, same_act d _ h, k)

    abbrev ActsSo : Standing T W → Stage (QueueCall T) T W → Deed T W → Stage (QueueCall T) T W → Option (Reply T) → Type 0
    ActsSo s at d next r =
        party.Makes form s (on_wait_lists d) (stepped s next r) × LeavesHandles d s.own.handles (handles_after at next r) × LeavesListeners d s.own.listeners (in_hand_after next r)

    acts : (s : Standing T W) (at next : Stage (QueueCall T) T W) (d : Deed T W) (m : Mark) (r : Option (Reply T)) → IsNoStep d → Stands form at s → Makes at (Some d) m next r → ActsSo s at d next r
    acts s (Trying call p) next d m r plain stands (after, o, e, i, h) = absurd (subst (λ (z : Deed T W). IsNoStep z) (same_deed d _ e) plain)
    acts s (Finished kept) next d m r plain stands (e, i, j, k) = absurd cc
    acts s (Working w) next d m r plain stands h =
        let hold : CallsHoldTheirOwn T W = calls_hold_their_own T W in
        let made : ChannelMakes (Notes form) (Working w) on_nothing (on_wait_lists d) m next r = work_acts w d m next r h in
        let left = hold.steps form (Working w) (on_wait_lists d) m next r made in
        let there = comes form s (Working w) next d stands.1 (m, r, h) in (
          acts_on form s there.0 next (on_wait_lists d) m r there.2
              (subst (λ (z : Stage (QueueCall T) T W). ChannelMakes (Notes form) z on_nothing (on_wait_lists d) m next r) (sym (shown_work there.0 w there.1)) made),
          subst (λ (z : List Side). LeavesHandles d z (handles_after (Working w) next r)) (sym (has stands.1).1) left.1,
          subst (λ (z : List ListenerRef). LeavesListeners d z (in_hand_after next r)) (sym (has stands.1).0) (⊎_elim (λ l. l) (λ lost. absurd lost) left.0),
        )
      where
        has : StandsAt s (Working w) → (s.own.listeners ≡ in_hand (Working w)) × (s.own.handles ≡ handles_at (Working w))
        has (inl (kept, e)) = absurd cc
        has (inr (v, e, k)) =
            let hand = same_hand s (Working w) next d v (inr (v, e, k)) (m, r, h) e in
            let owns = stands.2 in
            let own = owns.1 v e in
            (own.0 ∙ hand.0, own.1 ∙ hand.1)

    did_acts : (d : Deed T W) (s t : Standing T W) (before after : List (WaitList × ListView Unit W)) → IsNoStep d → Did form d s t
        → party.Makes form (with_lists before s) (on_wait_lists d) (with_lists after t) × Leaves d (with_lists before s) (with_lists after t)
    did_acts d s t before after plain h =
        let by = acts s h.at h.next d h.mark h.answer plain h.stands h.makes in
        subst (λ (z : Standing T W). party.Makes form (with_lists before s) (on_wait_lists d) (with_lists after z) × Leaves d (with_lists before s) (with_lists after z)) (sym h.left)
        (makes_with form s (stepped s h.next h.answer) (on_wait_lists d) _ _ by.0, (by.1, by.2))

    no_lists : (d : Deed T W) (s t : Standing T W) → Did form d s t → t.own.lists ≡ []
    no_lists d s t h = ap (λ (z : Standing T W). z.own.lists) h.left

    count_acts : (d : Deed T W) (s t : Standing T W) → CountOperation form d s t → party.Makes form s (on_wait_lists d) t × (t.own.lists ≡ s.own.lists) × Leaves d s t
    count_acts d s t (on, h) =
        let by = did_acts d s t s.own.lists t.own.lists (on_count d on) h in
        let owns = (h.stands).2 in
        (by.0, no_lists d s t h ∙ sym owns.0, by.1)

  taken_in : (line : WaitList) (l : ListView Unit W) (s : Standing T W) → s.own.lists ≡ [] → with_own (both s.own (just_list line l)) s ≡ holding line l s
  taken_in line l s none =
      let own : Belongings W = s.own in
      ap (λ (z : List (WaitList × ListView Unit W)). with_own (record { lists = z ++ (line, l) ∷ []; handles = own.handles ++ []; listeners = own.listeners ++ [] }) s) none
      ∙ (ap (λ (z : List Side). with_own (record { lists = (line, l) ∷ []; handles = z; listeners = own.listeners ++ [] }) s) (append-nil own.handles)
      ∙ ap (λ (z : List ListenerRef). with_own (record { lists = (line, l) ∷ []; handles = own.handles; listeners = z }) s) (append-nil own.listeners))

pub sections_act : (T W : Type 0) → SectionsAct T W
sections_act T W = record {
  section_goes = λ form line d s on may. let h = goes form d s (on_list line d on) may in (h.0, (on, h.1));
  section_acts = λ form line l k d s t h. did_acts form d s t ((line, l) ∷ []) ((line, k) ∷ []) (on_list line d h.0) h.1;
  count_goes = λ form d s on may. let h = goes form d s (on_count d on) may in (h.0, (on, h.1));
  count_acts = λ form d s t h. count_acts form d s t h;
  taken_in = λ line l s none. taken_in line l s none;
  put_back = λ form line k d s t h. (ap (λ (z : Standing T W). z.own) (sym (taken_in line k t (no_lists form d s t h.1))), refl);
}
