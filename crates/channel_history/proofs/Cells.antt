-- Cells that go by the view of a seat keep what `ChannelCells` asks.
use Rattle.std.proofs.Common.{◌≡◌, inl, inr, ⊎_elim, refl, sym, ap, ◌∙◌, subst}
use Rattle.std.specs.Prelude.{Option, None, Some}
use Rattle.concurrent_queue.specs.declared.call.QueueReply.{QueueReply}
use Rattle.concurrent_queue.specs.declared.cells.QueueForm.{QueueForm}
use Rattle.concurrent_queue.specs.declared.queue_call.QueueCall.{QueueCall}
use Rattle.channel_calls.specs.Answered.{answered_next}
use Rattle.channel_calls.specs.Deeds.{Deed, stepped as queue_stepped}
use Rattle.channel_calls.specs.Stands.{NoDeed, MayGoOn, GoesOn, StaysOn}
use Rattle.channel_calls.specs.Tracked.{unmarked}
use Rattle.channel_calls.specs.Walks.{Heard}
use Rattle.channel_calls.specs.declared.mark.Mark.{Mark}
use Rattle.channel_calls.specs.declared.reply.Reply.{Reply}
use Rattle.channel_calls.specs.declared.stage.ListStep.{ListStep}
use Rattle.channel_calls.specs.declared.stage.ListStep.TheVariants.{Raise}
use Rattle.channel_calls.specs.declared.stage.Stage.{Stage}
use Rattle.channel_calls.specs.declared.stage.Stage.TheVariants.{Trying, Working, Finished}
use Rattle.channel_history.specs.Cells.{HasEnded, StandsAt, Owns, Sound, Stands, May, Completes, own_after, Did, ViewsKeepWhatCellsAsk}
use Rattle.channel_history.specs.InHand.{in_hand, handles_at, handles_after}
use Rattle.channel_history.specs.Party.{with_own}
use Rattle.channel_history.specs.Steps.{stepped}
use Rattle.channel_history.specs.WholeCalls.{wanted}
use Rattle.channel_history.specs.declared.party.Standing.{Standing}
use Rattle.channel_history.proofs.Stages.{Makes, same_step, rested, in_room_acts, ended_rests, shown_work, one_stage, answered_end}
use Rattle.channel_history.proofs.Turns.{sound_taken, answered_on, WorkTurns, work_turns}

module _ {T W : Type 0} (form : QueueForm) where
  -- ---- what a step leaves is sound

  sound_work : (w : ListStep T W) (next : Stage (QueueCall T) T W) (r : Option (Reply T)) → WorkTurns T W form w next r → Sound form next
  sound_work w next r (inl (turn, on, takes)) = sound_taken T W form (wanted (Working w)) turn next r on takes
  sound_work w next r (inr (side, n, making, same, made, is)) = subst (λ (z : Stage (QueueCall T) T W). Sound form z) (sym is) tt

  sound_rest : (at next : Stage (QueueCall T) T W) → NoDeed at next → Sound form next
  sound_rest (Trying call p) next (m, r, (after, o, e, i, k)) = absurd cc
  sound_rest (Working w) next (m, r, h) = sound_work w next r (work_turns T W form w None m next r h)
  sound_rest (Finished kept) next (m, r, (e, i, is, k)) = subst (λ (z : Stage (QueueCall T) T W). Sound form z) (sym is) tt

  sound_step : (at next : Stage (QueueCall T) T W) (d : Deed T W) (m : Mark) (r : Option (Reply T)) → Completes form d → Makes at (Some d) m next r → Sound form next
  sound_step (Trying call p) next d m r completes (after, o, e, i, heard) =
      let same : d ≡ queue_stepped call after o = cc in
      let whole : Completes {W = W} form (queue_stepped call after o) = subst (λ (z : Deed T W). Completes form z) same completes in
      sound_taken T W form (wanted (Trying call p)) (answered_next p whole.0) next r (answered_on T W form p whole.0) (subst (λ (z : Option (QueueReply T)). Heard p after z next r) whole.1 heard)
  sound_step (Working w) next d m r completes h = sound_work w next r (work_turns T W form w (Some d) m next r h)
  sound_step (Finished kept) next d m r completes (e, i, j, k) = absurd cc

  -- ---- what lies with the seat after a step

  handles_none : (at next : Stage (QueueCall T) T W) → handles_after at next None ≡ handles_at next
  handles_none (Trying call p) next = refl
  handles_none (Working (Raise side n making)) next = refl
  handles_none (Working w) next = refl
  handles_none (Finished kept) next = refl

  pub owns_after : (s : Standing T W) (at next : Stage (QueueCall T) T W) (answer : Option (Reply T)) → Owns (with_own (own_after at next answer) (stepped s next answer))
  owns_after s at next None = (refl, λ shown e. let same : shown ≡ next = cc in (ap (λ (z : Stage (QueueCall T) T W). in_hand z) (sym same), handles_none at next ∙ ap (λ (z : Stage (QueueCall T) T W). handles_at z) (sym same)))
  owns_after s at next (Some r) = (refl, λ shown e. absurd cc)

  -- ---- the laws

  go : MayGoOn {T = T} {W = W} (Stands form) (May form)
  go at next s d stands does = (at, next, stands, does)

  led_to : (s : Standing T W) (at next to : Stage (QueueCall T) T W) (o : Option (Reply T)) → unmarked to ≡ unmarked next → ((x : Reply T) → o ≡ Some x → HasEnded next)
      → StandsAt (with_own (own_after at to o) (stepped s to o)) next
  led_to s at next to None e ends = inr (to, refl, inl (sym e))
  led_to s at next to (Some x) e ends = inl (ends x refl)

  leads_on : GoesOn {T = T} {W = W} (Stands form) (Did form)
  leads_on at next s t d stands did (m, r, makes) =
      let one = one_stage s at did.at next did.next d d stands.1 (did.stands).1 (m, r, makes) (did.mark, did.answer, did.makes) in
      let same = same_step at did.at d m did.mark next did.next r did.answer one makes did.makes in
      subst (λ (z : Standing T W). Stands form next z) (sym did.left) (
        stands.0,
        led_to s did.at next did.next did.answer same.0 (λ x e. answered_end at (Some d) m next x (subst (λ (z : Option (Reply T)). Makes at (Some d) m next z) (sym same.1 ∙ e) makes)),
        owns_after s did.at did.next did.answer,
        sound_step at next d m r did.completes makes,
      )

  rests_at : (s : Standing T W) (at next : Stage (QueueCall T) T W) → StandsAt s at → NoDeed at next → StandsAt s next
  rests_at s at next (inl ended) rest = inl (ended_rests at next rest ended)
  rests_at s at next (inr (v, is, inl e)) rest = by at e rest where
    by : (z : Stage (QueueCall T) T W) → unmarked z ≡ unmarked v → NoDeed z next → StandsAt s next
    by (Trying call p) e (m, r, (after, o, n, i, k)) = absurd cc
    by (Working w) e rest = inr (v, is, inr (subst (λ (z : Stage (QueueCall T) T W). NoDeed z next) (sym (shown_work v w e)) rest))
    by (Finished kept) e rest = inl (ended_rests (Finished kept) next rest (kept, refl))
  rests_at s at next (inr (v, is, inr before)) rest = ⊎_elim (λ room. absurd (in_room_acts room.0 at next room.2 rest)) (λ ended. inl (ended_rests at next rest ended)) (rested v at before)

  rests_on : StaysOn {T = T} {W = W} (Stands form)
  rests_on at next s stands rest = (stands.0, rests_at s at next stands.1 rest, stands.2, sound_rest at next rest)

pub views_keep_what_cells_ask : (T W : Type 0) → ViewsKeepWhatCellsAsk T W
views_keep_what_cells_ask T W form = (go form, leads_on form, rests_on form)

-- ---- of cells with such a view

module _ {T W C : Type 0} (form_of : C → QueueForm) (of : C → Standing T W) where
  abbrev pub CellsStand : Stage (QueueCall T) T W → C → Type 0
  CellsStand at c = Stands (form_of c) at (of c)

  abbrev pub CellsMay : Deed T W → C → Type 0
  CellsMay d c = May (form_of c) d (of c)

  pub ready : MayGoOn CellsStand CellsMay
  ready at next c d stands does = (at, next, stands, does)

  pub rests : StaysOn CellsStand
  rests at next c stands rest = rests_on (form_of c) at next (of c) stands rest

  module _ (Same : C → C → Type 0) where
    abbrev pub CellsDid : Deed T W → C → C → Type 0
    CellsDid d a b = Did (form_of a) d (of a) (of b) × (form_of b ≡ form_of a) × Same a b

    pub leads : GoesOn CellsStand CellsDid
    leads at next a b d stands did does = subst (λ (f : QueueForm). Stands f next (of b)) (sym did.1) (leads_on (form_of a) at next (of a) (of b) d stands did.0 does)
