-- A drop of a handle answers that it is over, and nothing else, over any cells and whatever their queue answers.
use Rattle.std.proofs.Common.{◌≡◌, ℕ, zero, suc, Bool, true, false, ◌==◌, if◌then◌else◌, refl, sym, subst}
use Rattle.std.specs.Prelude.{Option, None, Some}
use Rattle.concurrent_queue.specs.declared.call.QueueAsk.TheVariants as queue
use Rattle.concurrent_queue.specs.declared.call.QueueReply.{QueueReply}
use Rattle.concurrent_queue.specs.declared.call.QueueReply.TheVariants.{Close}
use Rattle.concurrent_queue.specs.declared.queue_call.QueueCall.{QueueCall}
use Rattle.event_listener.specs.declared.key.Key.{Key}
use Rattle.channel_calls.specs.Answered.{answered_next}
use Rattle.channel_calls.specs.Deeds.{Deed, Done}
use Rattle.channel_calls.specs.Turns.{closer_ending, dropper, ends_by, leaving, lowered_next, told_all_next}
use Rattle.channel_calls.specs.Walks.{Takes, WorkMakes, ChannelMakes, Leads, WalkedFrom, WalkedTo}
use Rattle.channel_calls.specs.declared.mark.Mark.{Mark}
use Rattle.channel_calls.specs.declared.reply.Reply.{Reply}
use Rattle.channel_calls.specs.declared.reply.Reply.TheVariants as reply
use Rattle.channel_calls.specs.declared.stage.Closer.{Closer}
use Rattle.channel_calls.specs.declared.stage.Closer.TheVariants as closer
use Rattle.channel_calls.specs.declared.stage.Ending.{Ending}
use Rattle.channel_calls.specs.declared.stage.ListenerRef.{ListenerRef}
use Rattle.channel_calls.specs.declared.stage.ListStep.{ListStep}
use Rattle.channel_calls.specs.declared.stage.ListStep.TheVariants as work
use Rattle.channel_calls.specs.declared.stage.NextStep.{NextStep}
use Rattle.channel_calls.specs.declared.stage.NextStep.TheVariants.{Tries, Works, Ends}
use Rattle.channel_calls.specs.declared.stage.Purpose.{Purpose}
use Rattle.channel_calls.specs.declared.stage.Purpose.TheVariants as purpose
use Rattle.channel_calls.specs.declared.stage.Returned.{Returned}
use Rattle.channel_calls.specs.declared.stage.Side.{Side}
use Rattle.channel_calls.specs.declared.stage.Side.TheVariants.{Senders, Receivers}
use Rattle.channel_calls.specs.declared.stage.Stage.{Stage}
use Rattle.channel_calls.specs.declared.stage.Stage.TheVariants.{Trying, Working, Finished}
use Rattle.channel_calls.specs.declared.stage.WaitList.{WaitList}
use Rattle.channel_calls.specs.declared.stage.WaitList.TheVariants.{Sends, Receives, Streams, Closings}
use Rattle.channel_history.proofs.Cells.{CellsDid}
use Rattle.channel_cells.specs.Cells.{view_of, form_in, IsSameParty}
use Rattle.channel_cells.specs.declared.cells.CallCells.{CallCells}

-- ---- where a drop stands, and by which turns it goes on

abbrev IsDropper : Closer → Type 0
IsDropper closer.Call = ⊥
IsDropper c = Unit {0}

drops_so : (side : Side) (key : Option Key) → IsDropper (dropper side key)
drops_so Senders key = tt
drops_so Receivers key = tt

module _ {T W : Type 0} where
  abbrev DropsFor : Purpose T W → Type 0
  DropsFor (purpose.Close c) = IsDropper c
  DropsFor p = ⊥

  abbrev DropsIn : ListStep T W → Type 0
  DropsIn (work.Lower side key) = Unit {0}
  DropsIn (work.TellAll line c) = IsDropper c
  DropsIn (work.Leave e) = e.reply ≡ reply.Unit
  DropsIn w = ⊥

  abbrev DropsBy : NextStep T W → Type 0
  DropsBy (Tries a p) = DropsFor p
  DropsBy (Works w) = DropsIn w
  DropsBy (Ends r kept) = r ≡ reply.Unit

  abbrev DropsAt : Stage (QueueCall T) T W → Type 0
  DropsAt (Trying call p) = DropsFor p
  DropsAt (Working w) = DropsIn w
  DropsAt (Finished kept) = ⊥

  abbrev DropsOn : Stage (QueueCall T) T W → Option (Reply T) → Type 0
  DropsOn next None = DropsAt next
  DropsOn next (Some r) = r ≡ reply.Unit

-- ---- the turns

module _ (T W : Type 0) where
  ends : (e : Ending T) → e.reply ≡ reply.Unit → DropsBy {T = T} {W = W} (ends_by e)
  ends e is = by e.held where
    by : (h : Option ListenerRef) → DropsBy {T = T} {W = W} (elim h [ None ↦ Ends e.reply (leaving None e.message) | Some held ↦ Works (work.Leave e) ])
    by None = is
    by (Some held) = is

  closing : (c : Closer) (b : Bool) → IsDropper c → DropsBy {T = T} {W = W} (ends_by (closer_ending c b))
  closing closer.Call b drops = absurd drops
  closing closer.Sender b drops = ends (closer_ending closer.Sender b) refl
  closing (closer.Receiver key) b drops = ends (closer_ending (closer.Receiver key) b) refl

  lowered : (side : Side) (key : Option Key) (n : ℕ) → DropsBy {T = T} {W = W} (lowered_next side key n)
  lowered side key n = by (n == 1) where
    by : (b : Bool) → DropsBy {T = T} {W = W} (if b then Tries queue.Close (purpose.Close (dropper side key)) else ends_by (closer_ending (dropper side key) false))
    by true = drops_so side key
    by false = closing (dropper side key) false (drops_so side key)

  told : (line : WaitList) (c : Closer) → IsDropper c → DropsBy {T = T} {W = W} (told_all_next line c)
  told Sends c drops = drops
  told Receives c drops = drops
  told Streams c drops = drops
  told Closings c drops = closing c true drops

  answered : (p : Purpose T W) (x : QueueReply T) → DropsFor p → DropsBy (answered_next p x)
  answered (purpose.Close c) (Close true) drops = drops
  answered (purpose.Close c) (Close false) drops = closing c false drops
  answered (purpose.Close c) x drops = refl
  answered p x drops = absurd drops

  taken : (turn : NextStep T W) (next : Stage (QueueCall T) T W) (r : Option (Reply T)) → DropsBy turn → Takes turn next r → DropsOn next r
  taken (Tries a p) next r drops (call, b, k, none, is) =
      subst (λ (z : Option (Reply T)). DropsOn next z) (sym none) (subst (λ (z : Stage (QueueCall T) T W). DropsAt z) (sym is) drops)
  taken (Works w) next r drops (none, is) = subst (λ (z : Option (Reply T)). DropsOn next z) (sym none) (subst (λ (z : Stage (QueueCall T) T W). DropsAt z) (sym is) drops)
  taken (Ends x kept) next r drops (some, is) = subst (λ (z : Option (Reply T)). DropsOn next z) (sym some) drops

  -- ---- the steps

  module _ {X : Type 0} (did : Deed T W → X → X → Type 0) where
    worked : (w : ListStep T W) (s t : X) (m : Mark) (next : Stage (QueueCall T) T W) (r : Option (Reply T)) → DropsIn w → WorkMakes did w s t m next r → DropsOn next r
    worked (work.Lower side key) s t m next r drops (n, d, (k, takes)) = taken (lowered_next side key n) next r (lowered side key n) takes
    worked (work.TellAll line c) s t m next r drops (names, d, (k, takes)) = taken (told_all_next line c) next r (told line c drops) takes
    worked (work.Leave e) s t m next r drops (d, (k, takes)) = taken (Ends e.reply (leaving None e.message)) next r drops takes
    worked w s t m next r drops h = absurd drops

    stepped : (at : Stage (QueueCall T) T W) (s t : X) (m : Mark) (next : Stage (QueueCall T) T W) (r : Option (Reply T)) → DropsAt at → ChannelMakes did at s t m next r → DropsOn next r
    stepped (Trying call p) s t m next r drops (after, None, d, k, (is, none)) =
        subst (λ (z : Option (Reply T)). DropsOn next z) (sym none) (subst (λ (z : Stage (QueueCall T) T W). DropsAt z) (sym is) drops)
    stepped (Trying call p) s t m next r drops (after, Some x, d, k, takes) = taken (answered_next p x) next r (answered p x drops) takes
    stepped (Working w) s t m next r drops h = worked w s t m next r drops h
    stepped (Finished kept) s t m next r drops h = absurd drops

    led : (n : ℕ) (s t : X) (at to : Stage (QueueCall T) T W) → DropsAt at → Leads did n s at t to → DropsAt to
    led zero s t at to drops (same, is) = subst (λ (z : Stage (QueueCall T) T W). DropsAt z) (sym is) drops
    led (suc n) s t at to drops (x, next, m, makes, path) = led n x t next to (stepped at s x m next None drops makes) path

    drops_end : (side : Side) (key : Option Key) (s t : X) (r : Reply T) (kept : Returned T) → WalkedFrom did (Works (work.Lower side key)) s r kept t → r ≡ reply.Unit
    drops_end side key s t r kept (at, takes, (n, x, last, m, next, path, makes, is)) = stepped last x t m next (Some r) (led n s x at last (taken (Works (work.Lower side key)) at None tt takes) path) makes

module _ {T W R S : Type 0} (wakes : S → W → S → Type 0) (side : Side) (key : Option Key) (c e : CallCells T W R × S) where
  abbrev DropWalks : Reply T → Type 0
  DropWalks r = WalkedTo (Done (CellsDid form_in view_of IsSameParty) wakes) (Works (work.Lower side key)) c r e

  pub drop_walks : (r : Reply T) × DropWalks r → DropWalks reply.Unit
  drop_walks (r, walked) = subst (λ (z : Reply T). DropWalks z) (drops_end T W (Done (CellsDid form_in view_of IsSameParty) wakes) side key c e r walked.0 walked.1) walked
