-- That the last handle of a kind closes the channel, over runs.
use Rattle.std.proofs.Common.{◌≡◌, ◌∙◌, ◌⊎◌, ⊎_elim, inl, inr, ℕ, zero, suc, ◌+◌, ◌-◌, Bool, true, false, if◌then◌else◌, List, Option, None, Some, refl, sym, ap, subst, arith}
use Rattle.concurrent_queue.specs.Contents.{Contents}
use Rattle.concurrent_queue.specs.Queue.{Queue, Phase, IsShut, AnswersTo, ContinuesBy, AnswersClose, after}
use Rattle.concurrent_queue.specs.Queue as queue
use Rattle.concurrent_queue.specs.Capacity.{capacity_of}
use Rattle.concurrent_queue.specs.declared.call.QueueAsk.TheVariants as ask
use Rattle.concurrent_queue.specs.declared.call.QueueAsk.{QueueAsk}
use Rattle.concurrent_queue.specs.declared.call.QueueMark.{QueueMark}
use Rattle.concurrent_queue.specs.declared.call.QueueMark.TheVariants.{Nothing, Close}
use Rattle.concurrent_queue.specs.declared.call.QueueReply.{QueueReply}
use Rattle.concurrent_queue.specs.declared.call.QueueReply.TheVariants as answer
use Rattle.concurrent_queue.specs.declared.cells.QueueForm.{QueueForm}
use Rattle.event_listener.specs.declared.key.Key.{Key}
use Rattle.channel_calls.specs.Marks.{up}
use Rattle.channel_calls.specs.Moves.{Channel, Effect, Moves, Tried, Turned, leaves, listens, lowers, on_count, queued, raises, registers, tells_all, tells_more, tells_one, untouched}
use Rattle.channel_calls.specs.Parts.{Listeners, WaitLists, count, is_raised, with_count, with_listeners}
use Rattle.channel_calls.specs.Turns.{line_of, lowered_next}
use Rattle.channel_calls.specs.declared.reply.Reply.{Reply}
use Rattle.channel_calls.specs.declared.stage.ListStep.TheVariants.{TellReceive, TellStreams, TellSend, TellSends, TellAll, Insert, Register, Leave, Lower, Raise}
use Rattle.channel_calls.specs.declared.stage.ListenerRef.{ListenerRef}
use Rattle.channel_calls.specs.declared.stage.Purpose.{Purpose}
use Rattle.channel_calls.specs.declared.stage.Purpose.TheVariants as purpose
use Rattle.channel_calls.specs.declared.stage.Side.{Side}
use Rattle.channel_calls.specs.declared.stage.Side.TheVariants.{Senders, Receivers}
use Rattle.channel_calls.specs.declared.stage.Stage.{Stage}
use Rattle.channel_calls.specs.declared.stage.Stage.TheVariants.{Trying, Working}
use Rattle.channel_calls.specs.declared.stage.WaitList.{WaitList}
use Rattle.channel_calls.specs.declared.stage.WaitList.TheVariants.{Sends, Receives, Streams, Closings}
use Rattle.channel_steps.specs.Configuration.{Configuration}
use Rattle.channel_steps.specs.Moments.{Shut}
use Rattle.channel_steps.specs.Run.{Next, new_configuration}
use Rattle.channel_steps.specs.declared.party.Entry.{Entry}
use Rattle.channel_steps.specs.declared.run.Step.{Step}
use Rattle.channel_steps.specs.declared.run.Step.TheVariants as step
use Rattle.channel_steps.specs.every_run.Bridge.{steps_of}
use Rattle.channel_steps.specs.every_run.Waits.{Any}
use Rattle.channel_steps.proofs.every_run.AnyFacts.{any_begins, any_mine, any_steps}
use Rattle.channel_steps.proofs.every_run.Interface.{stays_closed}
use Rattle.channel_steps.proofs.every_run.RunFacts.{kept_long}
use Rattle.channel_history.specs.History.{IsChannelHistory, count_of}
use Rattle.channel_history.specs.Says.{HistorySays, MomentSays, configuration_of}
use Rattle.channel_history.specs.declared.party.Standing.{Standing}
use Rattle.channel_cells.specs.LastHandle.{ClosesNext, LastHandleCloses}

-- ---- one step

module _ {W : Type 0} where
  -- no list has a count
  not_listed : (side : Side) (line : WaitList) (l : Listeners W) (a : WaitLists W) → count side (with_listeners line l a) ≡ count side a
  not_listed Senders Sends l a = refl
  not_listed Senders Receives l a = refl
  not_listed Senders Streams l a = refl
  not_listed Senders Closings l a = refl
  not_listed Receivers Sends l a = refl
  not_listed Receivers Receives l a = refl
  not_listed Receivers Streams l a = refl
  not_listed Receivers Closings l a = refl

  -- and neither count changes with the other
  counted : (side x : Side) (n : ℕ) (a : WaitLists W) → ((x ≡ side) × (count side (with_count x n a) ≡ n)) ⊎ (count side (with_count x n a) ≡ count side a)
  counted Senders Senders n a = inl (refl, refl)
  counted Senders Receivers n a = inr refl
  counted Receivers Senders n a = inr refl
  counted Receivers Receivers n a = inl (refl, refl)

module _ {T W : Type 0} (side : Side) (c : Channel T W) where
  -- where this leaves no handle of the kind there was none, or a call goes on that closes next
  abbrev Leaves : Effect T W → Option (Reply T) → Stage (Phase T) T W → Type 0
  Leaves e r s = count side e.channel.wait_lists ≡ 0 → (count side c.wait_lists ≡ 0) ⊎ ((r ≡ None) × ClosesNext side s)

  by : (e d : Effect T W) (r : Option (Reply T)) (s : Stage (Phase T) T W) → e ≡ d → Leaves d r s → Leaves e r s
  by e d r s is h = subst (λ (x : Effect T W). Leaves x r s) (sym is) h

  same : (n : ℕ) → n ≡ count side c.wait_lists → (r : Option (Reply T)) (s : Stage (Phase T) T W) → n ≡ 0 → (count side c.wait_lists ≡ 0) ⊎ ((r ≡ None) × ClosesNext side s)
  same n is r s none = inl (sym is ∙ none)

  on_list : (line : WaitList) (l : Listeners W) (r : Option (Reply T)) (s : Stage (Phase T) T W) → count side (with_listeners line l c.wait_lists) ≡ 0 → (count side c.wait_lists ≡ 0) ⊎ ((r ≡ None) × ClosesNext side s)
  on_list line l r s none = same (count side (with_listeners line l c.wait_lists)) (not_listed side line l c.wait_lists) r s none

  left : (h : Option ListenerRef) (r : Option (Reply T)) (s : Stage (Phase T) T W) → Leaves (leaves h c) r s
  left None r s none = inl none
  left (Some h) r s none = on_list h.line _ r s none

  raised : (x : Side) (n : ℕ) (b : Bool) (r : Option (Reply T)) (s : Stage (Phase T) T W) → Leaves (if b then on_count x (n + 1) (up x) c else untouched c) r s
  raised x n true r s none =
      ⊎_elim (λ k. let one : n + 1 ≡ 0 = sym k.1 ∙ none in absurd (omega (arith, one))) (λ k. inl (sym k ∙ none)) (counted side x (n + 1) c.wait_lists)
  raised x n false r s none = inl none

  -- who lowers it from 1 closes next
  last : (x : Side) (key : Option Key) (n : ℕ) (r : Option (Reply T)) (s : Stage (Phase T) T W) → Turned (lowered_next x key n) r s → n - 1 ≡ 0 → (n ≡ 0) ⊎ ((r ≡ None) × ClosesNext x s)
  last x key zero r s t none = inl refl
  last x key (suc zero) r s t none = inr (t.0, subst (λ (z : Stage (Phase T) T W). ClosesNext x z) (sym t.1) (refl, (key, refl)))
  last x key (suc (suc n)) r s t none = absurd (omega (arith, none))

  lowered : (x : Side) (key : Option Key) (r : Option (Reply T)) (s : Stage (Phase T) T W) → Turned (lowered_next x key (count x c.wait_lists)) r s → Leaves (lowers x c) r s
  lowered x key r s t none =
      ⊎_elim (λ k. subst (λ (z : Side). (count z c.wait_lists ≡ 0) ⊎ ((r ≡ None) × ClosesNext z s)) k.0 (last x key (count x c.wait_lists) r s t (sym k.1 ∙ none)))
      (λ k. inl (sym k ∙ none)) (counted side x (count x c.wait_lists - 1) c.wait_lists)

  leaves_none : (at : Stage (Phase T) T W) (e : Effect T W) (r : Option (Reply T)) (s : Stage (Phase T) T W) → Moves c at e r s → Leaves e r s
  leaves_none (Trying f purpose) e r s h = by e (queued f h.mark c) r s h.effect (λ none. inl none)
  leaves_none (Working (TellReceive x)) e r s h = by e (tells_one Receives c) r s h.0 (on_list Receives _ r s)
  leaves_none (Working (TellStreams x)) e r s h = by e (tells_all Streams c) r s h.0 (on_list Streams _ r s)
  leaves_none (Working (TellSend x)) e r s h = by e (tells_one Sends c) r s h.0 (on_list Sends _ r s)
  leaves_none (Working (TellSends n x)) e r s h = by e (tells_more n Sends c) r s h.0 (on_list Sends _ r s)
  leaves_none (Working (TellAll line x)) e r s h = by e (tells_all line c) r s h.0 (on_list line _ r s)
  leaves_none (Working (Insert w task)) e r s (inl (key, new, is, t)) = by e (listens (line_of w) key c) r s is (on_list (line_of w) _ r s)
  leaves_none (Working (Insert w task)) e r s (inr (error, is, t)) = by e (untouched c) r s is (λ none. inl none)
  leaves_none (Working (Register w key task)) e r s h = by e (registers (line_of w) key task c) r s h.0 (on_list (line_of w) _ r s)
  leaves_none (Working (Leave x)) e r s h = by e (leaves x.held c) r s h.0 (left x.held r s)
  leaves_none (Working (Lower x key)) e r s h = by e (lowers x c) r s h.0 (lowered x key r s h.1)
  leaves_none (Working (Raise x n making)) e r s h = by e (raises x n c) r s h.0 (raised x n (is_raised x n c.wait_lists) r s)
  leaves_none w e r s h = by e (untouched c) r s h.0 (λ none. inl none)

module _ {T : Type 0} where
  -- a queue's call that closes has closed it, or found it closed
  shuts : (q : Queue T) (f : Phase T) (m : QueueMark) (x : QueueReply T) (s : queue.Stage T) → AnswersClose q m x s → IsShut (after f m q)
  shuts q f Close (answer.Close true) (queue.trying seen) h = refl
  shuts q f Nothing (answer.Close false) (queue.trying seen) h = h
  shuts q f m x s h = absurd h

module _ {T W : Type 0} (side : Side) (c : Channel T W) where
  -- so a call that closes next does
  tried : (f : Phase T) (x : Purpose T W) (e : Effect T W) (r : Option (Reply T)) (s : Stage (Phase T) T W) → f.ask ≡ ask.Close → Tried c f x e r s → Shut e.channel
  tried f x e r s asks h =
      subst (λ (z : Effect T W). Shut z.channel) (sym h.effect) (
      ⊎_elim (λ k. absurd (subst (λ (a : QueueAsk T). ContinuesBy c.queue a h.mark f.stage k.0.stage) asks k.1.1))
      (λ k. shuts c.queue f h.mark k.0 f.stage (subst (λ (a : QueueAsk T). AnswersTo c.queue a h.mark k.0 f.stage) asks k.1)) h.how)

  closes : (at : Stage (Phase T) T W) (e : Effect T W) (r : Option (Reply T)) (s : Stage (Phase T) T W) → ClosesNext side at → Moves c at e r s → Shut e.channel
  closes (Trying f (purpose.Close x)) e r s next h = tried f (purpose.Close x) e r s next.0 h
  closes at e r s next h = absurd next

-- ---- a run

module _ {T W : Type 0} where
  next_closes : (s : Configuration T W) (x : Step T W) (e : Entry T) (names : List W) (t : Configuration T W) → Next s x e names t → LastHandleCloses s → LastHandleCloses t
  next_closes s (step.Begin p a) e names t n h side none =
      ⊎_elim (λ shut. inl (subst (λ (c : Channel T W). Shut c) (sym n.0.now) shut)) (λ any. inr (any_begins (λ u. ClosesNext side u.at) s t p a e n.0 any))
      (h side (subst (λ (c : Channel T W). count side c.wait_lists ≡ 0) n.0.now none))
  next_closes s (step.Step p) e names t n h side none =
      let effect : Effect T W = record { channel = t.now; mark = e.mark; woken = names } in
      ⊎_elim (λ before.
      ⊎_elim (λ shut. inl (stays_closed s (step.Step p) e names t n shut))
      (λ any. ⊎_elim (λ other. inr other) (λ mine. inl (closes side s.now n.mine.at effect e.reply n.at_now mine n.moves))
      (any_steps (λ u. ClosesNext side u.at) s t p e names n (λ u k. k) any))
      (h side before))
      (λ k. inr (any_mine (λ u. ClosesNext side u.at) s t p e names n (λ u k. k) k.0 k.1))
      (leaves_none side s.now n.mine.at effect e.reply n.at_now n.moves none)

module _ (T W : Type 0) where
  new_closes : (capacity : Option ℕ) → LastHandleCloses (new_configuration {T = T} {W = W} capacity)
  new_closes capacity Senders none = absurd (cc)
  new_closes capacity Receivers none = absurd (cc)

-- ---- a history

module _ {T W : Type 0} (form : QueueForm) (views : List (Standing T W)) (cells : Contents T) (senders receivers : ℕ) (h : IsChannelHistory form views cells senders receivers)
    (says : HistorySays form views cells senders receivers h) (moment : MomentSays form views cells senders receivers h says) where
  abbrev Last : Configuration T W
  Last = configuration_of form views cells senders receivers h says

  in_a_run : LastHandleCloses Last
  in_a_run =
      let keeps = says.keeps in let run = keeps.is in
      kept_long LastHandleCloses next_closes (new_configuration (capacity_of form)) Last (steps_of h.events) run.trace (new_closes T W (capacity_of form)) run.configurations

  counts : (side : Side) → count side Last.now.wait_lists ≡ count_of side senders receivers
  counts Senders = ap (λ (a : WaitLists W). count Senders a) moment.lists
  counts Receivers = ap (λ (a : WaitLists W). count Receivers a) moment.lists

  -- where a count is 0 the channel is closed, or a call under way closes it next
  pub last_handle_closes : (side : Side) → count_of side senders receivers ≡ 0 → Shut Last.now ⊎ Any (λ u. ClosesNext side u.at) Last.under_way
  last_handle_closes side none = in_a_run side (counts side ∙ none)
