-- The drop of the last handle of a side closes the channel.
use Rattle.std.specs.Prelude.{◌≡◌, ◌-◌, ◌≤◌, ◌==◌, if◌then◌else◌, ◌⊎◌}
use Rattle.channel_world_runs.proofs.Words.{ℕ, Bool, true, false, List, Option, None, inl, inr, refl, sym, ap, ◌∙◌, subst, Queue, Phase, is_displaced, marked, Continues, ContinuesBy, AnswersClose, AnswersTo, QueueAsk, QueueMark, QueueReply, Key, answered_next, Channel, Effect, Turned, Tried, Moves, count, dropper, closer_ending, ends_by, ChannelAsk, Reply, Closer, Side, Senders, Receivers, Stage, Trying, Working, Tries, Lower, TriesFor, StageAt, MarkedMoment, Shut, is_last_of, is_lowering, is_closing, Purpose}
use Rattle.channel_world_model.proofs.HandleLaws.{more_than_one}
use Rattle.concurrent_queue.specs.Queue.{Answers}
use Rattle.concurrent_queue.specs.Queue as stages

module _ (T W : Type 0) where
  -- ---- a closing that is under way

  closed_so : (q : Queue T) (m : QueueMark) (y : QueueReply T) (s : stages.Stage T) → AnswersClose q m y s
      → (marked QueueAsk.Close (is_displaced s) m q).closed ≡ true
  closed_so q QueueMark.Close (QueueReply.Close true) (stages.trying seen) h = refl
  closed_so q QueueMark.Nothing (QueueReply.Close false) (stages.trying seen) h = h
  closed_so q m y s h = absurd h

  closer_asks : (x : ChannelAsk T W) (c : Closer) (a : QueueAsk T) (ds : List (MarkedMoment T W)) (seen : List (Channel T W))
      → TriesFor x (Purpose.Close c) a ds seen → a ≡ QueueAsk.Close
  closer_asks ChannelAsk.Close Closer.Call QueueAsk.Close ds seen h = refl
  closer_asks ChannelAsk.DropSender Closer.Sender QueueAsk.Close ds seen h = refl
  closer_asks (ChannelAsk.DropReceiver k) (Closer.Receiver key) QueueAsk.Close ds seen h = refl
  closer_asks x c a ds seen h = absurd h

  shuts : (c : Channel T W) (f : Phase T) (cl : Closer) (e : Effect T W) (r : Option (Reply T)) (s : Stage (Phase T) T W)
      → f.ask ≡ QueueAsk.Close → Tried c f (Purpose.Close cl) e r s → Shut e.channel
  shuts c f cl e r s asks h = by h.how
    where
      by : ((f' : Phase T) × Continues c.queue f h.mark f' × (r ≡ None) × (s ≡ Trying f' (Purpose.Close cl)))
          ⊎ ((y : QueueReply T) × Answers c.queue f h.mark y × Turned (answered_next (Purpose.Close cl) y) r s) → Shut e.channel
      by (inl g) = absurd (subst (λ (a : QueueAsk T). ContinuesBy c.queue a h.mark f.stage (let n : Phase T = g.0 in n.stage)) asks g.1.1)
      by (inr g) =
          ap (λ (x : Effect T W). x.channel.queue.closed) h.effect
          ∙ (ap (λ (a : QueueAsk T). (marked a (is_displaced f.stage) h.mark c.queue).closed) asks
          ∙ closed_so c.queue h.mark g.0 f.stage (subst (λ (a : QueueAsk T). AnswersTo c.queue a h.mark g.0 f.stage) asks g.1))

  -- after its step the channel is closed
  pub closing_shuts : (side : Side) (c : Channel T W) (x : ChannelAsk T W) (at : Stage (Phase T) T W) (e : Effect T W)
      (r : Option (Reply T)) (s : Stage (Phase T) T W) (ds : List (MarkedMoment T W)) (seen : List (Channel T W)) → StageAt c x at ds seen
      → Moves c at e r s → is_closing side at ≡ true → Shut e.channel
  closing_shuts side c x (Trying f (Purpose.Close cl)) e r s ds seen k h sure = shuts c f cl e r s (closer_asks x cl f.ask ds seen k.0) h
  closing_shuts side c x at e r s ds seen k h sure = absurd (let no : false ≡ true = sure in cc)

  -- ---- a drop that lowers the count

  -- one is left at least, or the call goes on to close
  abbrev Left : Side → Option (Reply T) → Stage (Phase T) T W → ℕ → Type 0
  Left side r s m = (1 ≤ m) ⊎ ((r ≡ None) × (is_closing side s ≡ true))

  left : (side z : Side) (key : Option Key) (n : ℕ) (r : Option (Reply T)) (s : Stage (Phase T) T W) (b : Bool) → (n == 1) ≡ b → 1 ≤ n
      → is_last_of side (dropper z key) ≡ true
      → Turned (if b then Tries QueueAsk.Close (Purpose.Close (dropper z key)) else ends_by (closer_ending (dropper z key) false)) r s
      → Left side r s (n - 1)
  left side z key n r s true e low last h = inr (h.0, ap (λ (x : Stage (Phase T) T W). is_closing side x) h.1 ∙ last)
  left side z key n r s false e low last h = inl (more_than_one n e low)

  pub last_closes : (side : Side) (c : Channel T W) (at : Stage (Phase T) T W) (e : Effect T W) (r : Option (Reply T))
      (s : Stage (Phase T) T W) → Moves c at e r s → is_lowering side at ≡ true → 1 ≤ count side c.wait_lists
      → Left side r s (count side e.channel.wait_lists)
  last_closes Senders c (Working (Lower Senders key)) e r s h sure low =
      subst (λ (x : Effect T W). Left Senders r s (count Senders x.channel.wait_lists)) (sym h.0)
      (left Senders Senders key (count Senders c.wait_lists) r s (count Senders c.wait_lists == 1) refl low refl h.1)
  last_closes Receivers c (Working (Lower Receivers key)) e r s h sure low =
      subst (λ (x : Effect T W). Left Receivers r s (count Receivers x.channel.wait_lists)) (sym h.0)
      (left Receivers Receivers key (count Receivers c.wait_lists) r s (count Receivers c.wait_lists == 1) refl low refl h.1)
  last_closes side c at e r s h sure low = absurd (let no : false ≡ true = sure in cc)
