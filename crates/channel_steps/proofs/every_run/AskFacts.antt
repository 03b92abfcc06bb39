-- What a call asks of the queue, and the two ways of a step of the queue's call.
use Rattle.std.proofs.Common.{◌≡◌, List, Option, None, Some, ◌⊎◌, refl, ap, ◌∙◌, subst}
use Rattle.channel_steps.proofs.every_run.Words.{Phase, Continues, Answers, QueueAsk, QueueMark, QueueReply, Key, answered_next, Channel, Effect, leaves, Turned, leaving, ChannelAsk, Reply, Purpose, Ending, ListenerRef, WaitList, Sends, Receives, Streams, Closings, Stage, Trying, Working, NextStep, Works, Ends, Leave, TriesFor, MarkedMoment, removes, Waits, WaitApart}
use Rattle.concurrent_queue.specs.declared.call.QueueAsk.TheVariants as ask
use Rattle.channel_calls.specs.declared.ask.ChannelAsk.TheVariants as channel
use Rattle.channel_calls.specs.declared.stage.Purpose.TheVariants as purpose
use Rattle.channel_steps.proofs.every_run.ListFacts.{removed_leaves}

module _ {T : Type 0} where
  -- what the poll of one that waits on this list asks
  abbrev Polls : WaitList → QueueAsk T → Type 0
  Polls Sends a = (v : T) × (a ≡ ask.Push v)
  Polls Receives a = a ≡ ask.Pop
  Polls Streams a = a ≡ ask.Pop
  Polls Closings a = a ≡ ask.IsClosed

abbrev pub held_by : WaitList → Key → ListenerRef
held_by line key = record { line = line; key = key }

module _ {T W : Type 0} where
  -- the two ways of a step of the queue's call: it goes on, or it answers and the turn is taken
  abbrev pub How : Channel T W → Phase T → Purpose T W → QueueMark → Option (Reply T) → Stage (Phase T) T W → Type 0
  How c f y m r s =
      ((f' : Phase T) × Continues c.queue f m f' × (r ≡ None) × (s ≡ Trying f' y)) ⊎ ((x : QueueReply T) × Answers c.queue f m x × Turned (answered_next y x) r s)

  -- ---- what a poll asks

  pub poll_asks : (x : ChannelAsk T W) (line : WaitList) (o : Option Key) (task : W) (a : QueueAsk T) (ds : List (MarkedMoment T W)) (seen : List (Channel T W)) → TriesFor x (purpose.Poll line o task) a ds seen → Polls line a
  poll_asks (channel.PollSend m k t) Sends o task (ask.Push v) ds seen h = (v, refl)
  poll_asks (channel.PollRecv k t) Receives o task ask.Pop ds seen h = refl
  poll_asks (channel.PollNext k t) Streams o task ask.Pop ds seen h = refl
  poll_asks (channel.PollClosed k t) Closings o task ask.IsClosed ds seen h = refl
  poll_asks x line o task a ds seen h = absurd h

  -- ---- a poll that has its answer

  -- it leaves the list next, where it has a listener
  pub leaves_next : (x : Ending T) (o : Option ListenerRef) (h : ListenerRef) (r : Option (Reply T)) (s : Stage (Phase T) T W) → o ≡ Some h
      → Turned (let t : NextStep T W = elim o [ None ↦ Ends x.reply (leaving None x.message) | Some held ↦ Works (Leave x) ] in t) r s → (r ≡ None) × (s ≡ Working (Leave x))
  leaves_next x None h r s e t = absurd (let never : None ≡ Some h = e in cc)
  leaves_next x (Some k) h r s e t = t

  left_line : (line : WaitList) (key : Key) (c : Channel T W) → WaitApart line c → Waits line key (removes (held_by line key) c).channel → ⊥
  left_line Sends key c apart w = removed_leaves key c.wait_lists.sends apart w
  left_line Receives key c apart w = removed_leaves key c.wait_lists.receives apart w
  left_line Streams key c apart w = removed_leaves key c.wait_lists.streams apart w
  left_line Closings key c apart w = removed_leaves key c.wait_lists.closings apart w

  -- and one that has left waits no more
  pub has_left : (line : WaitList) (key : Key) (c : Channel T W) (o : Option ListenerRef) (e : Effect T W) → o ≡ Some (held_by line key) → e ≡ leaves o c → WaitApart line c → Waits line key e.channel → ⊥
  has_left line key c o e h same apart w =
      let gone : e ≡ removes (held_by line key) c = same ∙ ap (λ (o : Option ListenerRef). leaves o c) h in
      left_line line key c apart (subst (λ (z : Effect T W). Waits line key z.channel) gone w)
