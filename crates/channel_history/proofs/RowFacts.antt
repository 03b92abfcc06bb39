-- The marks of a call that has ended brought in and took out what its question and its reply say.
use Rattle.std.proofs.Common.{◌≡◌, true, false, List, [], ◌∷◌, ◌++◌, take, ◌⊎◌, inl, inr, refl, sym, ap, ◌∙◌, append-nil, append_assoc}
use Rattle.std.specs.Prelude.{None, Some, Ok, Err}
use Rattle.concurrent_queue.specs.Queue.{Queue, IsOldest}
use Rattle.futures.specs.declared.task.Poll.TheVariants.{Ready, Pending}
use Rattle.channel_calls.specs.Marks.{up, down}
use Rattle.channel_calls.specs.Moves.{Channel}
use Rattle.channel_calls.specs.Turns.{refused_reply}
use Rattle.channel_calls.specs.declared.ask.ChannelAsk.{ChannelAsk}
use Rattle.channel_calls.specs.declared.ask.ChannelAsk.TheVariants as ask
use Rattle.channel_calls.specs.declared.error.Refused.TheVariants as refused
use Rattle.channel_calls.specs.declared.error.TryRecvError.TheVariants as try_recv_error
use Rattle.channel_calls.specs.declared.error.TrySendError.TheVariants as try_send_error
use Rattle.channel_calls.specs.declared.mark.Mark.{Mark}
use Rattle.channel_calls.specs.declared.mark.Mark.TheVariants.{Nothing, Append, Take, TakeDisplaced, Replace, Close}
use Rattle.channel_calls.specs.declared.reply.Reply.{Reply}
use Rattle.channel_calls.specs.declared.reply.Reply.TheVariants as reply
use Rattle.channel_calls.specs.declared.stage.Side.{Side}
use Rattle.channel_calls.specs.declared.stage.Side.TheVariants.{Senders, Receivers}
use Rattle.channel_calls.specs.declared.stage.WaitList.{WaitList}
use Rattle.channel_calls.specs.declared.stage.WaitList.TheVariants.{Sends, Receives, Streams, Closings}
use Rattle.event_listener.specs.declared.error.ListenError.{ListenError}
use Rattle.channel_steps.specs.Answers.{Row}
use Rattle.channel_steps.specs.Configuration.{brought, gone_by}
use Rattle.channel_steps.specs.Moments.{MarkedMoment, with_marked, Appended, Took, TookAll, Replaced, Displaced, ClosedIt, CountRaised, Upgraded, Dropped}
use Rattle.channel_steps.specs.every_run.Marked.{brought_by}
use Rattle.channel_history.specs.Accounts.{accepted_of, taken_of, marked_in, marked_out}

module _ {T : Type 0} where
  nothing_in : (m : Mark) → brought_by {T = T} m [] ≡ []
  nothing_in Append = refl
  nothing_in Replace = refl
  nothing_in m = refl

  first : (v : T) (q : Queue T) → IsOldest v q → take 1 q.items ≡ v ∷ []
  first v q h = ap (λ (ms : List T). take 1 ms) h.1

  -- by a mark that is this one
  in_by : (m n : Mark) (message : List T) → m ≡ n → brought_by m message ≡ brought_by n message
  in_by m n message e = ap (λ (k : Mark). brought_by k message) e

  out_by : (m n : Mark) (items : List T) → m ≡ n → gone_by m items ≡ gone_by n items
  out_by m n items e = ap (λ (k : Mark). gone_by k items) e

  up_out : (side : Side) (items : List T) → gone_by (up side) items ≡ []
  up_out Senders items = refl
  up_out Receivers items = refl

  down_out : (side : Side) (items : List T) → gone_by (down side) items ≡ []
  down_out Senders items = refl
  down_out Receivers items = refl

  refused_takes : (line : WaitList) (e : ListenError) → taken_of (refused_reply {T = T} line e) ≡ []
  refused_takes Sends e = refl
  refused_takes Receives e = refl
  refused_takes Streams e = refl
  refused_takes Closings e = refl

module _ {T W : Type 0} where
  -- ---- a mark more

  in_more : (message : List T) (ds : List (MarkedMoment T W)) (d : MarkedMoment T W) → marked_in message (ds ++ d ∷ []) ≡ marked_in message ds ++ brought_by d.mark message
  in_more message [] d = append-nil (brought_by d.mark message)
  in_more message (x ∷ xs) d =
      ap (λ (ms : List T). brought_by x.mark message ++ ms) (in_more message xs d) ∙ sym (append_assoc (brought_by x.mark message) (marked_in message xs) (brought_by d.mark message))

  out_more : (ds : List (MarkedMoment T W)) (d : MarkedMoment T W) → marked_out (ds ++ d ∷ []) ≡ marked_out ds ++ gone_by d.mark d.before.queue.items
  out_more [] d = append-nil (gone_by d.mark d.before.queue.items)
  out_more (x ∷ xs) d =
      ap (λ (ms : List T). gone_by x.mark x.before.queue.items ++ ms) (out_more xs d)
      ∙ sym (append_assoc (gone_by x.mark x.before.queue.items) (marked_out xs) (gone_by d.mark d.before.queue.items))

  pub in_marked : (message : List T) (ds : List (MarkedMoment T W)) (m : Mark) (c : Channel T W) (seen : List (Channel T W))
      → marked_in message (with_marked ds m c seen) ≡ marked_in message ds ++ brought_by m message
  in_marked message ds Nothing c seen = sym (append-nil (marked_in message ds))
  in_marked message ds m c seen = in_more message ds (record { mark = m; before = c; seen = seen })

  pub out_marked : (ds : List (MarkedMoment T W)) (m : Mark) (c : Channel T W) (seen : List (Channel T W))
      → marked_out (with_marked ds m c seen) ≡ marked_out ds ++ gone_by m c.queue.items
  out_marked ds Nothing c seen = sym (append-nil (marked_out ds))
  out_marked ds m c seen = out_more ds (record { mark = m; before = c; seen = seen })

  -- ---- what all marks of a call brought in

  none_in : (ds : List (MarkedMoment T W)) → marked_in [] ds ≡ []
  none_in [] = refl
  none_in (d ∷ ds) = ap (λ (ms : List T). ms ++ marked_in [] ds) (nothing_in d.mark) ∙ none_in ds

  no_mark_in : (message : List T) (ds : List (MarkedMoment T W)) → ds ≡ [] → marked_in message ds ≡ []
  no_mark_in message ds e = ap (λ (xs : List (MarkedMoment T W)). marked_in message xs) e

  appended_in : (v : T) (ds : List (MarkedMoment T W)) → Appended ds → marked_in (v ∷ []) ds ≡ v ∷ []
  appended_in v (d ∷ []) h = ap (λ (ms : List T). ms ++ []) (in_by d.mark Append (v ∷ []) h.0)
  appended_in v [] h = absurd h
  appended_in v (d ∷ x ∷ xs) h = absurd h

  displaced_in : (v w : T) (ds : List (MarkedMoment T W)) → (Replaced ds w ⊎ Displaced ds w) → marked_in (v ∷ []) ds ≡ v ∷ []
  displaced_in v w (d ∷ []) (inl h) = ap (λ (ms : List T). ms ++ []) (in_by d.mark Replace (v ∷ []) h.0)
  displaced_in v w (d ∷ e ∷ []) (inr h) =
      ap (λ (ms : List T). ms ++ (brought_by e.mark (v ∷ []) ++ [])) (in_by d.mark TakeDisplaced (v ∷ []) ((h.0).0))
      ∙ ap (λ (ms : List T). ms ++ []) (in_by e.mark Append (v ∷ []) h.1)
  displaced_in v w ds (inl h) = absurd h
  displaced_in v w ds (inr h) = absurd h

  pub row_in : (a : ChannelAsk T W) (ds : List (MarkedMoment T W)) (seen : List (Channel T W)) (r : Reply T) → Row a ds seen r → marked_in (brought a) ds ≡ accepted_of a r
  row_in (ask.TrySend m) ds seen (reply.TrySend (Ok u)) h = appended_in m ds h
  row_in (ask.TrySend m) ds seen (reply.TrySend (Err (refused.Plain (try_send_error.Full v)))) h = no_mark_in (m ∷ []) ds h.1
  row_in (ask.TrySend m) ds seen (reply.TrySend (Err (refused.Plain (try_send_error.Closed v)))) h = no_mark_in (m ∷ []) ds h.1
  row_in (ask.TrySend m) ds seen (reply.TrySend (Err (refused.NoMemory v))) h = no_mark_in (m ∷ []) ds h.1
  row_in (ask.TrySend m) ds seen r h = absurd h
  row_in (ask.ForceSend m) ds seen (reply.ForceSend (Ok None)) h = appended_in m ds h
  row_in (ask.ForceSend m) ds seen (reply.ForceSend (Ok (Some d))) h = displaced_in m d ds h
  row_in (ask.ForceSend m) ds seen (reply.ForceSend (Err (refused.Plain e))) h = no_mark_in (m ∷ []) ds h.1
  row_in (ask.ForceSend m) ds seen (reply.ForceSend (Err (refused.NoMemory v))) h = no_mark_in (m ∷ []) ds h.1
  row_in (ask.ForceSend m) ds seen r h = absurd h
  row_in (ask.PollSend m l task) ds seen (reply.SendPoll (Ready (Ok u))) h = appended_in m ds h
  row_in (ask.PollSend m l task) ds seen (reply.SendPoll (Ready (Err (refused.Plain e)))) h = no_mark_in (m ∷ []) ds h.1
  row_in (ask.PollSend m l task) ds seen (reply.SendPoll (Ready (Err (refused.NoMemory u)))) h = no_mark_in (m ∷ []) ds h.0
  row_in (ask.PollSend m l task) ds seen (reply.SendPoll (Ready (Err (refused.SerialsUsedUp u)))) h = no_mark_in (m ∷ []) ds h.0
  row_in (ask.PollSend m l task) ds seen (reply.SendPoll Pending) h = no_mark_in (m ∷ []) ds h.0
  row_in (ask.PollSend m l task) ds seen r h = absurd h
  row_in a ds seen r h = none_in ds

  -- ---- and took out

  no_mark_out : (ds : List (MarkedMoment T W)) → ds ≡ [] → marked_out ds ≡ []
  no_mark_out ds e = ap (λ (xs : List (MarkedMoment T W)). marked_out xs) e

  appended_out : (ds : List (MarkedMoment T W)) → Appended ds → marked_out ds ≡ []
  appended_out (d ∷ []) h = ap (λ (ms : List T). ms ++ []) (out_by d.mark Append d.before.queue.items h.0)
  appended_out [] h = absurd h
  appended_out (d ∷ x ∷ xs) h = absurd h

  displaced_out : (w : T) (ds : List (MarkedMoment T W)) → (Replaced ds w ⊎ Displaced ds w) → marked_out ds ≡ w ∷ []
  displaced_out w (d ∷ []) (inl h) = ap (λ (ms : List T). ms ++ []) (out_by d.mark Replace d.before.queue.items h.0 ∙ first w d.before.queue h.2)
  displaced_out w (d ∷ e ∷ []) (inr h) =
      ap (λ (ms : List T). ms ++ (gone_by e.mark e.before.queue.items ++ [])) (out_by d.mark TakeDisplaced d.before.queue.items ((h.0).0) ∙ first w d.before.queue ((h.0).3))
      ∙ ap (λ (ms : List T). w ∷ (ms ++ [])) (out_by e.mark Append e.before.queue.items h.1)
  displaced_out w ds (inl h) = absurd h
  displaced_out w ds (inr h) = absurd h

  took_out : (v : T) (ds : List (MarkedMoment T W)) → Took ds v → marked_out ds ≡ v ∷ []
  took_out v (d ∷ []) h = ap (λ (ms : List T). ms ++ []) (out_by d.mark Take d.before.queue.items h.0 ∙ first v d.before.queue h.1)
  took_out v [] h = absurd h
  took_out v (d ∷ x ∷ xs) h = absurd h

  all_out : (vs : List T) (ds : List (MarkedMoment T W)) → TookAll ds vs → marked_out ds ≡ vs
  all_out [] [] h = refl
  all_out (v ∷ vs) (d ∷ ds) h =
      ap (λ (ms : List T). ms ++ marked_out ds) (out_by d.mark Take d.before.queue.items h.0 ∙ first v d.before.queue h.1) ∙ ap (λ (ms : List T). v ∷ ms) (all_out vs ds h.2)
  all_out [] (d ∷ ds) h = absurd h
  all_out (v ∷ vs) [] h = absurd h

  closed_out : (ds : List (MarkedMoment T W)) → ClosedIt ds → marked_out ds ≡ []
  closed_out (d ∷ []) h = ap (λ (ms : List T). ms ++ []) (out_by d.mark Close d.before.queue.items h.0)
  closed_out [] h = absurd h
  closed_out (d ∷ x ∷ xs) h = absurd h

  raised_out : (side : Side) (ds : List (MarkedMoment T W)) → CountRaised side ds → marked_out ds ≡ []
  raised_out side (d ∷ []) h = ap (λ (ms : List T). ms ++ []) (out_by d.mark (up side) d.before.queue.items h.0 ∙ up_out side d.before.queue.items)
  raised_out side [] h = absurd h
  raised_out side (d ∷ x ∷ xs) h = absurd h

  upgraded_out : (side : Side) (ds : List (MarkedMoment T W)) → Upgraded side ds → marked_out ds ≡ []
  upgraded_out side (d ∷ []) h = ap (λ (ms : List T). ms ++ []) (out_by d.mark (up side) d.before.queue.items h.0 ∙ up_out side d.before.queue.items)
  upgraded_out side [] h = absurd h
  upgraded_out side (d ∷ x ∷ xs) h = absurd h

  dropped_out : (side : Side) (ds : List (MarkedMoment T W)) (seen : List (Channel T W)) → Dropped side ds seen → marked_out ds ≡ []
  dropped_out side (d ∷ []) seen h = ap (λ (ms : List T). ms ++ []) (out_by d.mark (down side) d.before.queue.items h.0 ∙ down_out side d.before.queue.items)
  dropped_out side (d ∷ e ∷ []) seen h =
      ap (λ (ms : List T). ms ++ (gone_by e.mark e.before.queue.items ++ [])) (out_by d.mark (down side) d.before.queue.items h.0 ∙ down_out side d.before.queue.items)
      ∙ ap (λ (ms : List T). ms ++ []) (out_by e.mark Close e.before.queue.items h.2)
  dropped_out side [] seen h = absurd h
  dropped_out side (d ∷ e ∷ x ∷ xs) seen h = absurd h

  -- a reply that takes nothing out
  none_out : (ds : List (MarkedMoment T W)) (r s : Reply T) → marked_out ds ≡ [] → r ≡ s → taken_of s ≡ [] → marked_out ds ≡ taken_of r
  none_out ds r s e is none = e ∙ sym none ∙ ap (λ (x : Reply T). taken_of x) (sym is)

  pub row_out : (a : ChannelAsk T W) (ds : List (MarkedMoment T W)) (seen : List (Channel T W)) (r : Reply T) → Row a ds seen r → marked_out ds ≡ taken_of r
  row_out (ask.TrySend m) ds seen (reply.TrySend (Ok u)) h = appended_out ds h
  row_out (ask.TrySend m) ds seen (reply.TrySend (Err (refused.Plain (try_send_error.Full v)))) h = no_mark_out ds h.1
  row_out (ask.TrySend m) ds seen (reply.TrySend (Err (refused.Plain (try_send_error.Closed v)))) h = no_mark_out ds h.1
  row_out (ask.TrySend m) ds seen (reply.TrySend (Err (refused.NoMemory v))) h = no_mark_out ds h.1
  row_out (ask.TrySend m) ds seen r h = absurd h
  row_out (ask.ForceSend m) ds seen (reply.ForceSend (Ok None)) h = appended_out ds h
  row_out (ask.ForceSend m) ds seen (reply.ForceSend (Ok (Some d))) h = displaced_out d ds h
  row_out (ask.ForceSend m) ds seen (reply.ForceSend (Err (refused.Plain e))) h = no_mark_out ds h.1
  row_out (ask.ForceSend m) ds seen (reply.ForceSend (Err (refused.NoMemory v))) h = no_mark_out ds h.1
  row_out (ask.ForceSend m) ds seen r h = absurd h
  row_out ask.TryRecv ds seen (reply.TryRecv (Ok v)) h = took_out v ds h
  row_out ask.TryRecv ds seen (reply.TryRecv (Err try_recv_error.Empty)) h = no_mark_out ds h.0
  row_out ask.TryRecv ds seen (reply.TryRecv (Err try_recv_error.Closed)) h = no_mark_out ds h.0
  row_out ask.TryRecv ds seen r h = absurd h
  row_out (ask.RecvMany n) ds seen (reply.RecvMany (Ok vs)) h = all_out vs ds h.0
  row_out (ask.RecvMany n) ds seen (reply.RecvMany (Err (refused.Plain try_recv_error.Empty))) h = no_mark_out ds h.0
  row_out (ask.RecvMany n) ds seen (reply.RecvMany (Err (refused.Plain try_recv_error.Closed))) h = no_mark_out ds h.0
  row_out (ask.RecvMany n) ds seen (reply.RecvMany (Err (refused.NoMemory u))) h = no_mark_out ds h.0
  row_out (ask.RecvMany n) ds seen r h = absurd h
  row_out ask.Close ds seen (reply.Closed true) h = closed_out ds h
  row_out ask.Close ds seen (reply.Closed false) h = no_mark_out ds h.0
  row_out ask.Close ds seen r h = absurd h
  row_out (ask.PollSend m l task) ds seen (reply.SendPoll (Ready (Ok u))) h = appended_out ds h
  row_out (ask.PollSend m l task) ds seen (reply.SendPoll (Ready (Err (refused.Plain e)))) h = no_mark_out ds h.1
  row_out (ask.PollSend m l task) ds seen (reply.SendPoll (Ready (Err (refused.NoMemory u)))) h = no_mark_out ds h.0
  row_out (ask.PollSend m l task) ds seen (reply.SendPoll (Ready (Err (refused.SerialsUsedUp u)))) h = no_mark_out ds h.0
  row_out (ask.PollSend m l task) ds seen (reply.SendPoll Pending) h = no_mark_out ds h.0
  row_out (ask.PollSend m l task) ds seen r h = absurd h
  row_out (ask.PollRecv l task) ds seen (reply.RecvPoll (Ready (Ok v))) h = took_out v ds h
  row_out (ask.PollRecv l task) ds seen (reply.RecvPoll (Ready (Err (refused.Plain e)))) h = no_mark_out ds h.0
  row_out (ask.PollRecv l task) ds seen (reply.RecvPoll (Ready (Err (refused.NoMemory u)))) h = no_mark_out ds h.0
  row_out (ask.PollRecv l task) ds seen (reply.RecvPoll (Ready (Err (refused.SerialsUsedUp u)))) h = no_mark_out ds h.0
  row_out (ask.PollRecv l task) ds seen (reply.RecvPoll Pending) h = no_mark_out ds h.0
  row_out (ask.PollRecv l task) ds seen r h = absurd h
  row_out (ask.PollClosed key task) ds seen (reply.ClosedPoll (Ready (Ok u))) h = no_mark_out ds h.0
  row_out (ask.PollClosed key task) ds seen (reply.ClosedPoll (Ready (Err e))) h = no_mark_out ds h.0
  row_out (ask.PollClosed key task) ds seen (reply.ClosedPoll Pending) h = no_mark_out ds h.0
  row_out (ask.PollClosed key task) ds seen r h = absurd h
  row_out (ask.PollNext key task) ds seen (reply.Next (Ready (Some (Ok v)))) h = took_out v ds h
  row_out (ask.PollNext key task) ds seen (reply.Next (Ready (Some (Err e)))) h = no_mark_out ds h
  row_out (ask.PollNext key task) ds seen (reply.Next (Ready None)) h = no_mark_out ds h.0
  row_out (ask.PollNext key task) ds seen (reply.Next Pending) h = no_mark_out ds h.0
  row_out (ask.PollNext key task) ds seen r h = absurd h
  row_out ask.DropSender ds seen r h = none_out ds r reply.Unit (dropped_out Senders ds seen h.0) h.1 refl
  row_out (ask.DropReceiver key) ds seen r h = none_out ds r reply.Unit (dropped_out Receivers ds seen h.0) h.1 refl
  row_out (ask.CloneHandle side) ds seen reply.Made h = raised_out side ds h
  row_out (ask.CloneHandle side) ds seen reply.TooMany h = no_mark_out ds h.0
  row_out (ask.CloneHandle side) ds seen r h = absurd h
  row_out (ask.Upgrade side) ds seen reply.Made h = upgraded_out side ds h
  row_out (ask.Upgrade side) ds seen reply.NotMade h = no_mark_out ds h.0
  row_out (ask.Upgrade side) ds seen reply.TooMany h = no_mark_out ds h.0
  row_out (ask.Upgrade side) ds seen r h = absurd h
  row_out (ask.HandleCount side) ds seen (reply.Count n) h = no_mark_out ds h.0
  row_out (ask.HandleCount side) ds seen r h = absurd h
  row_out ask.IsClosed ds seen (reply.Flag b) h = no_mark_out ds h.0
  row_out ask.IsClosed ds seen r h = absurd h
  row_out ask.IsEmpty ds seen (reply.Flag b) h = no_mark_out ds h.0
  row_out ask.IsEmpty ds seen r h = absurd h
  row_out ask.IsFull ds seen (reply.Flag b) h = no_mark_out ds h.0
  row_out ask.IsFull ds seen r h = absurd h
  row_out ask.Len ds seen (reply.Count n) h = no_mark_out ds h.0
  row_out ask.Len ds seen r h = absurd h
  row_out ask.Capacity ds seen (reply.Cap c) h = no_mark_out ds h.0
  row_out ask.Capacity ds seen r h = absurd h
  row_out ask.IsTerminated ds seen (reply.Flag true) h = no_mark_out ds h.0
  row_out ask.IsTerminated ds seen (reply.Flag false) h = no_mark_out ds h.0
  row_out ask.IsTerminated ds seen r h = absurd h
  row_out ask.PollFinishedSend ds seen r h = none_out ds r _ (no_mark_out ds h.0) h.1 refl
  row_out (ask.RefusePoll line message key) ds seen r h = none_out ds r _ (no_mark_out ds h.0) h.1 (refused_takes line _)
  row_out (ask.GiveUp line message key) ds seen r h = none_out ds r _ (no_mark_out ds h.0) h.1 refl
  row_out (ask.SendIsTerminated b) ds seen r h = none_out ds r _ (no_mark_out ds h.0) h.1 refl
  row_out (ask.SameChannel b) ds seen r h = none_out ds r _ (no_mark_out ds h.0) h.1 refl
  row_out ask.Make ds seen r h = none_out ds r _ (no_mark_out ds h.0) h.1 refl
  row_out ask.DropWeak ds seen r h = none_out ds r _ (no_mark_out ds h.0) h.1 refl
