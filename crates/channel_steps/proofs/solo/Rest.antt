-- What a call that is alone at work does from each of its stages on.
use Rattle.channel_steps.proofs.solo.Words.{◌≡◌, ℕ, zero, suc, ◌+◌, ◌==◌, true, if◌then◌else◌, List, [], ◌∷◌, ◌++◌, length, take, drop, Ok, Err, refl, sym, ap, ◌∙◌, arith, append-nil, append_assoc, Option, None, Some, ◌⊎◌, subst, Phase, QueueAsk, Key, Reply, Purpose, Ending, ListenerRef, WaitList, Sends, Receives, Streams, Closings, Making, Side, Stage, Trying, Working, Finished, NextStep, Tries, Works, Ends, ListStep, TellReceive, TellStreams, TellSend, TellSends, TakeRoom, TellAll, Insert, Register, Leave, Lower, Count, Load, Raise, kind_of, ListenError, listeners, count, is_raised, says, line_of, message_of, ask_of, leaving, nothing_kept, ends_by, refused_reply, closer_ending, Channel, Effect, Turned, tells_all, listens, raises, Outcome, Where, answers, ends, over_queue, taken, of_message, of_room, of_rooms, of_closing, says_only, receives_these, receives_several, ReceivesSeveral, closes, RegistersOrGoesOn, PollsSend, PollsReceive, PollsStream, PollsClosing, drops, clones, Alone}
use Rattle.concurrent_queue.specs.declared.call.QueueAsk.TheVariants as ask
use Rattle.channel_calls.specs.declared.ask.ChannelAsk.TheVariants as call
use Rattle.channel_calls.specs.declared.error.Refused.TheVariants as refused
use Rattle.channel_calls.specs.declared.error.TryRecvError.TheVariants as try_recv_error
use Rattle.channel_calls.specs.declared.reply.Reply.TheVariants as reply
use Rattle.channel_calls.specs.declared.stage.Purpose.TheVariants as purpose
use Rattle.channel_calls.specs.declared.stage.Making.TheVariants as making

module _ {T W : Type 0} where
  -- several messages, some of which were taken: the others out of those that are there
  abbrev pub gathers : List T → List T → ℕ → Channel T W → Outcome T W
  gathers [] [] n c = ends [] (says (reply.RecvMany (Err (refused.Plain (if c.queue.closed then try_recv_error.Closed else try_recv_error.Empty))))) c
  gathers [] (v ∷ vs) n c = ends (of_rooms (length (v ∷ vs))) (says (reply.RecvMany (Ok (v ∷ vs)))) c
  gathers (m ∷ ms) vs zero c = ends (of_rooms (length (vs ++ m ∷ []))) (says (reply.RecvMany (Ok (vs ++ m ∷ [])))) (over_queue taken c)
  gathers (m ∷ ms) vs (suc n) c = gathers ms (vs ++ m ∷ []) n (over_queue taken c)

  -- a channel with these messages, of which so many more have left it
  abbrev with_items : List T → ℕ → Channel T W → Channel T W
  with_items ms n c = record c { queue = record c.queue { items = ms; removed = n } }

  -- what was taken, and what is there still, in all
  abbrev all_of_them : List T → List T → ℕ → Channel T W → Outcome T W
  all_of_them ws rest n c = ends (of_rooms (length ws)) (says (reply.RecvMany (Ok ws))) (with_items rest n c)

  gathers_on : (ms vs : List T) (v : T) (n k : ℕ) (c : Channel T W)
      → gathers ms (v ∷ vs) n (with_items ms k c) ≡ all_of_them ((v ∷ vs) ++ take (suc n) ms) (drop (suc n) ms) (k + length (take (suc n) ms)) c
  gathers_on [] vs v n k c =
      let none : k ≡ k + 0 = omega arith in
      ap (λ (i : ℕ). all_of_them (v ∷ vs) [] i c) none ∙ ap (λ (ws : List T). all_of_them ws [] (k + 0) c) (sym (append-nil (v ∷ vs)))
  gathers_on (m ∷ ms) vs v zero k c = refl
  gathers_on (m ∷ ms) vs v (suc n) k c =
      let more : (k + 1) + length (take (suc n) ms) ≡ k + suc (length (take (suc n) ms)) = omega arith in
      gathers_on ms (vs ++ m ∷ []) v n (k + 1) c
      ∙ (ap (λ (i : ℕ). all_of_them ((v ∷ vs ++ m ∷ []) ++ take (suc n) ms) (drop (suc n) ms) i c) more
      ∙ ap (λ (ws : List T). all_of_them ws (drop (suc n) ms) (k + suc (length (take (suc n) ms))) c) (append_assoc (v ∷ vs) (m ∷ []) (take (suc n) ms)))

  gathers_first : (ms : List T) (n k : ℕ) (c : Channel T W) → gathers ms [] n (with_items ms k c) ≡ receives_these (suc n) (take (suc n) ms) (with_items ms k c)
  gathers_first [] n k c = refl
  gathers_first (m ∷ ms) zero k c = refl
  gathers_first (m ∷ ms) (suc n) k c =
      let more : (k + 1) + length (take (suc n) ms) ≡ k + suc (length (take (suc n) ms)) = omega arith in
      gathers_on ms [] m n (k + 1) c ∙ ap (λ (i : ℕ). all_of_them (m ∷ take (suc n) ms) (drop (suc n) ms) i c) more

  -- a call that has room takes them one after another
  pub gathers_all : (n : ℕ) (c : Channel T W) → gathers c.queue.items [] n c ≡ receives_several (suc n) c
  gathers_all n c = gathers_first c.queue.items n c.queue.removed c

  -- a try that begins, by what it asks of the queue and what for; no other asks are made for these
  abbrev pub RestTry : QueueAsk T → Purpose T W → Channel T W → Outcome T W → Type 0
  RestTry (ask.Push m) purpose.TrySend c o = Alone (call.TrySend m) c o
  RestTry (ask.ForcePush m) purpose.ForceSend c o = Alone (call.ForceSend m) c o
  RestTry ask.Pop purpose.TryRecv c o = Alone call.TryRecv c o
  RestTry ask.Pop (purpose.RecvMany g) c o = o ≡ gathers c.queue.items g.taken g.more c
  RestTry ask.Close (purpose.Close closer) c o = o ≡ closes closer c
  RestTry (ask.Push m) (purpose.Poll Sends key task) c o = PollsSend m key task c o
  RestTry ask.Pop (purpose.Poll Receives key task) c o = PollsReceive key task c o
  RestTry ask.Pop (purpose.Poll Streams key task) c o = PollsStream key task c o
  RestTry ask.IsClosed (purpose.Poll Closings key task) c o = PollsClosing key task c o
  RestTry ask.IsClosed purpose.Ask c o = Alone call.IsClosed c o
  RestTry ask.IsEmpty purpose.Ask c o = Alone call.IsEmpty c o
  RestTry ask.IsFull purpose.Ask c o = Alone call.IsFull c o
  RestTry ask.Len purpose.Ask c o = Alone call.Len c o
  RestTry ask.Capacity purpose.Ask c o = Alone call.Capacity c o
  RestTry ask.IsClosed purpose.IsTerminated c o = Alone call.IsTerminated c o
  RestTry ask.IsClosed (purpose.Upgrade side) c o = Alone (call.Upgrade side) c o
  RestTry a x c o = Unit {0}

  -- the lists that a closing still tells
  abbrev pub of_closing_from : WaitList → List (Channel T W → Effect T W)
  of_closing_from Sends = of_closing
  of_closing_from Receives = tells_all Receives ∷ tells_all Streams ∷ tells_all Closings ∷ []
  of_closing_from Streams = tells_all Streams ∷ tells_all Closings ∷ []
  of_closing_from Closings = tells_all Closings ∷ []

  abbrev pub RestLoad : Side → Making → Channel T W → Outcome T W → Type 0
  RestLoad side making.Clone c o = o ≡ clones side c
  RestLoad side making.Upgrade c o = o ≡ (if count side c.wait_lists == 0 then answers reply.NotMade nothing_kept c else clones side c)

  abbrev pub RestWork : ListStep T W → Channel T W → Outcome T W → Type 0
  RestWork (TellReceive x) c o = o ≡ ends of_message x c
  RestWork (TellStreams x) c o = o ≡ ends (tells_all Streams ∷ []) x c
  RestWork (TellSend x) c o = o ≡ ends of_room x c
  RestWork (TellSends n x) c o = o ≡ ends (of_rooms n) x c
  RestWork (TakeRoom n) c o = ReceivesSeveral n c o
  RestWork (TellAll line closer) c o = o ≡ ends (of_closing_from line) (closer_ending closer true) c
  RestWork (Insert w task) c o =
      ((key : Key) × (kind_of (listeners (line_of w) c.wait_lists) key ≡ None) × RestTry (ask_of w) (purpose.Poll (line_of w) (Some key) task) (listens (line_of w) key c).channel o)
      ⊎ ((error : ListenError) × (o ≡ answers (refused_reply (line_of w) error) (leaving None (message_of w)) c))
  RestWork (Register w key task) c o = RegistersOrGoesOn w key task c o (λ d. RestTry (ask_of w) (purpose.Poll (line_of w) None task) d o)
  RestWork (Leave x) c o = o ≡ ends [] x c
  RestWork (Lower side key) c o = o ≡ drops side key c
  RestWork (Count side) c o = o ≡ says_only (reply.Count (count side c.wait_lists)) c
  RestWork (Load side m) c o = RestLoad side m c o
  RestWork (Raise side n m) c o =
      Where (is_raised side n c.wait_lists) (o ≡ answers reply.Made nothing_kept (raises side n c).channel) (RestLoad side m c o)

  abbrev pub RestTurn : NextStep T W → Channel T W → Outcome T W → Type 0
  RestTurn (Tries a x) c o = RestTry a x c o
  RestTurn (Works w) c o = RestWork w c o
  RestTurn (Ends x kept) c o = o ≡ answers x kept c

  -- at a stage; where the queue is being asked, of the channel at the beginning of this try
  abbrev pub RestStage : Stage (Phase T) T W → Channel T W → Outcome T W → Type 0
  RestStage (Trying f x) c o = RestTry f.ask x c o
  RestStage (Working w) c o = RestWork w c o
  RestStage (Finished kept) c o = ⊥

  -- a turn that was taken
  pub turn_rests : (turn : NextStep T W) (s : Stage (Phase T) T W) (c : Channel T W) (o : Outcome T W) → Turned turn None s → RestStage s c o → RestTurn turn c o
  turn_rests (Ends x kept) s c o h k = absurd (let no : (let y : Option (Reply T) = None in y) ≡ Some x = h.0 in cc)
  turn_rests turn s c o h k = subst (λ (z : Stage (Phase T) T W). RestStage z c o) h.1 k

  left : (c : Channel T W) (o : Outcome T W) (x : Reply T) (message : Option T) (held : Option ListenerRef) → RestTurn (ends_by (record { reply = x; message = message; held = held })) c o → o ≡ ends [] (record { reply = x; message = message; held = held }) c
  left c o x message None k = k
  left c o x message (Some h) k = k

  pub ends_rest : (c : Channel T W) (o : Outcome T W) (x : Ending T) → RestTurn (ends_by x) c o → o ≡ ends [] x c
  ends_rest c o x k = left c o x.reply x.message x.held k
