-- What is said of a party call by call.
use Rattle.std.proofs.Common.{◌≡◌, ◌∙◌, [], ◌∷◌, List, ◌++◌, Bool, false, Option, None, Some, Result, Ok, Err, inl, inr, refl, ap, sym, subst, append-nil}
use Rattle.std.proofs.lemmas.List.{append_assoc}
use Rattle.std.proofs.lemmas.List.Elements.{All-append, All-from_recursion}
use Rattle.event_listener.specs.declared.waking.Task.{Task}
use Rattle.channel_calls.specs.declared.ask.ChannelAsk.{ChannelAsk}
use Rattle.channel_calls.specs.declared.reply.Reply.{Reply}
use Rattle.channel_calls.specs.declared.stage.Returned.{Returned}
use Rattle.channel_calls.specs.declared.whole.Completed.{Completed}
use Rattle.channel_history.specs.CallEnds.{HasGiven}
use Rattle.channel_history.specs.declared.party.Standing.{Standing}
use Rattle.atomic_table.specs.Seated.{TableId}
use Rattle.event_listener.specs.declared.key.Key.{Key}
use Rattle.futures.specs.declared.task.Poll.{Poll}
use Rattle.futures.specs.declared.task.Poll.TheVariants.{Ready}
use Rattle.channel_calls.specs.Calls.{made_answer, upgraded_answer, send_ask, recv_ask}
use Rattle.channel_calls.specs.Tried.{polled, received_by, sent_by, sent_reply, sent_left}
use Rattle.channel_calls.specs.Taking.{waited_for}
use Rattle.channel_calls.specs.Turns.{leaving}
use Rattle.event_listener.specs.declared.error.ListenError.{ListenError}
use Rattle.channel_calls.specs.declared.ask.ChannelAsk.TheVariants as ask
use Rattle.channel_calls.specs.declared.error.HandleError.{HandleError}
use Rattle.channel_calls.specs.declared.error.HandleError.TheVariants.{NoMemory, TooMany}
use Rattle.channel_calls.specs.declared.error.RecvError.{RecvError}
use Rattle.channel_calls.specs.declared.error.Refused.{Refused}
use Rattle.channel_calls.specs.declared.error.SendError.{SendError}
use Rattle.channel_calls.specs.declared.error.TryRecvError.{TryRecvError}
use Rattle.channel_calls.specs.declared.error.TrySendError.{TrySendError}
use Rattle.channel_calls.specs.declared.reply.Reply.TheVariants as reply
use Rattle.channel_calls.specs.declared.stage.Side.{Side}
use Rattle.channel_calls.specs.declared.stage.WaitList.{WaitList}
use Rattle.channel_cells.specs.Calls.{HasCalled, HasPolled}
use Rattle.channel_cells.specs.Channel.{standing_of}
use Rattle.channel_history.specs.Party.{fresh}
use Rattle.async_channel.specs.Called.{ClonedSo, HasCounted, HasParted, UpgradedSo, HasOnlyFound, HasReceived, HasSent, IsNotYet, PolledWith, GaveNext, ReceivesOne, SendsThis, WasCalledFrom, WasTold}
use Rattle.async_channel.specs.Parties.{Seat}

module _ {T : Type 0} where
  -- it has made no call since
  pub found_none : {tries : ChannelAsk T Task → Type 0} (s : Standing T Task) → HasOnlyFound tries s s
  found_none {tries = tries} s = record { asks = []; asked = sym (append-nil s.asked); tried = All-from_recursion tries [] tt; answers = []; given = sym (append-nil s.given); each = All-from_recursion (λ (c : Completed T). IsNotYet c.reply) [] tt }

  -- and one more, which found nothing either
  pub found_more : {tries : ChannelAsk T Task → Type 0} {s t u : Standing T Task} {a : ChannelAsk T Task} {r : Reply T} {kept : Returned T} → HasOnlyFound tries s t → HasGiven (λ (c : Completed T). c.reply ≡ r) t a r kept u → tries a → IsNotYet r → HasOnlyFound tries s u
  found_more {tries = tries} {s = s} {a = a} f g so never = record {
    asks = f.asks ++ a ∷ [];
    asked = g.asked ∙ (ap (λ (l : List (ChannelAsk T Task)). l ++ a ∷ []) f.asked ∙ append_assoc s.asked f.asks (a ∷ []));
    tried = All-append tries f.asks (a ∷ []) f.tried (All-from_recursion tries (a ∷ []) (so, tt));
    answers = f.answers ++ g.completed ∷ [];
    given = g.given ∙ (ap (λ (l : List (Completed T)). l ++ g.completed ∷ []) f.given ∙ append_assoc s.given f.answers (g.completed ∷ []));
    each = All-append (λ (c : Completed T). IsNotYet c.reply) f.answers (g.completed ∷ []) f.each (All-from_recursion (λ (c : Completed T). IsNotYet c.reply) (g.completed ∷ []) (subst (λ (x : Reply T). IsNotYet x) (sym g.gives) never, tt));
  }

  -- of a poll it is told what it left as well
  pub given_reply : {s t : Standing T Task} {a : ChannelAsk T Task} {r : Reply T} {kept : Returned T} → HasGiven (λ (c : Completed T). c ≡ record { reply = r; kept = kept }) s a r kept t → HasGiven (λ (c : Completed T). c.reply ≡ r) s a r kept t
  given_reply g = record {
    idle = g.idle;
    asked = g.asked;
    completed = g.completed;
    gives = ap (λ (c : Completed T). c.reply) g.gives;
    given = g.given;
    lists = g.lists;
    listeners = g.listeners;
    handles = g.handles;
  }

  pub found_trans : {tries : ChannelAsk T Task → Type 0} {s t u : Standing T Task} → HasOnlyFound tries s t → HasOnlyFound tries t u → HasOnlyFound tries s u
  found_trans {tries = tries} {s = s} f g = record {
    asks = f.asks ++ g.asks;
    asked = g.asked ∙ (ap (λ (l : List (ChannelAsk T Task)). l ++ g.asks) f.asked ∙ append_assoc s.asked f.asks g.asks);
    tried = All-append tries f.asks g.asks f.tried g.tried;
    answers = f.answers ++ g.answers;
    given = g.given ∙ (ap (λ (l : List (Completed T)). l ++ g.answers) f.given ∙ append_assoc s.given f.answers g.answers);
    each = All-append (λ (c : Completed T). IsNotYet c.reply) f.answers g.answers f.each g.each;
  }

  -- ---- calls that block, after calls that found nothing

  pub sent_after : {table : TableId} {s t : Standing T Task} {m : T} (r : Result Unit (Refused (SendError T) T)) (seat : Seat T) → HasOnlyFound (SendsThis m) s t → HasSent table t m r seat → HasSent table s m r seat
  sent_after r seat f (u, g, last) = (u, found_trans f g, last)

  pub received_after : {table : TableId} {s t : Standing T Task} (r : Result T (Refused RecvError Unit)) (seat : Seat T) → HasOnlyFound ReceivesOne s t → HasReceived table t r seat → HasReceived table s r seat
  received_after r seat f (u, g, last) = (u, found_trans f g, last)

  pub sent_tried : (table : TableId) (s : Standing T Task) (m : T) (r : Result Unit (Refused (SendError T) T)) (sent : Result Unit (Refused (TrySendError T) T)) (seat : Seat T)
      → HasCalled table s (ask.TrySend m) (reply.TrySend sent) seat → sent_by sent ≡ Ok (record { reply = sent_reply r; kept = sent_left r }) → HasSent table s m r seat
  sent_tried table s m r sent seat called is = (s, found_none s, inl (sent, called, is))

  pub received_tried : (table : TableId) (s : Standing T Task) (r : Result T (Refused RecvError Unit)) (received tried : Result T TryRecvError) (seat : Seat T)
      → HasCalled table s ask.TryRecv (reply.TryRecv tried) seat → tried ≡ received → received_by received ≡ Ok (polled (reply.RecvPoll (Ready r)) None) → HasReceived table s r seat
  received_tried table s r received tried seat called same is =
      (s, found_none s, inl (received, subst (λ x. HasCalled table s ask.TryRecv (reply.TryRecv x) seat) same called, is))

  pub sent_polled : (table : TableId) (s t : Standing T Task) (m v : T) (r : Result Unit (Refused (SendError T) T)) (key : Option Key) (task : Option Task) (given : Reply T) (kept : Returned T) (seat : Seat T)
      → HasOnlyFound (SendsThis m) s t → v ≡ m → given ≡ sent_reply r → HasPolled table t (send_ask (Some v) key task) given kept seat → HasSent table s m r seat
  sent_polled table s t m v r key task given kept seat f same is h =
      (t, f, inr (key, task, kept, subst (λ (x : Reply T). HasPolled table t (send_ask (Some m) key task) x kept seat) is (subst (λ (x : T). HasPolled table t (send_ask (Some x) key task) given kept seat) same h)))

  pub received_polled : (table : TableId) (s t : Standing T Task) (r : Result T (Refused RecvError Unit)) (key : Option Key) (task : Option Task) (given : Reply T) (kept : Returned T) (seat : Seat T)
      → HasOnlyFound ReceivesOne s t → given ≡ reply.RecvPoll (Ready r) → HasPolled table t (recv_ask key task) given kept seat → HasReceived table s r seat
  received_polled table s t r key task given kept seat f is h =
      (t, f, inr (key, task, kept, subst (λ (x : Reply T). HasPolled table t (recv_ask key task) x kept seat) is h))

  -- one more call that found nothing
  pub found_call : {tries : ChannelAsk T Task → Type 0} {table : TableId} {s t : Standing T Task} {a : ChannelAsk T Task} (r x : Reply T) (seat : Seat T) → HasOnlyFound tries s t → HasCalled table t a r seat → tries a → r ≡ x → IsNotYet x → HasOnlyFound tries s (standing_of seat)
  found_call r x seat f h so is never = found_more f h.2 so (subst (λ (y : Reply T). IsNotYet y) (sym is) never)

  pub found_poll : {tries : ChannelAsk T Task → Type 0} {table : TableId} {s t : Standing T Task} {a : ChannelAsk T Task} {kept : Returned T} (r x : Reply T) (seat : Seat T) → HasOnlyFound tries s t → HasPolled table t a r kept seat → tries a → r ≡ x → IsNotYet x → HasOnlyFound tries s (standing_of seat)
  found_poll r x seat f h so is never = found_more f (given_reply h.1) so (subst (λ (y : Reply T). IsNotYet y) (sym is) never)

  -- a poll of a send whose message is another name of this is one of this message
  pub polls_this : {m v : T} (key : Option Key) (task : Option Task) → v ≡ m → SendsThis m (send_ask (Some v) key task)
  polls_this key task same = inr (key, task, ap (λ x. send_ask (Some x) key task) same)

  -- and calls that found no place for it found none for this
  pub found_named : {s t : Standing T Task} {m v : T} → v ≡ m → HasOnlyFound (SendsThis v) s t → HasOnlyFound (SendsThis m) s t
  found_named {s = s} {t = t} same f = subst (λ x. HasOnlyFound (SendsThis x) s t) same f

  -- ---- a poll, by what its operation had and has

  pub polled_kept : (asks : Option Key → Option Task → ChannelAsk T Task) (table : TableId) (s before : Standing T Task) (k l : Option Key) (task : Option Task) (r : Reply T) (kept : Returned T) (seat : Seat T) (next : Option Key) (now : Standing T Task)
      → s ≡ before → k ≡ l → next ≡ kept.key → now ≡ standing_of seat → HasPolled table s (asks k task) r kept seat → PolledWith before (asks l) r next kept.message now
  polled_kept asks table s before k l task r kept seat next now same is left stands h = (
    task,
    subst (λ (n : Option Key). HasGiven (λ (c : Completed T). c ≡ record { reply = r; kept = leaving n kept.message }) before (asks l task) r (leaving n kept.message) now) (sym left)
        (subst (λ (x : Standing T Task). HasGiven (λ (c : Completed T). c ≡ record { reply = r; kept = kept }) before (asks l task) r kept x) (sym stands)
        (subst (λ (x : Option Key). HasGiven (λ (c : Completed T). c ≡ record { reply = r; kept = kept }) before (asks x task) r kept (standing_of seat)) is
        (subst (λ (x : Standing T Task). HasGiven (λ (c : Completed T). c ≡ record { reply = r; kept = kept }) x (asks k task) r kept (standing_of seat)) same h.1))),
  )

  -- ---- a clone and an upgrade, by what the channel answered

  made_is : (u : Unit {0}) (r : Reply T) → Ok u ≡ made_answer r → r ≡ reply.Made
  made_is u reply.Made same = refl
  made_is u r same = absurd (cc)

  upgraded_is : (u : Unit {0}) (r : Reply T) → Ok (Some u) ≡ upgraded_answer r → r ≡ reply.Made
  upgraded_is u reply.Made same = refl
  upgraded_is u reply.NotMade same = absurd (cc)
  upgraded_is u r same = absurd (cc)

  not_upgraded_is : (r : Reply T) → Ok None ≡ upgraded_answer r → r ≡ reply.NotMade
  not_upgraded_is reply.Made same = absurd (cc)
  not_upgraded_is reply.NotMade same = refl
  not_upgraded_is r same = absurd (cc)

  module _ (called : Seat T → Type 0) (table : TableId) (side : Side) (A : Type 0) where
    -- one that counted a handle, which was given to a seat of its own
    counted_so : (a : ChannelAsk T Task) (r : Reply T) (s : Standing T Task) (seat : Seat T) → r ≡ reply.Made → s ≡ fresh → HasCalled table s a r seat
        → WasTold called (HasParted table (standing_of seat)) → WasTold called (HasCounted table a)
    counted_so a r s seat is new h told = (
      told.0,
      told.1,
      (
        standing_of seat,
        h.0,
        subst (λ (x : Standing T Task). HasGiven (λ (c : Completed T). c.reply ≡ reply.Made) x a reply.Made h.0 (standing_of seat)) new
            (subst (λ (x : Reply T). HasGiven (λ (c : Completed T). c.reply ≡ x) s a x h.0 (standing_of seat)) is h.2),
        told.2,
      ),
    )

    pub cloned_so : (u : Unit {0}) (b : A) (r : Reply T) (s : Standing T Task) (seat : Seat T) → s ≡ fresh → HasCalled table s (ask.CloneHandle side) r seat → Ok u ≡ made_answer r
        → WasTold called (HasParted table (standing_of seat)) → ClonedSo called {A = A} table side (Ok b)
    cloned_so u b r s seat new h same told = counted_so (ask.CloneHandle side) r s seat (made_is u r same) new h told

    pub not_cloned_so : (e : HandleError) (r : Reply T) (s : Standing T Task) (seat : Seat T) → e ≡ TooMany → s ≡ fresh → called seat → HasCalled table s (ask.CloneHandle side) r seat → Err e ≡ made_answer r
        → ClonedSo called {A = A} table side (Err e)
    not_cloned_so TooMany r s seat is new told h same = (r, sym same, (seat, told, subst (λ (x : Standing T Task). HasCalled table x (ask.CloneHandle side) r seat) new h))
    not_cloned_so NoMemory r s seat is new told h same = absurd (let never : NoMemory ≡ TooMany = is in cc)

    pub upgraded_so : (u : Unit {0}) (b : A) (r : Reply T) (s : Standing T Task) (seat : Seat T) → s ≡ fresh → HasCalled table s (ask.Upgrade side) r seat → Ok (Some u) ≡ upgraded_answer r
        → WasTold called (HasParted table (standing_of seat)) → UpgradedSo called {A = A} table side (Ok (Some b))
    upgraded_so u b r s seat new h same told = counted_so (ask.Upgrade side) r s seat (upgraded_is u r same) new h told

    pub nobody_so : (r : Reply T) (s : Standing T Task) (seat : Seat T) → s ≡ fresh → called seat → HasCalled table s (ask.Upgrade side) r seat → Ok None ≡ upgraded_answer r
        → UpgradedSo called {A = A} table side (Ok None)
    nobody_so r s seat new told h same = (
      seat,
      told,
      subst (λ (x : Reply T). HasCalled table fresh (ask.Upgrade side) x seat) (not_upgraded_is r same)
          (subst (λ (x : Standing T Task). HasCalled table x (ask.Upgrade side) r seat) new h),
    )

    pub not_upgraded_so : (e : HandleError) (r : Reply T) (s : Standing T Task) (seat : Seat T) → e ≡ TooMany → s ≡ fresh → called seat → HasCalled table s (ask.Upgrade side) r seat → Err e ≡ upgraded_answer r
        → UpgradedSo called {A = A} table side (Err e)
    not_upgraded_so TooMany r s seat is new told h same = (r, sym same, (seat, told, subst (λ (x : Standing T Task). HasCalled table x (ask.Upgrade side) r seat) new h))
    not_upgraded_so NoMemory r s seat is new told h same = absurd (let never : NoMemory ≡ TooMany = is in cc)

  -- an operation that has no message was given up, of which the watch was told
  pub given_up_so : (called : Seat T → Type 0) (table : TableId) (s : Standing T Task) (a : ChannelAsk T Task) (back : Option T) (seat : Seat T) → back ≡ None → called seat → HasCalled table s a (reply.GivenUp back) seat
      → WasCalledFrom called table s a (reply.GivenUp None)
  given_up_so called table s a back seat none told h = (seat, told, subst (λ (x : Option T). HasCalled table s a (reply.GivenUp x) seat) none h)

  -- of a send that blocks, whose message is another name of this
  pub sent_named : {table : TableId} {s : Standing T Task} {m v : T} (r : Result Unit (Refused (SendError T) T)) (seat : Seat T) → v ≡ m → HasSent table s v r seat → HasSent table s m r seat
  sent_named {table = table} {s = s} r seat same h = subst (λ (x : T). HasSent table s x r seat) same h

  -- and of one that may have a message, by what it had
  pub given_up_of : (called : Seat T → Type 0) (table : TableId) (s t : Standing T Task) (line : WaitList) (m n : Option T) (k l : Option Key) (back given : Option T) (seat : Seat T) → s ≡ t → m ≡ n → k ≡ l → given ≡ back
      → called seat → HasCalled table s (ask.GiveUp line m k) (reply.GivenUp given) seat → WasCalledFrom called table t (ask.GiveUp line n l) (reply.GivenUp back)
  given_up_of called table s t line m n k l back given seat stood message key gave told h = (
    seat,
    told,
    subst (λ (x : Option T). HasCalled table t (ask.GiveUp line n l) (reply.GivenUp x) seat) gave
        (subst (λ (x : Option Key). HasCalled table t (ask.GiveUp line n x) (reply.GivenUp given) seat) key
        (subst (λ (x : Option T). HasCalled table t (ask.GiveUp line x k) (reply.GivenUp given) seat) message
        (subst (λ (x : Standing T Task). HasCalled table x (ask.GiveUp line m k) (reply.GivenUp given) seat) stood h))),
  )

  -- a call that blocks, by the answer that its watch was told of
  pub sent_so : (called : Seat T → Type 0) (table : TableId) (s : Standing T Task) (m : T) (r given : Result Unit (Refused (SendError T) T)) (seat : Seat T) → s ≡ fresh → r ≡ given → called seat → HasSent table s m given seat
      → WasTold called (HasSent table fresh m r)
  sent_so called table s m r given seat new same told h =
      (seat, told, subst (λ (x : Result Unit (Refused (SendError T) T)). HasSent table fresh m x seat) (sym same) (subst (λ (x : Standing T Task). HasSent table x m given seat) new h))

  pub received_so : (called : Seat T → Type 0) (table : TableId) (s : Standing T Task) (r given : Result T (Refused RecvError Unit)) (seat : Seat T) → s ≡ fresh → r ≡ given → called seat → HasReceived table s given seat
      → WasTold called (HasReceived table fresh r)
  received_so called table s r given seat new same told h =
      (seat, told, subst (λ (x : Result T (Refused RecvError Unit)). HasReceived table fresh x seat) (sym same) (subst (λ (x : Standing T Task). HasReceived table x given seat) new h))

  -- and a walk that had not ended gave this by it
  pub gave_so : (called : Seat T → Type 0) (table : TableId) (ended : Bool) (item : Option (Result T ListenError)) (r : Result T (Refused RecvError Unit)) → ended ≡ false → waited_for item ≡ r → WasTold called (HasReceived table fresh r)
      → GaveNext called table ended item
  gave_so called table ended item r going is told =
      subst (λ (b : Bool). GaveNext called table b item) (sym going) (subst (λ (x : Result T (Refused RecvError Unit)). WasTold called (HasReceived table fresh x)) (sym is) told)
