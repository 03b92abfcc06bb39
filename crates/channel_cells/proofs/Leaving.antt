-- What lies with the seat of a party: what an operation or a handle lends to its calls, and what a call that is over left there.
use Rattle.std.proofs.Common.{◌≡◌, [], ◌∷◌, List, refl, sym, ap, ◌∙◌, subst}
use Rattle.std.specs.Prelude.{Option, None, Some, Result, IfOk, IfSome, is_some}
use Rattle.concurrent_queue.specs.Replies.{is_bounded}
use Rattle.concurrent_queue.specs.declared.cells.QueueForm.{QueueForm}
use Rattle.concurrent_queue.specs.declared.history.seats.IdleSeat.{IdleSeat}
use Rattle.atomic_table.specs.Seated.{TableId}
use Rattle.event_listener.specs.declared.key.Key.{Key}
use Rattle.futures.specs.declared.task.Poll.{Poll}
use Rattle.futures.specs.declared.task.Poll.TheVariants.{Ready, Pending}
use Rattle.channel_calls.specs.Asks.{lent}
use Rattle.channel_calls.specs.Calls.{send_ask, recv_ask, closed_ask, next_ask, made_answer, upgraded_answer}
use Rattle.channel_calls.specs.Listed.{SendLists, is_pending}
use Rattle.channel_calls.specs.declared.ask.ChannelAsk.{ChannelAsk}
use Rattle.channel_calls.specs.declared.ask.ChannelAsk.TheVariants as ask
use Rattle.channel_calls.specs.declared.error.Refused.{Refused}
use Rattle.channel_calls.specs.declared.error.SendError.{SendError}
use Rattle.channel_calls.specs.declared.reply.Reply.{Reply}
use Rattle.channel_calls.specs.declared.reply.Reply.TheVariants as reply
use Rattle.channel_calls.specs.declared.stage.ListenerRef.{ListenerRef}
use Rattle.channel_calls.specs.declared.stage.Returned.{Returned}
use Rattle.channel_calls.specs.declared.stage.Side.{Side}
use Rattle.channel_calls.specs.declared.stage.WaitList.{WaitList}
use Rattle.channel_calls.specs.declared.stage.WaitList.TheVariants.{Sends, Receives, Streams, Closings}
use Rattle.channel_calls.specs.declared.whole.Completed.{Completed}
use Rattle.channel_history.specs.CallEnds.{EndsSo, HasEnded, HasGiven, IsCall, Rests}
use Rattle.channel_history.specs.InHand.{kept_on, lent_by, handles_lent, listed_on}
use Rattle.channel_history.specs.WholeCalls.{MayAsk, HasAnswered, if_made, handle_wanted}
use Rattle.channel_history.specs.declared.party.Belongings.{Belongings}
use Rattle.channel_history.specs.declared.party.Standing.{Standing}
use Rattle.channel_history.proofs.CallEnds.{answered_ends, ended_so, may_ask}
use Rattle.channel_cells.specs.Calls.{HasCalled}
use Rattle.channel_cells.specs.Channel.{form_of, id_of, seat_table, standing_of}
use Rattle.channel_cells.specs.declared.channel.ChannelTable.{ChannelTable}
use Rattle.channel_cells.proofs.Calling.{HasReplied}

-- ---- what a call is lent

module _ {T W : Type 0} (channel : ChannelTable T W) (s : Standing T W) where
  -- a party that rests with what the call is lent may ask it of a channel
  pub may_ask_of : (a : ChannelAsk T W) → IsCall a → Rests (handles_lent a) (lent_by a) s → MayAsk (form_of channel) s a
  may_ask_of a asks rests = may_ask (form_of channel) (ap (λ (f : QueueForm). is_bounded f) channel.table.bounded) s a asks rests

  -- and so may an operation poll that rests with its listener; a finished send has none
  pub may_poll_send : (m : Option T) (key : Option Key) (task : Option W) → (m ≡ None → key ≡ None) → Rests [] (listed_on Sends key) s → MayAsk (form_of channel) s (send_ask m key task)
  may_poll_send m key None finished rests = may_ask_of (ask.RefusePoll Sends m key) tt rests
  may_poll_send None key (Some task) finished rests = may_ask_of ask.PollFinishedSend tt (subst (λ (k : Option Key). Rests [] (listed_on Sends k) s) (finished refl) rests)
  may_poll_send (Some v) key (Some task) finished rests = may_ask_of (ask.PollSend v (lent key) task) tt rests

  pub may_poll_recv : (key : Option Key) (task : Option W) → Rests [] (listed_on Receives key) s → MayAsk (form_of channel) s (recv_ask key task)
  may_poll_recv key None rests = may_ask_of (ask.RefusePoll Receives None key) tt rests
  may_poll_recv key (Some task) rests = may_ask_of (ask.PollRecv (lent key) task) tt rests

  pub may_poll_closed : (key : Option Key) (task : Option W) → Rests [] (listed_on Closings key) s → MayAsk (form_of channel) s (closed_ask key task)
  may_poll_closed key None rests = may_ask_of (ask.RefusePoll Closings None key) tt rests
  may_poll_closed key (Some task) rests = may_ask_of (ask.PollClosed key task) tt rests

  pub may_poll_next : (key : Option Key) (task : Option W) → Rests [] (listed_on Streams key) s → MayAsk (form_of channel) s (next_ask key task)
  may_poll_next key None rests = may_ask_of (ask.RefusePoll Streams None key) tt rests
  may_poll_next key (Some task) rests = may_ask_of (ask.PollNext key task) tt rests

-- ---- what a call left

module _ {T : Type 0} where
  -- what answers so leaves no listener
  pub left_none : (r : Reply T) → ((k : Key) → kept_on r (Some k) ≡ []) → (key : Option Key) → kept_on r key ≡ []
  left_none r never None = refl
  left_none r never (Some k) = never k

  -- where no handle was wanted none was made
  nothing_made : (r : Reply T) → if_made r [] ≡ []
  nothing_made reply.Made = refl
  nothing_made r = refl

  -- a poll leaves a listener to its operation where it is pending
  pub left_listed : {A : Type 0} (of : Poll A → Reply T) (line : WaitList) → ((k : Key) → kept_on (of Pending) (Some k) ≡ listed_on line (Some k)) → (p : Poll A) (key : Option Key)
      → is_some key ≡ is_pending p → kept_on (of p) key ≡ listed_on line key
  left_listed of line same p None listed = refl
  left_listed of line same Pending (Some k) listed = same k
  left_listed of line same (Ready x) (Some k) listed = absurd (cc)

  pub send_listed : (p : Poll (Result Unit (Refused (SendError T) Unit))) (m : Option T) (key : Option Key) → SendLists m p key → kept_on (reply.SendPoll p) key ≡ listed_on Sends key
  send_listed p (Some v) key listed = left_listed reply.SendPoll Sends (λ k. refl) p key listed
  send_listed p None key none = subst (λ (k : Option Key). kept_on (reply.SendPoll p) k ≡ listed_on Sends k) (sym none) refl

module _ {T W : Type 0} where
  -- the party of a call that is over rests with what it left
  pub rests_with : {gave : Completed T → Type 0} {s : Standing T W} {a : ChannelAsk T W} {r : Reply T} {kept : Returned T} {t : Standing T W} (handles : List Side) (listeners : List ListenerRef)
      → HasGiven gave s a r kept t → if_made r (handle_wanted a) ≡ handles → kept_on r kept.key ≡ listeners → Rests handles listeners t
  rests_with handles listeners given made left = (given.idle, λ i. record { lists = given.lists i; handles = (given.handles ∙ made) i; listeners = (given.listeners ∙ left) i })

  -- and that of a call by which no handle is made and no listener is left rests with nothing
  pub called_rests : {table : TableId} {s : Standing T W} {a : ChannelAsk T W} {r : Reply T} (seat : IdleSeat T (Standing T W)) → HasCalled table s a r seat → handle_wanted a ≡ [] → ((k : Key) → kept_on r (Some k) ≡ [])
      → Rests [] [] (standing_of seat)
  called_rests {r = r} seat called wants never = rests_with [] [] called.2 (ap (λ (sides : List Side). if_made r sides) wants ∙ nothing_made r) (left_none r never called.0.key)

  -- with the seat of a clone and of an upgrade lies the handle that it made
  pub clone_rests : (side : Side) {gave : Completed T → Type 0} {s : Standing T W} (r : Reply T) {kept : Returned T} {t : Standing T W} → HasGiven gave s (ask.CloneHandle side) r kept t
      → IfOk (made_answer r) (λ u. Rests (side ∷ []) [] t)
  clone_rests side reply.Made {kept = kept} given = rests_with (side ∷ []) [] given refl (left_none {T = T} reply.Made (λ k. refl) kept.key)
  clone_rests side r given = tt

  pub upgrade_rests : (side : Side) {gave : Completed T → Type 0} {s : Standing T W} (r : Reply T) {kept : Returned T} {t : Standing T W} → HasGiven gave s (ask.Upgrade side) r kept t
      → IfOk (upgraded_answer r) (λ made. IfSome made (λ u. Rests (side ∷ []) [] t))
  upgrade_rests side reply.Made {kept = kept} given = rests_with (side ∷ []) [] given refl (left_none {T = T} reply.Made (λ k. refl) kept.key)
  upgrade_rests side r given = tt

-- ---- the end of a call whose caller doesn't say all that it answered

module _ {T W : Type 0} where
  -- the machine has answered so to this party, which asked this, and the caller says this of it
  abbrev pub AnsweredLike : (Completed T → Type 0) → QueueForm → ChannelAsk T W → Standing T W → Completed T → Type 0
  AnsweredLike like form a now c = like c × ((s : Standing T W) × HasAnswered form s a c.reply c.kept now)

  module _ (like : Completed T → Type 0) {channel : ChannelTable T W} {s : Standing T W} {a : ChannelAsk T W} {r : Reply T} {kept : Returned T} {form : QueueForm} {table : TableId} {now : Standing T W}
      (h : HasReplied channel s a r kept form table now) (is : like (record { reply = r; kept = kept })) where
    pub may_end_like : HasEnded form (AnsweredLike like form a now) now
    may_end_like = answered_ends form s a r kept now h.answered (AnsweredLike like form a now) (is, (s, h.answered))

    pub has_called_like : (seat : IdleSeat T (Standing T W)) → EndsSo form (AnsweredLike like form a now) now (standing_of seat) → seat_table seat ≡ table
        → (c : Completed T) × like c × HasCalled (id_of channel) s a c.reply seat
    has_called_like seat e same =
        let given = ended_so form s a r kept now h.answered (AnsweredLike like form a now) (is, (s, h.answered)) (standing_of seat) e in
        let c : Completed T = given.completed in
        let answered = given.gives.1.1 in
        let own : (standing_of seat).own ≡ answered.rests.own = e.own ∙ sym answered.own in (
          c,
          given.gives.0,
          (
            c.kept,
            same ∙ h.table,
            record {
              idle = given.idle;
              asked = given.asked;
              completed = c;
              gives = refl;
              given = given.given;
              lists = given.lists;
              listeners = ap (λ (b : Belongings W). b.listeners) own ∙ answered.listeners;
              handles = ap (λ (b : Belongings W). b.handles) own ∙ answered.handles;
            },
          ),
        )
