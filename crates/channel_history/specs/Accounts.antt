-- Whose the messages are that came into a channel and left it, by what each party's calls asked and gave.
use Rattle.std.specs.Prelude.{◌≡◌, ℕ, ◌==◌, List, [], ◌∷◌, ◌++◌, if◌then◌else◌, Some, Ok}
use Rattle.concurrent_queue.specs.Contents.{Contents}
use Rattle.concurrent_queue.specs.declared.cells.QueueForm.{QueueForm}
use Rattle.concurrent_queue.specs.machine.Places.{Each}
use Rattle.futures.specs.declared.task.Poll.TheVariants.{Ready}
use Rattle.channel_calls.specs.declared.ask.ChannelAsk.{ChannelAsk}
use Rattle.channel_calls.specs.declared.ask.ChannelAsk.TheVariants as ask
use Rattle.channel_calls.specs.declared.reply.Reply.{Reply}
use Rattle.channel_calls.specs.declared.reply.Reply.TheVariants as reply
use Rattle.channel_calls.specs.declared.whole.Completed.{Completed}
use Rattle.channel_calls.specs.Moves.{Channel}
use Rattle.channel_steps.specs.Answers.{Keeps, Met}
use Rattle.channel_steps.specs.Configuration.{ActiveCall, Configuration, brought, gone_by}
use Rattle.channel_steps.specs.Moments.{MarkedMoment}
use Rattle.channel_steps.specs.every_run.Marked.{brought_by}
use Rattle.channel_history.specs.History.{IsChannelHistory}
use Rattle.channel_history.specs.Party.{standing_of}
use Rattle.channel_history.specs.Says.{HistorySays, configuration_of}
use Rattle.channel_history.specs.declared.party.Standing.{Standing}

module _ {T : Type 0} where
  -- the messages that a call took out: those that it gave, or the one that it displaced
  abbrev pub taken_of : Reply T → List T
  taken_of (reply.TryRecv (Ok m)) = m ∷ []
  taken_of (reply.RecvMany (Ok ms)) = ms
  taken_of (reply.RecvPoll (Ready (Ok m))) = m ∷ []
  taken_of (reply.Next (Ready (Some (Ok m)))) = m ∷ []
  taken_of (reply.ForceSend (Ok (Some m))) = m ∷ []
  taken_of r = []

  -- messages, each with the number of a party; and those of one party, in their order
  abbrev pub messages : List (ℕ × T) → List T
  messages [] = []
  messages (x ∷ xs) = x.1 ∷ messages xs

  abbrev pub of_party : ℕ → List (ℕ × T) → List T
  of_party p [] = []
  of_party p (x ∷ xs) = if x.0 == p then x.1 ∷ of_party p xs else of_party p xs

module _ {T W : Type 0} where
  -- the message that a call brought in
  abbrev pub accepted_of : ChannelAsk T W → Reply T → List T
  accepted_of (ask.TrySend m) (reply.TrySend (Ok u)) = m ∷ []
  accepted_of (ask.ForceSend m) (reply.ForceSend (Ok o)) = m ∷ []
  accepted_of (ask.PollSend m l task) (reply.SendPoll (Ready (Ok u))) = m ∷ []
  accepted_of a r = []

  -- what calls brought in and took out that have ended, each with what it asked and gave
  abbrev pub all_accepted : List (ChannelAsk T W × Completed T) → List T
  all_accepted [] = []
  all_accepted (c ∷ cs) = accepted_of c.0 c.1.reply ++ all_accepted cs

  abbrev pub all_taken : List (ChannelAsk T W × Completed T) → List T
  all_taken [] = []
  all_taken (c ∷ cs) = taken_of c.1.reply ++ all_taken cs

  abbrev pub asked_in : List (ChannelAsk T W × Completed T) → List (ChannelAsk T W)
  asked_in [] = []
  asked_in (c ∷ cs) = c.0 ∷ asked_in cs

  abbrev pub given_in : List (ChannelAsk T W × Completed T) → List (Completed T)
  given_in [] = []
  given_in (c ∷ cs) = c.1 ∷ given_in cs

  -- what these marks brought in, of a call that brings this, and what they took out
  abbrev pub marked_in : List T → List (MarkedMoment T W) → List T
  marked_in message [] = []
  marked_in message (d ∷ ds) = brought_by d.mark message ++ marked_in message ds

  abbrev pub marked_out : List (MarkedMoment T W) → List T
  marked_out [] = []
  marked_out (d ∷ ds) = gone_by d.mark d.before.queue.items ++ marked_out ds

  -- of a party's call under way, if there is one, what it asks, and what it has brought in and taken out by its marks
  abbrev pub of_call : {X : Type 0} → (ActiveCall T W → List X) → ℕ → List (ActiveCall T W) → List X
  of_call f p [] = []
  of_call f p (u ∷ us) = if u.party == p then f u else of_call f p us

  abbrev pub asks_in : ActiveCall T W → List (ChannelAsk T W)
  asks_in u = u.ask ∷ []

  abbrev pub brings_in : ActiveCall T W → List T
  brings_in u = marked_in (brought u.ask) u.marks

  abbrev pub takes_out : ActiveCall T W → List T
  takes_out u = marked_out u.marks

  -- a call that asked this was answered so: its marks and moments are what the row of this reply says, and it left its operation what
  -- it says. A pending one left a listener
  abbrev pub IsAnswered : ChannelAsk T W → Completed T → Type 0
  IsAnswered a c = (ds : List (MarkedMoment T W)) × (seen : List (Channel T W)) × Met a ds seen c.reply × Keeps a c.reply c.kept

  -- a party has asked and been given this, and has brought these in and taken those out: by its calls that have ended, one after
  -- another, and by its call under way as far as it has come
  pub record PartyAccount (p : ℕ) (asked : List (ChannelAsk T W)) (given : List (Completed T)) (accepted taken : List T) (us : List (ActiveCall T W)) : Type 0 where
    pub calls : List (ChannelAsk T W × Completed T)
    pub asked_so : asked ≡ asked_in calls ++ of_call asks_in p us
    pub given_so : given ≡ given_in calls
    pub answered : Each (λ (c : ChannelAsk T W × Completed T). IsAnswered c.0 c.1) calls
    pub accepted_so : accepted ≡ all_accepted calls ++ of_call brings_in p us
    pub taken_so : taken ≡ all_taken calls ++ of_call takes_out p us

  -- what came into a channel and what left it is what parties brought and took who have asked and been given this
  pub record Accounts (asked : ℕ → List (ChannelAsk T W)) (given : ℕ → List (Completed T)) (s : Configuration T W) : Type 0 where
    pub accepted : List (ℕ × T)
    pub taken : List (ℕ × T)
    pub all_came : messages accepted ≡ s.came
    pub all_left : messages taken ≡ s.gone
    pub each : (p : ℕ) → PartyAccount p (asked p) (given p) (of_party p accepted) (of_party p taken) s.under_way

module _ (T W : Type 0) where
  -- each message that came in or left is a party's, by its view
  abbrev pub HistoriesAreAccounted : Type 0
  HistoriesAreAccounted =
      (form : QueueForm) (views : List (Standing T W)) (cells : Contents T) (senders receivers : ℕ) (h : IsChannelHistory form views cells senders receivers)
      (says : HistorySays form views cells senders receivers h)
      → Accounts (λ p. (standing_of views p).asked) (λ p. (standing_of views p).given) (configuration_of form views cells senders receivers h says)
