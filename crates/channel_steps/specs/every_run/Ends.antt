-- What is over stays over: a channel that is closed, with nothing there and nothing on its way.
use Rattle.std.specs.Prelude.{◌≡◌, ℕ, List, [], ◌∷◌, Option, None, Some, Ok, Err}
use Rattle.channel_calls.specs.declared.error.Refused.TheVariants as refused
use Rattle.channel_calls.specs.declared.error.TryRecvError.TheVariants as try_recv_error
use Rattle.channel_calls.specs.declared.mark.Mark.{Mark}
use Rattle.channel_calls.specs.declared.mark.Mark.TheVariants.{Append, Take, TakeDisplaced, Replace, Close}
use Rattle.channel_calls.specs.declared.reply.Reply.{Reply}
use Rattle.channel_calls.specs.declared.reply.Reply.TheVariants as reply
use Rattle.futures.specs.declared.task.Poll.TheVariants.{Ready}
use Rattle.channel_steps.specs.Moments.{Spent, Once}
use Rattle.channel_steps.specs.Configuration.{ActiveCall, Configuration, Steps}
use Rattle.channel_steps.specs.Run.{IsRun, NextConfiguration}
use Rattle.channel_steps.specs.declared.party.Entry.{Entry}
use Rattle.channel_steps.specs.declared.run.Step.{Step}
use Rattle.channel_steps.specs.declared.run.Step.TheVariants as step

-- a mark of a step that brings no message, takes none and closes nothing
abbrev pub IsStill : Mark → Type 0
IsStill Append = ⊥
IsStill Take = ⊥
IsStill TakeDisplaced = ⊥
IsStill Replace = ⊥
IsStill Close = ⊥
IsStill m = Unit {0}

module _ {T : Type 0} where
  abbrev pub AllStill : List (Entry T) → Type 0
  AllStill [] = Unit {0}
  AllStill (e ∷ es) = IsStill e.mark × AllStill es

  -- replies that say that no message will come any more
  abbrev pub SaysTheEnd : Reply T → Type 0
  SaysTheEnd (reply.TryRecv (Err try_recv_error.Closed)) = Unit {0}
  SaysTheEnd (reply.RecvMany (Err (refused.Plain try_recv_error.Closed))) = Unit {0}
  SaysTheEnd (reply.RecvPoll (Ready (Err (refused.Plain e)))) = Unit {0}
  SaysTheEnd (reply.Next (Ready None)) = Unit {0}
  SaysTheEnd r = ⊥

  -- replies with a message out of the channel: one that was received, or displaced
  abbrev pub GivesMessage : Reply T → Type 0
  GivesMessage (reply.TryRecv (Ok m)) = Unit {0}
  GivesMessage (reply.RecvMany (Ok (m ∷ ms))) = Unit {0}
  GivesMessage (reply.RecvPoll (Ready (Ok m))) = Unit {0}
  GivesMessage (reply.Next (Ready (Some (Ok m)))) = Unit {0}
  GivesMessage (reply.ForceSend (Ok (Some m))) = Unit {0}
  GivesMessage r = ⊥

  -- a step that ended its call with such a reply
  abbrev pub Replies : (Reply T → Type 0) → Option (Reply T) → Type 0
  Replies P None = ⊥
  Replies P (Some r) = P r

module _ {T W : Type 0} where
  abbrev pub Each : (ActiveCall T W → Type 0) → List (ActiveCall T W) → Type 0
  Each P [] = Unit {0}
  Each P (u ∷ us) = P u × Each P us

  -- this party has no call under way: each call that it begins from here on is a later one
  abbrev pub IsIdle : ℕ → Configuration T W → Type 0
  IsIdle p s = Each (λ u. u.party ≡ p → ⊥) s.under_way

  -- if the channel was over at a moment of a call under way, it is over now. So it is in a channel that was just opened,
  -- where none is under way
  abbrev pub KnowsTheEnd : Configuration T W → Type 0
  KnowsTheEnd s = Each (λ u. Once Spent u.seen → Spent s.now) s.under_way

  -- no step of this party gives a message
  abbrev pub GetsNothing : ℕ → List (Step T W) → List (Entry T) → Type 0
  GetsNothing p (step.Step q ∷ xs) (e ∷ es) = (q ≡ p → Replies GivesMessage e.reply → ⊥) × GetsNothing p xs es
  GetsNothing p (step.Begin q ask ∷ xs) (e ∷ es) = GetsNothing p xs es
  GetsNothing p xs es = Unit {0}

  -- after a run the channel is over still, nothing was brought or taken, and nothing left or came
  pub record StaysOver (s : Configuration T W) (trace : List (Entry T)) (t : Configuration T W) : Type 0 where
    pub over : Spent t.now
    pub still : AllStill trace
    pub gone : t.gone ≡ s.gone
    pub came : t.came ≡ s.came

module _ (T W : Type 0) where
  -- in every run from a channel that is over
  abbrev pub EndIsForGood : Type 0
  EndIsForGood =
      (s t : Configuration T W) (steps : List (Step T W)) (trace : List (Entry T)) → Spent s.now → IsRun NextConfiguration s steps trace t → StaysOver s trace t

  -- what calls under way know of the end is true after every run, where it was before
  abbrev pub EndIsKnown : Type 0
  EndIsKnown =
      (s t : Configuration T W) (steps : List (Step T W)) (trace : List (Entry T)) → KnowsTheEnd s → IsRun NextConfiguration s steps trace t → KnowsTheEnd t

  -- a call says the end; at any later moment a party has no call under way; no call of it that begins from then on gives a
  -- message
  abbrev pub NothingComesAfterTheEnd : Type 0
  NothingComesAfterTheEnd =
      (start said after later last : Configuration T W) (before between behind : List (Step T W)) (first second third : List (Entry T))
      (p q : ℕ) (e : Entry T) (names : List W)
      → KnowsTheEnd start
      → IsRun NextConfiguration start before first said
      → Steps said p e names after → Replies SaysTheEnd e.reply
      → IsRun NextConfiguration after between second later
      → IsIdle q later
      → IsRun NextConfiguration later behind third last
      → GetsNothing q behind third
