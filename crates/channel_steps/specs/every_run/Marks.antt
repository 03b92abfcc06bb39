-- The marks of a call: all that its replies' rows name, and of a call under way those that it has made of them.
use Rattle.std.specs.Prelude.{◌≡◌, ◌≤◌, List, [], ◌∷◌, ◌++◌, map, length, ◌⊎◌}
use Rattle.channel_calls.specs.Marks.{up}
use Rattle.channel_calls.specs.declared.ask.ChannelAsk.{ChannelAsk}
use Rattle.channel_calls.specs.declared.ask.ChannelAsk.TheVariants as ask
use Rattle.channel_calls.specs.declared.mark.Mark.{Mark}
use Rattle.channel_calls.specs.declared.mark.Mark.TheVariants.{Append, Take, TakeDisplaced, Replace, Close, SenderDown, ReceiverDown}
use Rattle.channel_steps.specs.Moments.{MarkedMoment}
use Rattle.channel_steps.specs.Configuration.{ActiveCall}

-- each of them takes a message
abbrev pub AreTakings : List Mark → Type 0
AreTakings [] = Unit {0}
AreTakings (m ∷ ms) = (m ≡ Take) × AreTakings ms

module _ {T W : Type 0} where
  -- all marks of a call that asks this, whatever it answers
  abbrev pub AreMarksOf : ChannelAsk T W → List Mark → Type 0
  AreMarksOf (ask.TrySend m) ms = (ms ≡ []) ⊎ (ms ≡ Append ∷ [])
  AreMarksOf (ask.PollSend m key task) ms = (ms ≡ []) ⊎ (ms ≡ Append ∷ [])
  AreMarksOf (ask.ForceSend m) ms = (ms ≡ []) ⊎ ((ms ≡ Append ∷ []) ⊎ ((ms ≡ Replace ∷ []) ⊎ (ms ≡ TakeDisplaced ∷ Append ∷ [])))
  AreMarksOf ask.TryRecv ms = (ms ≡ []) ⊎ (ms ≡ Take ∷ [])
  AreMarksOf (ask.RecvMany n) ms = AreTakings ms × (length ms ≤ n)
  AreMarksOf (ask.PollRecv key task) ms = (ms ≡ []) ⊎ (ms ≡ Take ∷ [])
  AreMarksOf (ask.PollNext key task) ms = (ms ≡ []) ⊎ (ms ≡ Take ∷ [])
  AreMarksOf ask.Close ms = (ms ≡ []) ⊎ (ms ≡ Close ∷ [])
  AreMarksOf ask.DropSender ms = (ms ≡ SenderDown ∷ []) ⊎ (ms ≡ SenderDown ∷ Close ∷ [])
  AreMarksOf (ask.DropReceiver key) ms = (ms ≡ ReceiverDown ∷ []) ⊎ (ms ≡ ReceiverDown ∷ Close ∷ [])
  AreMarksOf (ask.CloneHandle side) ms = (ms ≡ []) ⊎ (ms ≡ up side ∷ [])
  AreMarksOf (ask.Upgrade side) ms = (ms ≡ []) ⊎ (ms ≡ up side ∷ [])
  AreMarksOf a ms = ms ≡ []

  abbrev pub marks_of : List (MarkedMoment T W) → List Mark
  marks_of ds = map (λ (d : MarkedMoment T W). d.mark) ds

  -- the marks that a call under way has made are the first of all that it makes
  pub record BeginsItsMarks (u : ActiveCall T W) : Type 0 where
    pub later : List Mark
    pub all : AreMarksOf u.ask (marks_of u.marks ++ later)
