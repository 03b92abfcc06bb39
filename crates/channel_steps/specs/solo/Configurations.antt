-- A call that is made alone, as a run of configurations: it begins in a configuration with nobody at work, makes its steps, and ends.
use Rattle.std.specs.Prelude.{◌≡◌, ℕ, ◌+◌, ◌≤◌, List, [], ◌∷◌, ◌++◌, map, length, None, Some}
use Rattle.event_listener.specs.Notices.{Woken}
use Rattle.channel_calls.specs.Parts.{Parts}
use Rattle.channel_calls.specs.declared.ask.ChannelAsk.{ChannelAsk}
use Rattle.channel_calls.specs.declared.mark.Mark.TheVariants.{Nothing}
use Rattle.channel_calls.specs.declared.reply.Reply.{Reply}
use Rattle.channel_calls.specs.declared.stage.Returned.{Returned}
use Rattle.channel_steps.specs.declared.party.Entry.{Entry}
use Rattle.channel_steps.specs.declared.run.Step.{Step}
use Rattle.channel_steps.specs.declared.run.Step.TheVariants as step
use Rattle.channel_steps.specs.Run.{EachStep, IsRun, NextConfiguration, Begins}
use Rattle.channel_steps.specs.Configuration.{Configuration, Represents}
use Rattle.channel_steps.specs.solo.Alone.{Outcome, Alone}
use Rattle.channel_steps.specs.solo.Run.{HasNextPosition}
use Rattle.channel_calls.specs.declared.whole.Completed.{Completed}

module _ {T : Type 0} where
  -- the last of these answers this and leaves this, and no other answers
  abbrev pub EndsWith : Reply T → Returned T → List (Entry T) → Type 0
  EndsWith reply kept [] = ⊥
  EndsWith reply kept (e ∷ []) = (e.reply ≡ Some reply) × (e.kept ≡ Some kept)
  EndsWith reply kept (e ∷ es) = (e.reply ≡ None) × (e.kept ≡ None) × EndsWith reply kept es

module _ {T W : Type 0} where
  -- steps of the party p, one for each entry
  abbrev pub steps_by : ℕ → List (Entry T) → List (Step T W)
  steps_by p entries = map (λ (e : Entry T). step.Step p) entries

  -- all tasks that these steps wake, in order
  abbrev pub woken_by_steps : (s : Configuration T W) (xs : List (Step T W)) (es : List (Entry T)) (ns : List (Configuration T W)) → EachStep NextConfiguration s xs es ns → List W
  woken_by_steps s (x ∷ xs) (e ∷ es) (n ∷ ns) h = h.0.0 ++ woken_by_steps n xs es ns h.1
  woken_by_steps s xs es ns h = []

  -- a call of the party p begins in the configuration s, makes its steps and ends with this outcome, after which nobody is at work
  pub record LoneRun (s : Configuration T W) (p : ℕ) (ask : ChannelAsk T W) (o : Outcome T W) (t : Configuration T W) : Type 0 where
    pub begun : Configuration T W
    pub begins : Begins s p ask (record { mark = Nothing; reply = None; kept = None }) begun
    pub entries : List (Entry T)
    pub run : IsRun NextConfiguration begun (steps_by p entries) entries t
    pub ends : EndsWith o.reply o.kept entries
    pub woken : woken_by_steps begun (steps_by p entries) entries run.moments run.each ≡ o.woken
    pub over : t.under_way ≡ []

  module _ {S : Type 0} (wakes : S → W → S → Type 0) where
    -- What a call of the party p left that was made alone in the configuration s: what a lone call leaves there, by steps that lead
    -- from configuration to configuration; and where the messages of s were counted, those of the configuration after it are.
    pub record RanInConfigurations (ask : ChannelAsk T W) (sink : S) (messages : ℕ) (done : Completed T)
        (parts' : Parts T W) (sink' : S) (messages' : ℕ) (s : Configuration T W) (p : ℕ) : Type 0 where
      pub outcome : Outcome T W
      pub after : Configuration T W
      pub does : Alone ask s.now outcome
      pub reply : done.reply ≡ outcome.reply
      pub kept : done.kept ≡ outcome.kept
      pub woken : Woken wakes sink outcome.woken sink'
      pub run : LoneRun s p ask outcome after
      pub shown : Represents parts' [] after
      pub now : after.now ≡ outcome.channel
      pub capacity : outcome.channel.queue.capacity ≡ s.now.queue.capacity
      pub accepted : outcome.channel.queue.accepted ≤ s.now.queue.accepted + 1
      pub counted : messages ≡ length s.now.queue.items → messages' ≡ length after.now.queue.items

    -- in every configuration with nobody at work that the cells show, whatever party the call is said to be of
    abbrev pub RunsInConfigurations : ChannelAsk T W → Parts T W → S → ℕ → Completed T → Parts T W → S → ℕ → Type 0
    RunsInConfigurations ask parts sink messages done parts' sink' messages' =
        (s : Configuration T W) (p : ℕ) → HasNextPosition s.now.queue → Represents parts [] s
        → RanInConfigurations ask sink messages done parts' sink' messages' s p
