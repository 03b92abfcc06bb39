-- A channel with calls under way, seen without its cells, and what one step of one of them does.
use Rattle.std.specs.Prelude.{◌≡◌, ℕ, ◌+◌, ◌<◌, ◌≤◌, ◌⊎◌, List, [], ◌∷◌, ◌++◌, length, take, Option, None, Some, map, slice_get, slice_set}
use Rattle.std.specs.List.{remove}
use Rattle.concurrent_queue.specs.Queue.{Queue, Phase, IsInRange}
use Rattle.concurrent_queue.specs.Contents.{Contents}
use Rattle.concurrent_queue.specs.Step.{ActiveQueueCall, FitsAt, chain_after}
use Rattle.concurrent_queue.specs.declared.cells.QueueForm.{QueueForm}
use Rattle.concurrent_queue.specs.declared.cells.QueueForm.TheVariants.{Bounded, Unbounded}
use Rattle.event_listener.specs.Notices.{Woken}
use Rattle.channel_calls.specs.Asks.{kept_by}
use Rattle.channel_calls.specs.Parts.{Parts}
use Rattle.channel_calls.specs.Moves.{Channel, channel, Moves, seats, phase, OnePlace}
use Rattle.channel_calls.specs.declared.ask.ChannelAsk.{ChannelAsk}
use Rattle.channel_calls.specs.declared.ask.ChannelAsk.TheVariants.{TrySend, ForceSend, PollSend}
use Rattle.channel_calls.specs.declared.call.ChannelCall.{ChannelCall}
use Rattle.channel_calls.specs.declared.mark.Mark.{Mark}
use Rattle.channel_calls.specs.declared.mark.Mark.TheVariants.{Append, Take, TakeDisplaced, Replace}
use Rattle.channel_calls.specs.declared.reply.Reply.{Reply}
use Rattle.channel_calls.specs.declared.stage.Returned.{Returned}
use Rattle.channel_calls.specs.declared.stage.Stage.{Stage}
use Rattle.channel_calls.specs.declared.stage.Stage.TheVariants.{Finished}
use Rattle.channel_steps.specs.Answers.{Met, Keeps}
use Rattle.channel_steps.specs.Known.{StageAt, ToldAt, IsQuick, quick_steps_left}
use Rattle.channel_steps.specs.Left.{all_left, left_at, most_wanted}
use Rattle.channel_steps.specs.Moments.{MarkedMoment, with_marked}
use Rattle.channel_steps.specs.Tellings.{Telling, owed, telling, dropping, WokenBy}
use Rattle.channel_steps.specs.declared.party.Party.{Party}
use Rattle.channel_steps.specs.declared.party.Entry.{Entry}

-- a call under way: whose it is, what it asks, how far it has come, the channel at the moments since it began, newest
-- first, its marks and its tellings, oldest first, and how many steps it made
pub record ActiveCall (T W : Type 0) : Type 0 where
  pub party : ℕ
  pub ask : ChannelAsk T W
  pub at : Stage (Phase T) T W
  pub seen : List (Channel T W)
  pub marks : List (MarkedMoment T W)
  pub told : List Telling
  pub made : ℕ

-- a channel, the blocks that its queue has used so far, oldest first, its calls under way, in the order in which they began, and
-- all messages that have left it and that have come into it, in order
pub record Configuration (T W : Type 0) : Type 0 where
  pub now : Channel T W
  pub blocks : List ℕ
  pub under_way : List (ActiveCall T W)
  pub gone : List T
  pub came : List T

-- a party with its call, and what is told of the call beside its cells
pub record ActiveCallWitness (T W : Type 0) : Type 0 where
  pub party : Party T W
  pub inner : Phase T
  pub ask : ChannelAsk T W
  pub seen : List (Channel T W)
  pub marks : List (MarkedMoment T W)
  pub told : List Telling
  pub made : ℕ

-- a queue with a bound has no blocks
abbrev pub MayHave : QueueForm → List ℕ → Type 0
MayHave (Bounded capacity) blocks = blocks ≡ []
MayHave Unbounded blocks = Unit {0}

module _ {T : Type 0} where
  -- what blocks a queue of this form has used after a step from the cells c to the cells d. One without a bound has used those
  -- before the step, and one more where the tail's word then names another block
  abbrev pub blocks_after : QueueForm → List ℕ → Contents T → Contents T → List ℕ
  blocks_after (Bounded capacity) blocks c d = []
  blocks_after Unbounded blocks c d = chain_after blocks c d

  -- the messages that are there and those that were taken out are those that came
  abbrev pub IsBalanced : Queue T → Type 0
  IsBalanced q = length q.items + q.removed ≡ q.accepted

  -- what a mark takes out of these messages
  abbrev pub gone_by : Mark → List T → List T
  gone_by Take items = take 1 items
  gone_by TakeDisplaced items = take 1 items
  gone_by Replace items = take 1 items
  gone_by m items = []

  -- the k-th of those at work is so no more, if its call has answered
  abbrev pub unless_answered : {A : Type 0} → ℕ → Option (Reply T) → List A → List A
  unless_answered k None xs = xs
  unless_answered k (Some r) xs = remove xs k

  -- those at work after a step of the k-th, which leaves it so
  abbrev pub after_step : {A : Type 0} → List A → ℕ → A → Option (Reply T) → List A
  after_step xs k x None = slice_set xs k x
  after_step xs k x (Some r) = remove xs k

  -- a quick call ends by its eighth step
  abbrev pub EndsInTime : ℕ → Option (Reply T) → Type 0
  EndsInTime made None = made + 1 < 8
  EndsInTime made (Some r) = made < 8

module _ {T W : Type 0} where
  -- another call's step is one more moment
  abbrev pub sees : Channel T W → ActiveCall T W → ActiveCall T W
  sees c u = record u { seen = c ∷ u.seen }

  -- the call u after a step of its own with this mark, over the channel c, which left d
  abbrev pub does : ActiveCall T W → Stage (Phase T) T W → Mark → Channel T W → Channel T W → ActiveCall T W
  does u at m c d =
      record u { at = at; seen = d ∷ u.seen; marks = with_marked u.marks m c u.seen; told = u.told ++ telling u.at; made = u.made + 1 }

  -- a call that has answered is under way no more
  abbrev pub unless_ended : ActiveCall T W → Option (Reply T) → List (ActiveCall T W)
  unless_ended u None = u ∷ []
  unless_ended u (Some r) = []

  -- a call that ends with this reply: its marks and moments are what the reply says, all that its marks owe was told, and it
  -- leaves to its operation what it has to
  pub record Finishes (u : ActiveCall T W) (r : Reply T) (left : Option (Returned T)) : Type 0 where
    pub kept : Returned T
    pub at_end : u.at ≡ Finished kept
    pub given : left ≡ Some kept
    pub met : Met u.ask u.marks u.seen r
    pub keeps : Keeps u.ask r kept
    pub all_told : u.told ≡ owed u.marks

  -- a call that goes on gives nothing yet
  abbrev pub MayFinish : ActiveCall T W → Option (Reply T) → Option (Returned T) → Type 0
  MayFinish u None left = left ≡ None
  MayFinish u (Some r) left = Finishes u r left

  -- the message that a call brings
  abbrev pub brought : ChannelAsk T W → List T
  brought (TrySend m) = m ∷ []
  brought (ForceSend m) = m ∷ []
  brought (PollSend m key task) = m ∷ []
  brought ask = []

  -- what a mark brings in
  abbrev pub came_by : Mark → ChannelAsk T W → List T
  came_by Append ask = brought ask
  came_by Replace ask = brought ask
  came_by m ask = []

  -- one step of a call of the party p, which wakes these: a step of its stage, and all others only see it
  pub record Steps (s : Configuration T W) (p : ℕ) (e : Entry T) (names : List W) (t : Configuration T W) : Type 0 where
    pub before : List (ActiveCall T W)
    pub mine : ActiveCall T W
    pub behind : List (ActiveCall T W)
    pub at_now : Stage (Phase T) T W
    pub there : s.under_way ≡ before ++ (mine ∷ behind)
    pub whose : mine.party ≡ p
    pub moves : Moves s.now mine.at (record { channel = t.now; mark = e.mark; woken = names }) e.reply at_now
    pub left : t.under_way ≡ map (sees t.now) before ++ (unless_ended (does mine at_now e.mark s.now t.now) e.reply ++ map (sees t.now) behind)
    pub named : WokenBy (telling mine.at) (dropping mine.at) s.now names
    pub finishes : MayFinish (does mine at_now e.mark s.now t.now) e.reply e.kept
    pub quick : IsQuick mine.ask → EndsInTime mine.made e.reply
    pub gone : t.gone ≡ s.gone ++ gone_by e.mark s.now.queue.items
    pub came : t.came ≡ s.came ++ came_by e.mark mine.ask
    pub held : gone_by e.mark s.now.queue.items ++ t.now.queue.items ≡ s.now.queue.items ++ came_by e.mark mine.ask

  -- ---- what is known of the calls under way

  -- what is known of a call under way: its newest moment is this one, its marks and moments are those of its stage, what it
  -- has told and will tell is what its marks owe, and a quick one has so many steps left
  pub record Known (now : Channel T W) (u : ActiveCall T W) : Type 0 where
    pub older : List (Channel T W)
    pub latest : u.seen ≡ now ∷ older
    pub stands : StageAt now u.ask u.at u.marks u.seen
    pub tells : ToldAt u.told u.at u.marks
    pub quick : IsQuick u.ask → u.made + quick_steps_left u.at ≤ 8

  abbrev pub AllKnown : Channel T W → List (ActiveCall T W) → Type 0
  AllKnown now [] = Unit {0}
  AllKnown now (u ∷ us) = Known now u × AllKnown now us

  -- ---- quiet calls

  -- none of these calls has a mark but Nothing
  abbrev pub AreIdle : List (ActiveCall T W) → Type 0
  AreIdle [] = Unit {0}
  AreIdle (u ∷ us) = (u.marks ≡ []) × AreIdle us

  -- these other calls are quiet: none has a mark, and an unbounded channel has had its first taking, or there is no other
  -- call
  abbrev pub OthersQuiet : Channel T W → List (ActiveCall T W) → Type 0
  OthersQuiet c others = AreIdle others × (c.queue.capacity ≡ None → (0 < c.queue.removed) ⊎ (others ≡ []))

  -- how many messages the k-th of these calls may take more than one
  abbrev pub wanted_at : ℕ → List (ActiveCall T W) → ℕ
  wanted_at k us = left_at k (map (λ (u : ActiveCall T W). most_wanted u.ask) us)

  -- ---- what the cells and the parties show

  abbrev pub active_call_of : ActiveCallWitness T W → ActiveCall T W
  active_call_of x =
      record {
        party = x.party.id;
        ask = x.ask;
        at = phase x.inner x.party.call.stage;
        seen = x.seen;
        marks = x.marks;
        told = x.told;
        made = x.made;
      }

  abbrev pub seats_of : ActiveCallWitness T W → List (ActiveQueueCall T)
  seats_of x = seats x.inner x.party.call.stage

  abbrev pub all_seats : List (ActiveCallWitness T W) → List (ActiveQueueCall T)
  all_seats [] = []
  all_seats (x ∷ xs) = seats_of x ++ all_seats xs

  -- the cells and the parties show this configuration
  pub record Represents (parts : Parts T W) (parties : List (Party T W)) (s : Configuration T W) : Type 0 where
    pub witnesses : List (ActiveCallWitness T W)
    pub queue : Queue T
    pub parties_are : parties ≡ map (λ (x : ActiveCallWitness T W). x.party) witnesses
    pub under_way : s.under_way ≡ map active_call_of witnesses
    pub now : s.now ≡ channel queue parts
    pub fits : FitsAt s.blocks parts.cells queue (all_seats witnesses)
    pub bare : MayHave parts.cells.form s.blocks
    pub known : AllKnown s.now s.under_way
    pub balanced : IsBalanced queue

  -- whose the calls under way are, in the order in which they began
  abbrev pub parties_in : List (Party T W) → List ℕ
  parties_in parties = map (λ (p : Party T W). p.id) parties

  -- the k-th call under way is this party's
  abbrev pub HasParty : ℕ → List (Party T W) → ℕ → Type 0
  HasParty p parties k = (call : ChannelCall T W) × (slice_get parties k ≡ Some (record { id = p; call = call }))

  abbrev pub left_by : Party T W → Option (Reply T) → Option (Returned T)
  left_by p None = None
  left_by p (Some r) = Some (kept_by p.call.stage)

  -- one step of the k-th call, from these cells and parties to those: if the others are quiet and it does not answer, it
  -- has fewer steps left
  pub record StepsNearer (k : ℕ) (left left' : List ℕ) (s : Configuration T W) (p : ℕ) (e : Entry T) (names : List W) (t : Configuration T W) : Type 0 where
    pub step : Steps s p e names t
    pub place : length step.before ≡ k
    pub nearer : e.reply ≡ None → OthersQuiet s.now (step.before ++ step.behind) → left_at k left' < left_at k left

  module _ {S : Type 0} (wakes : S → W → S → Type 0) where
    -- a step of the k-th call that was made in the configuration s
    pub record Stepped (parts : Parts T W) (parties : List (Party T W)) (k : ℕ) (sink : S) (e : Entry T) (parts' : Parts T W) (parties' : List (Party T W)) (sink' : S) (s : Configuration T W) (p : ℕ) : Type 0 where
      pub names : List W
      pub woken : Woken wakes sink names sink'
      pub after : Configuration T W
      pub steps : StepsNearer k (all_left parts parties) (all_left parts' parties') s p e names after
      pub one_place : OnePlace parts parts'
      pub blocks : after.blocks ≡ blocks_after parts'.cells.form s.blocks parts.cells parts'.cells
      pub shown : Represents parts' parties' after

    -- the k-th call under way makes a step, in every configuration that the cells and the parties show
    abbrev pub StepsAt : Parts T W → List (Party T W) → ℕ → S → Entry T → Parts T W → List (Party T W) → S → Type 0
    StepsAt parts parties k sink e parts' parties' sink' =
        (s : Configuration T W) (p : Party T W) → IsInRange s.now.queue → Represents parts parties s → slice_get parties k ≡ Some p → Stepped parts parties k sink e parts' parties' sink' s p.id

    -- a step of a party's call that leaves this party, wherever the party stands among others
    abbrev pub PartySteps : Parts T W → Party T W → S → Option (Reply T) → Parts T W → Party T W → S → Type 0
    PartySteps parts p sink reply parts' p' sink' =
        (parties : List (Party T W)) (k : ℕ) → slice_get parties k ≡ Some p
        → StepsAt parts parties k sink (record { mark = p'.call.mark; reply = reply; kept = left_by p' reply }) parts' (after_step parties k p' reply) sink'
