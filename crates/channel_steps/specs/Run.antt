-- Runs: what may follow from steps of many parties in any order.
use Rattle.std.specs.Prelude.{◌≡◌, ℕ, ◌+◌, ◌<◌, ◌^◌, List, [], ◌∷◌, ◌++◌, Option, None, Some, ◌⊎◌}
use Rattle.concurrent_queue.specs.Queue.{Queue, Phase}
use Rattle.channel_calls.specs.Parts.{Parts}
use Rattle.channel_calls.specs.Moves.{Channel, Turned, OnePlace, new_channel}
use Rattle.channel_calls.specs.Asks.{first}
use Rattle.channel_calls.specs.declared.ask.ChannelAsk.{ChannelAsk}
use Rattle.channel_calls.specs.declared.mark.Mark.TheVariants.{Nothing}
use Rattle.channel_calls.specs.declared.reply.Reply.{Reply}
use Rattle.channel_calls.specs.declared.stage.Stage.{Stage}
use Rattle.channel_steps.specs.declared.party.Party.{Party}
use Rattle.channel_steps.specs.declared.party.Entry.{Entry}
use Rattle.channel_steps.specs.declared.run.Step.{Step}
use Rattle.channel_steps.specs.declared.run.Step.TheVariants as step
use Rattle.channel_steps.specs.Configuration.{ActiveCall, Configuration, Steps, Represents}

-- ---- what a run is, whatever its moments are

module _ {M X E : Type 0} where
  -- so it is of each of these steps, with its entry, from the moment before it to the one after it
  abbrev pub EachStep : (M → X → E → M → Type 0) → M → List X → List E → List M → Type 0
  EachStep P m [] [] [] = Unit {0}
  EachStep P m (x ∷ xs) (e ∷ es) (n ∷ ns) = P m x e n × EachStep P n xs es ns
  EachStep P m _ _ _ = ⊥

module _ {M : Type 0} where
  -- the moment at which they end
  abbrev pub end_of : M → List M → M
  end_of m [] = m
  end_of m (n ∷ ns) = end_of n ns

module _ {M X E : Type 0} where
  -- a run: steps, one after another, each with its entry, lead from one moment to another, as is said here of one step
  -- It is a relation and no call: a call that made it would take steps of many parties and refuse some of them.
  pub record IsRun (Leads : M → X → E → M → Type 0) (from : M) (steps : List X) (trace : List E) (to : M) : Type 0 where
    pub moments : List M
    pub each : EachStep Leads from steps trace moments
    pub ends : end_of from moments ≡ to

-- ---- runs of a channel's steps

module _ {T : Type 0} where
  -- so many more messages may be accepted within the positions of a queue
  abbrev pub HasRange : ℕ → Queue T → Type 0
  HasRange n q = (q.capacity ≡ Some 1) ⊎ (q.accepted + n < 2 ^ 61)

module _ {T W : Type 0} where
  -- a channel that was just opened, with nobody at work
  abbrev pub new_configuration : Option ℕ → Configuration T W
  new_configuration cap = record { now = new_channel cap; blocks = []; under_way = []; gone = []; came = [] }

  -- a call that has made no step
  abbrev pub call_begun : ℕ → ChannelAsk T W → Stage (Phase T) T W → Channel T W → ActiveCall T W
  call_begun p ask at now = record { party = p; ask = ask; at = at; seen = now ∷ []; marks = []; told = []; made = 0 }

  -- a party begins a call, at its first stage; no cell is touched
  pub record Begins (s : Configuration T W) (p : ℕ) (ask : ChannelAsk T W) (e : Entry T) (t : Configuration T W) : Type 0 where
    pub entry : e ≡ record { mark = Nothing; reply = None; kept = None }
    pub at : Stage (Phase T) T W
    pub answer : Option (Reply T)
    pub turned : Turned (first ask) answer at
    pub now : t.now ≡ s.now
    pub blocks : t.blocks ≡ s.blocks
    pub under_way : t.under_way ≡ s.under_way ++ call_begun p ask at s.now ∷ []
    pub gone : t.gone ≡ s.gone
    pub came : t.came ≡ s.came

  -- a call that began in the configuration s
  pub record Began (p : ℕ) (ask : ChannelAsk T W) (parts : Parts T W) (e : Entry T) (parties' : List (Party T W)) (s : Configuration T W) : Type 0 where
    pub after : Configuration T W
    pub begins : Begins s p ask e after
    pub shown : Represents parts parties' after

  -- a call has begun, over any cells, in every configuration that is shown
  abbrev pub HasBegun : ℕ → ChannelAsk T W → List (Party T W) → Entry T → List (Party T W) → Type 0
  HasBegun p ask parties e parties' = (parts : Parts T W) (s : Configuration T W) → Represents parts parties s → Began p ask parts e parties' s

  -- so it is wherever the party comes after others
  abbrev pub PartyBegins : ℕ → ChannelAsk T W → Party T W → Type 0
  PartyBegins p ask party =
      (parties : List (Party T W)) → HasBegun p ask parties (record { mark = Nothing; reply = None; kept = None }) (parties ++ party ∷ [])

  -- one entry of a run, which wakes these
  abbrev pub Next : Configuration T W → Step T W → Entry T → List W → Configuration T W → Type 0
  Next s (step.Begin p ask) e names t = Begins s p ask e t × (names ≡ [])
  Next s (step.Step p) e names t = Steps s p e names t

  -- whomever it wakes: so a step of a run leads from configuration to configuration
  abbrev pub NextConfiguration : Configuration T W → Step T W → Entry T → Configuration T W → Type 0
  NextConfiguration s x e t = (names : List W) × Next s x e names t

  -- what left the channel, followed by what it holds, is what it held followed by what came, in order
  pub record Accounts (s t : Configuration T W) : Type 0 where
    pub out : List T
    pub into : List T
    pub gone : t.gone ≡ s.gone ++ out
    pub came : t.came ≡ s.came ++ into
    pub held : out ++ t.now.queue.items ≡ s.now.queue.items ++ into

  -- between two neighbouring moments at most one cell of the queue differs, or one list, or one count; none where a call
  -- begins
  abbrev pub Touches : Step T W → Parts T W → Parts T W → Type 0
  Touches (step.Begin p ask) a b = b ≡ a
  Touches (step.Step p) a b = OnePlace a b
