-- A channel's parties as the machine of a queue's table: the state of each is where it stands, and the counting words are the counts of
-- handles and whether somebody waits on each list. What the machine does on the cells of the queue is said elsewhere.
use Rattle.std.specs.Prelude.{◌≡◌, ℕ, ◌-◌, ◌<◌, ◌≤◌, ◌^◌, ◌==◌, false, List, [], ◌∷◌, map, ◌⊎◌, None}
use Rattle.concurrent_queue.specs.declared.cells.QueueForm.{QueueForm}
use Rattle.concurrent_queue.specs.declared.history.rule.Counter.{Counter}
use Rattle.concurrent_queue.specs.declared.history.rule.Counter.TheVariants.{First, Second, Third, Fourth, Fifth, Sixth}
use Rattle.concurrent_queue.specs.declared.history.rule.CountStep.{CountStep}
use Rattle.concurrent_queue.specs.declared.history.rule.CountStep.TheVariants.{Read, Lower, Raise, Set}
use Rattle.concurrent_queue.specs.history.Keeps.{HistoryOf, Tally}
use Rattle.concurrent_queue.specs.history.Keeps as table
use Rattle.concurrent_queue.specs.declared.history.rule.View.{View}
use Rattle.event_listener.specs.Lists.{ListView}
use Rattle.channel_calls.specs.Deeds.{Deed, told, counted, lowered, raised}
use Rattle.channel_calls.specs.Parts.{nobody_listens}
use Rattle.channel_calls.specs.declared.ask.ChannelAsk.{ChannelAsk}
use Rattle.channel_calls.specs.declared.stage.Side.{Side}
use Rattle.channel_calls.specs.declared.stage.Side.TheVariants.{Senders, Receivers}
use Rattle.channel_calls.specs.declared.stage.Telling.{Telling}
use Rattle.channel_calls.specs.declared.stage.WaitList.{WaitList}
use Rattle.channel_calls.specs.declared.stage.WaitList.TheVariants.{Sends, Receives, Streams, Closings}
use Rattle.channel_steps.specs.every_run.Bridge.{on_wait_lists}
use Rattle.channel_history.specs.History.{lists_of, AllAre, IsChannelHistory}
use Rattle.channel_history.specs.Keeps.{ChangesList, Leaves, opening}
use Rattle.channel_history.specs.Party as party
use Rattle.channel_history.specs.Party.{nothing, fresh, with_own, standing_of, Begins, Makes, Ends}
use Rattle.channel_history.specs.Sections.{CountOperation}
use Rattle.channel_history.specs.declared.party.Belongings.{Belongings}
use Rattle.channel_history.specs.declared.party.Standing.{Standing}

-- the word that counts these handles, and the one that says whether somebody waits on this list
abbrev pub counter_of : Side → Counter
counter_of Senders = First
counter_of Receivers = Second

abbrev pub waiters_of : WaitList → Counter
waiters_of Sends = Third
waiters_of Receives = Fourth
waiters_of Streams = Fifth
waiters_of Closings = Sixth

-- a raise that finds its number has room for one more in the word; and no count of handles is set
abbrev pub Fits : CountStep → ℕ → Type 0
Fits (Raise k) n = n ≡ k → k < 2 ^ 64 - 1
Fits (Set k) n = ⊥
Fits op n = Unit {0}

module _ {W : Type 0} where
  -- a list that was just made
  abbrev pub new_list : ListView Unit W
  new_list = record { lists = nobody_listens; visits = 0; serials = 0; room = 0; looks = 0 }

  -- nobody waits on a list; and where its word is 0 nobody does
  abbrev pub NobodyWaits : ListView Unit W → Type 0
  NobodyWaits l = l.lists.waiting ≡ []

  abbrev pub IsFlagged : Tally → WaitList × ListView Unit W → Type 0
  IsFlagged t x = table.count_of (waiters_of x.0) t ≡ 0 → NobodyWaits x.1

module _ {T W : Type 0} where
  abbrev pub count_deed : Side → CountStep → ℕ → Deed T W
  count_deed side Read n = counted side n
  count_deed side Lower n = lowered side n
  count_deed side (Raise k) n = raised side k (n == k)
  count_deed side (Set k) n = counted side n

  abbrev pub state_of : View T (Standing T W) → Standing T W
  state_of v = v.state

  abbrev pub states : List (View T (Standing T W)) → List (Standing T W)
  states views = map state_of views

  abbrev pub AreFlagged : Tally → List (Standing T W) → Type 0
  AreFlagged t views = AllAre lists_of (IsFlagged t) views

  -- the channel's history, with the counts of handles; and wherever a list lies, its word isn't 0 if somebody waits on it
  abbrev pub history : HistoryOf T (Standing T W)
  history form views c t = IsChannelHistory form (states views) c t.first t.second × AreFlagged t (states views)

  -- the first party has the four lists of a new channel, and a handle of each kind
  abbrev pub opened : Standing T W
  opened = standing_of (opening new_list) 0

  -- a new party has done nothing, or has begun a call; nothing lies with it
  abbrev pub enters : QueueForm → Standing T W → Type 0
  enters form t = (t ≡ fresh) ⊎ ((ask : ChannelAsk T W) × Begins form fresh ask t × (t.own ≡ nothing))

  -- a section on the list that lies with the seat, which held the one before and holds the other after
  abbrev pub IsSection : QueueForm → WaitList → ListView Unit W → ListView Unit W → Standing T W → Standing T W → Type 0
  IsSection form line l k s t =
      (o : Deed T W) × Makes form s (on_wait_lists o) t × (s.own.lists ≡ (line, l) ∷ []) × (t.own.lists ≡ (line, k) ∷ []) × Leaves o s t × ChangesList line o l.lists k.lists

  -- without an operation on a cell of the queue or on a count, a party begins a call, ends one, or makes a section on the list that lies
  -- with its seat, after which somebody waits on it only if somebody did; or its call would raise a count above what a word holds, and is refused
  pub data turns (form : QueueForm) (s t : Standing T W) : Type 0 where
    begins_call : (ask : ChannelAsk T W) → Begins form s ask t → t.own ≡ s.own → turns form s t
    ends_call : Ends form s t → t.own ≡ s.own → turns form s t
    makes_section : (line : WaitList) (l k : ListView Unit W) → IsSection form line l k s t → (NobodyWaits l → NobodyWaits k) → turns form s t
    is_refused : (side : Side) (k : ℕ) → 2 ^ 64 - 1 ≤ k → Makes form s (on_wait_lists (raised side k false)) t → t.own ≡ s.own → turns form s t

  -- an operation on a count of handles, which found this number
  abbrev pub counts_handles : QueueForm → Standing T W → Standing T W → Side → CountStep → ℕ → Type 0
  counts_handles form s t side op n = CountOperation form (count_deed side op n) s t × Fits op n

  -- a section on the list that lies with the seat, which sets its word to this
  abbrev pub SetsFlag : QueueForm → Standing T W → Standing T W → WaitList → ℕ → Type 0
  SetsFlag form s t line n = (l : ListView Unit W) × (k : ListView Unit W) × IsSection form line l k s t × (n ≡ 0 → NobodyWaits k)

  -- a notification of a list on which nobody waits
  abbrev pub FindsNobody : QueueForm → Standing T W → Standing T W → WaitList → Type 0
  FindsNobody form s t line = (telling : Telling) × Makes form s (on_wait_lists (told line telling [])) t × (t.own ≡ s.own)

  -- an operation on the word that says whether somebody waits on a list
  abbrev pub flags : QueueForm → Standing T W → Standing T W → WaitList → CountStep → ℕ → Type 0
  flags form s t line (Set k) n = SetsFlag form s t line k
  flags form s t line Read n = (n ≡ 0) × FindsNobody form s t line
  flags form s t line op n = ⊥

  -- an operation on the word of a count
  abbrev pub counts : QueueForm → Standing T W → Standing T W → Counter → CountStep → ℕ → Type 0
  counts form s t First op n = counts_handles form s t Senders op n
  counts form s t Second op n = counts_handles form s t Receivers op n
  counts form s t Third op n = flags form s t Sends op n
  counts form s t Fourth op n = flags form s t Receives op n
  counts form s t Fifth op n = flags form s t Streams op n
  counts form s t Sixth op n = flags form s t Closings op n

  -- what lies with a party goes to another, all of it or some, and nobody has gone on
  abbrev pub both : Standing T W → Standing T W → Standing T W
  both s t = with_own (party.both s.own t.own) s

  abbrev pub left : Standing T W → Standing T W
  left t = with_own nothing t

  abbrev pub parts : QueueForm → Standing T W → Standing T W → Standing T W → Type 0
  parts form s stays goes = (a : Belongings W) × (b : Belongings W) × (stays ≡ with_own a s) × (goes ≡ with_own b fresh) × (s.own ≡ party.both a b)

  -- no call is under way
  abbrev pub rests : Standing T W → Type 0
  rests s = s.stage ≡ None

  -- a party that has done nothing, with whose seat a list lies
  abbrev pub with_list : WaitList → ListView Unit W → Standing T W
  with_list line l = with_own (record nothing { lists = (line, l) ∷ [] }) fresh

-- no call comes into a channel's queue but those of the channel
abbrev pub admits : Type 0
admits = ⊥
