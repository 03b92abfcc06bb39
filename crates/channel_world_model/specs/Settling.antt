-- Settling: the woken one whose wake is oldest is polled, again and again until nobody is woken.
use Rattle.std.specs.Prelude.{◌≡◌, ◌⊎◌, ◌+◌, ◌*◌, ◌≤◌, ◌∷◌, if◌then◌else◌}
use Rattle.channel_world_model.specs.Words.{ℕ, zero, suc, List, [], length, true, false, None, Some, is_none, slice_get, option_map_or, WaitList, Call, Reply, Waiter, Op, Stream}
use Rattle.channel_world_model.specs.Awake.{AwakeIn}
use Rattle.channel_world_model.specs.Laws.{free_places}
use Rattle.channel_world_model.specs.Lines.{Waiting, untold}
use Rattle.channel_world_model.specs.State.{State}
use Rattle.channel_world_model.specs.Refusal.{refusal}
use Rattle.channel_world_model.specs.Answer.{answer}
use Rattle.channel_world_model.specs.Refused.{Answers}

-- A poll of settling is no call that the world may refuse: a stream is polled even while an operation borrows its
-- receiver.
abbrev pub poll_of : {T : Type 0} → Waiter → Call T
poll_of (Op op) = Call.Poll op
poll_of (Stream receiver) = Call.PollNext receiver

-- from s these are polled, in this order and with these replies, and then nobody is woken in the state t
abbrev pub Settles : {T : Type 0} → State T → List (Waiter × Reply T) → State T → Type 0
Settles s [] t = (s.waiting.woken ≡ []) × (t ≡ s)
Settles s (p ∷ ps) t =
    (slice_get s.waiting.woken 0 ≡ Some p.0)
    × ((mid : State _) × (names : List Waiter) × Answers s (poll_of p.0) (record { after = mid; reply = p.1; woken = names }) × Settles mid ps t)

-- the polls so far: from s these were polled, in this order and with these replies, which leads to the state t
abbrev pub SettlesTo : {T : Type 0} → State T → List (Waiter × Reply T) → State T → Type 0
SettlesTo s [] t = t ≡ s
SettlesTo s (p ∷ ps) t =
    (slice_get s.waiting.woken 0 ≡ Some p.0)
    × ((mid : State _) × (names : List Waiter) × Answers s (poll_of p.0) (record { after = mid; reply = p.1; woken = names }) × SettlesTo mid ps t)

-- how many are pending: they wait untold, or were woken
abbrev pub pending_count : Waiting → ℕ
pending_count l = length l.sends + length l.receives + length l.streams + length l.closings + length l.woken

-- the pairs of n things: n(n-1)/2
abbrev pub pairs : ℕ → ℕ
pairs zero = 0
pairs (suc n) = n + pairs n

-- how many polls there are still to come, at most
abbrev pub polls_left : Waiting → ℕ
polls_left l = pairs (pending_count l) + length l.woken

-- However it is answered, settling makes no more than w(w+1)/2 polls where w are pending; so it ends.
abbrev pub SettlingEnds : Type 0 → Type 0
SettlingEnds T =
    (s t : State T) (ps : List (Waiter × Reply T)) → AwakeIn s → SettlesTo s ps t
    → 2 * length ps ≤ pending_count s.waiting * (pending_count s.waiting + 1)

-- nobody is pending that a message, a free place or a closing lets go on
pub record NobodyGoesOn {T : Type 0} (s : State T) : Type 0 where
  pub receives : (s.waiting.receives ≡ []) ⊎ (length s.channel.messages ≡ 0)
  pub sends : s.channel.closed ≡ false → (s.waiting.sends ≡ []) ⊎ (free_places s.channel.capacity (length s.channel.messages) ≡ 0)
  pub unbounded : s.channel.capacity ≡ None → s.waiting.sends ≡ []
  pub streams : (s.waiting.streams ≡ []) ⊎ (length s.channel.messages ≡ 0)
  pub opened : s.channel.closed ≡ true → (line : WaitList) → untold line s.waiting ≡ []

-- After settling nobody is woken and pending, and nobody pending could go on.
abbrev pub SettlingRests : Type 0 → Type 0
SettlingRests T =
    (s t : State T) (ps : List (Waiter × Reply T)) → AwakeIn s → Settles s ps t → (t.waiting.woken ≡ []) × NobodyGoesOn t

-- ---- with ample memory, so that rows compute

-- the replies and woken names of calls, up to the first that is refused
abbrev pub replies : {T : Type 0} → State T → List (Call T) → List (Reply T × List Waiter)
replies s [] = []
replies s (c ∷ cs) = let a = answer s c in if is_none (refusal s c) then (a.reply, a.woken) ∷ replies a.after cs else []

-- the state after them
abbrev pub state_after : {T : Type 0} → State T → List (Call T) → State T
state_after s [] = s
state_after s (c ∷ cs) = if is_none (refusal s c) then state_after (answer s c).after cs else s

-- at most n polls of settling
abbrev pub settling_polls : {T : Type 0} → ℕ → State T → List (Waiter × Reply T)
settling_polls zero s = []
settling_polls (suc n) s = option_map_or (λ (w : Waiter). let a = answer s (poll_of w) in (w, a.reply) ∷ settling_polls n a.after) (slice_get s.waiting.woken 0) []
