-- What the counts of senders and receivers count: the strong handles that live, and the calls under way that are to lower them.
use Rattle.std.specs.Prelude.{◌≡◌, ◌⊎◌, ◌+◌, ◌≤◌, ◌∷◌}
use Rattle.channel_world_runs.specs.Words.{ℕ, Bool, true, false, cond, List, [], map, Option, None, Some, count, Closer, Senders, Receivers, Stage, Trying, Working, Lower, Load, Raise, Directory, HandleKind, Waiter, Open, ActiveCall, Configuration, OnReturn, HandleEntry, Purpose}
use Rattle.channel_calls.specs.declared.stage.Side.{Side}
use Rattle.channel_world_model.specs.declared.name.HandleKind.TheVariants.{Sender, Receiver}
use Rattle.channel_world_runs.specs.Run.{NameState}
use Rattle.channel_world_runs.specs.Calls.{Agent}

-- how many of these pass
abbrev pub tally : {X : Type 0} → (X → Bool) → List X → ℕ
tally test [] = 0
tally test (x ∷ xs) = cond (test x) 1 0 + tally test xs

-- ---- handles

-- a strong handle of the one side is a sender, of the other a receiver; weak ones are of no side
abbrev pub is_strong : Side → HandleKind → Bool
is_strong Senders Sender = true
is_strong Receivers Receiver = true
is_strong side kind = false

-- whether a strong handle of this side lives there
abbrev pub strong_lives : Side → Option HandleEntry → Bool
strong_lives side None = false
strong_lives side (Some h) = is_strong side h.handle.kind

-- how many strong handles of this side live
abbrev pub live_on : Side → Directory HandleEntry → ℕ
live_on side handles = tally (λ (e : ℕ × Option HandleEntry). strong_lives side e.1) handles

-- ---- calls under way

abbrev pub same_side : Side → Side → Bool
same_side Senders Senders = true
same_side Receivers Receivers = true
same_side a b = false

-- the drop of the last handle of this side closes, and not another call
abbrev pub is_last_of : Side → Closer → Bool
is_last_of Senders Closer.Sender = true
is_last_of Receivers (Closer.Receiver key) = true
is_last_of side c = false

module _ {Q T W : Type 0} where
  -- the drop of a strong handle of this side that is to lower the count: its next step does so
  abbrev pub is_lowering : Side → Stage Q T W → Bool
  is_lowering side (Working (Lower s key)) = same_side side s
  is_lowering side at = false

  -- the drop of the last one, which has lowered the count to nothing and is to close the channel
  abbrev pub is_closing : Side → Stage Q T W → Bool
  is_closing side (Trying q (Purpose.Close c)) = is_last_of side c
  is_closing side at = false

  -- a clone or an upgrade that may yet raise the count, in the step that ends it
  abbrev pub is_raising : Side → Stage Q T W → Bool
  is_raising side (Trying q (Purpose.Upgrade s)) = same_side side s
  is_raising side (Working (Load s making)) = same_side side s
  is_raising side (Working (Raise s n making)) = same_side side s
  is_raising side at = false

-- ---- what is kept

module _ {T : Type 0} where
  -- a call whose handle, if it is made, is a strong one of this side
  abbrev pub makes_strong : Side → OnReturn T → Bool
  makes_strong side (OnReturn.New from new kind) = is_strong side kind
  makes_strong side e = false

  -- A count is the number of strong handles of its side that live, with that of the drops under way that are to lower it. While
  -- the channel is open it is one at least, or the drop of the last one is to close it. Those that may raise it are those that
  -- make such a handle.
  pub record CountsSide (side : Side) (b : NameState T) (s : Configuration T Waiter) : Type 0 where
    pub counts : count side s.now.wait_lists ≡ live_on side b.name_table.handles + tally (λ (u : ActiveCall T Waiter). is_lowering side u.at) s.under_way
    pub opened : Open s.now → (1 ≤ count side s.now.wait_lists) ⊎ (1 ≤ tally (λ (u : ActiveCall T Waiter). is_closing side u.at) s.under_way)
    pub makers : map (λ (a : Agent T). makes_strong side a.on_return) b.agents ≡ map (λ (u : ActiveCall T Waiter). is_raising side u.at) s.under_way

  abbrev pub Counted : NameState T → Configuration T Waiter → Type 0
  Counted b s = (side : Side) → CountsSide side b s
