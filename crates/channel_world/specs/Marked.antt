-- What a run brought into a channel and took out of it.
use Rattle.std.specs.Prelude.{◌==◌, if◌then◌else◌, ◌∷◌, ◌++◌}
use Rattle.channel_world.specs.Words.{ℕ, List, [], brought_by, Waiter, ActiveCall, Configuration, brought, gone_by, Moment, Entry, Step}

module _ {T : Type 0} where
  -- the message that the call of this party brings, if it is one that brings one
  abbrev pub message_brought : ℕ → List (ActiveCall T Waiter) → List T
  message_brought party [] = []
  message_brought party (u ∷ us) = if u.party == party then brought u.ask else message_brought party us

  abbrev pub brought_at : Configuration T Waiter → Step T → Entry T → List T
  brought_at s (Step.Begin p c) e = []
  brought_at s (Step.Step p) e = brought_by e.mark (message_brought p.0 s.under_way)

  -- all that came in by the steps made, in order
  abbrev pub all_brought : Configuration T Waiter → List (Step T) → List (Entry T) → List (Moment T) → List T
  all_brought s (x ∷ xs) (e ∷ es) (n ∷ ns) = brought_at s x e ++ all_brought n.configuration xs es ns
  all_brought s xs es ns = []

  -- all that they took out, in order: each the oldest message at its moment
  abbrev pub all_taken : Configuration T Waiter → List (Entry T) → List (Moment T) → List T
  all_taken s (e ∷ es) (n ∷ ns) = gone_by e.mark s.now.queue.items ++ all_taken n.configuration es ns
  all_taken s es ns = []
