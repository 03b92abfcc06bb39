-- Two laws of every record of calls.
use Rattle.std.specs.Prelude.{◌≡◌, ◌∷◌, ◌++◌}
use Rattle.channel_world.specs.Words.{ℕ, List, [], Option, removed_by, brought_by_call, sends_after, NobodyIsLeft, Receipt}
use Rattle.channel_world.specs.RecordReplay.{IsHistory}

module _ {T : Type 0} where
  -- what the calls took out of the channel, received or displaced, in order
  abbrev pub removed_in_record : List (Receipt T) → List T
  removed_in_record [] = []
  removed_in_record (r ∷ rs) = removed_by r.reply ++ removed_in_record rs

  -- what they brought in, in order; `sends` has the message of each send that was made before them, under its name
  abbrev pub accepted_after : List (ℕ × T) → List (Receipt T) → List T
  accepted_after sends [] = []
  accepted_after sends (r ∷ rs) = brought_by_call sends r.call r.reply ++ accepted_after (sends_after sends r.call) rs

  abbrev pub accepted_in_record : List (Receipt T) → List T
  accepted_in_record rs = accepted_after [] rs

-- What was received or displaced, followed by what is held at the end, is what was accepted, in order.
abbrev pub RecordLosesNothing : Type 0 → Type 0
RecordLosesNothing T = (capacity : Option ℕ) (rs : List (Receipt T)) (h : IsHistory capacity rs) → removed_in_record rs ++ h.last.channel.messages ≡ accepted_in_record rs

-- At the end no unwoken pending one stands beside a message, a free place or a closing for which no woken one is responsible.
abbrev pub RecordLeavesNobody : Type 0 → Type 0
RecordLeavesNobody T = (capacity : Option ℕ) (rs : List (Receipt T)) (h : IsHistory capacity rs) → NobodyIsLeft h.last

-- A record that replays from an opened channel to a state in which both laws hold.
abbrev pub KeepsItsLaws : {T : Type 0} → Option ℕ → List (Receipt T) → Type 0
KeepsItsLaws capacity rs =
    (h : IsHistory capacity rs) × (removed_in_record rs ++ h.last.channel.messages ≡ accepted_in_record rs) × NobodyIsLeft h.last
