-- A merge of two calls: two clones of a sender, which race for the count.
use Rattle.std.specs.Prelude.{ℕ, ◌==◌, true, false, List, [], ◌∷◌, length, if◌then◌else◌, None}
use Rattle.concurrent_queue.specs.declared.cells.QueueForm.{QueueForm}
use Rattle.channel_calls.specs.Deeds.{counted, raised}
use Rattle.channel_calls.specs.Parts.{Parts, new_wait_lists, with_count, with_wait_lists}
use Rattle.channel_calls.specs.Turns.{nothing_kept}
use Rattle.channel_calls.specs.declared.ask.ChannelAsk.TheVariants.{CloneHandle}
use Rattle.channel_calls.specs.declared.reply.Reply.TheVariants.{Made}
use Rattle.channel_calls.specs.declared.stage.Side.TheVariants.{Senders}
use Rattle.channel_calls.specs.declared.whole.Completed.{Completed}
use Rattle.channel_steps.specs.every_run.Bridge.{Happening, begins, does, on_wait_lists, Acts, own, opened_parts, InOneOrder, LastsFor}

module _ {T W : Type 0} where
  -- both read one; the first finds two where it would raise one, reads again and raises two
  abbrev pub two_clones : List (Happening T W)
  two_clones =
      record { party = 1; event = begins (CloneHandle Senders) }
      ∷ record { party = 2; event = begins (CloneHandle Senders) }
      ∷ record { party = 1; event = does (on_wait_lists (counted Senders 1)) }
      ∷ record { party = 2; event = does (on_wait_lists (counted Senders 1)) }
      ∷ record { party = 2; event = does (on_wait_lists (raised Senders 1 true)) }
      ∷ record { party = 1; event = does (on_wait_lists (raised Senders 1 false)) }
      ∷ record { party = 1; event = does (on_wait_lists (counted Senders 2)) }
      ∷ record { party = 1; event = does (on_wait_lists (raised Senders 2 true)) }
      ∷ []

  -- three handles are counted then
  abbrev pub parts_of_three : QueueForm → Parts T W
  parts_of_three form = with_wait_lists (with_count Senders 3 new_wait_lists) (opened_parts form)

module _ {T : Type 0} where
  abbrev pub given_made : List (Completed T)
  given_made = record { reply = Made; kept = nothing_kept } ∷ []

  -- both answer that a handle was made
  abbrev pub both_made : ℕ → List (Completed T)
  both_made p = if 1 == p then given_made else (if 2 == p then given_made else [])

-- it is a merge as `MergesAreRuns` asks it
abbrev pub TwoClonesMerge : (T W S : Type 0) → (S → W → S → Type 0) → Type 0
TwoClonesMerge T W S wakes =
    (form : QueueForm) (sink : S)
    → (let events : List (Happening T W) = two_clones in LastsFor (length events) form)
    × ((p : ℕ) → Acts {T = T} {W = W} form None (own p two_clones) (both_made p))
    × InOneOrder {T = T} wakes two_clones (opened_parts form, sink) (parts_of_three form, sink)
