-- How soon a call ends if the others are quiet: the number of steps of its own that are left to it at each moment of a run.
use Rattle.std.specs.Prelude.{◌≤◌, ◌==◌, ◌&&◌, if◌then◌else◌, ◌∷◌}
use Rattle.channel_world.specs.Words.{ℕ, suc, is_none, List, [], Waiter, most_left, Configuration, OthersQuiet, calls_of_others, wanted_of, Moment, Entry, Step}
use Rattle.channel_world.specs.View.{StandsIn, WorldView}

module _ {T : Type 0} where
  -- how many of the next steps are this party's, one after another, with no reply among them
  abbrev pub in_a_row : ℕ → List (Step T) → List (Entry T) → ℕ
  in_a_row p (Step.Step q ∷ xs) (e ∷ es) = if (q.0 == p) && is_none e.reply then suc (in_a_row p xs es) else 0
  in_a_row p xs es = 0

  -- the calls under way but this party's are quiet: none has a mark but Nothing, and an unbounded channel has had its first taking,
  -- or there is no other call
  abbrev pub OthersQuietOf : ℕ → Configuration T Waiter → Type 0
  OthersQuietOf p s = OthersQuiet s.now (calls_of_others p s.under_way)

  -- if the others of a party's call are quiet in this configuration, it makes no more steps than these before it ends, if its are the
  -- next: those in front of a list, also where not all of them are made
  abbrev pub EndInFront : Configuration T Waiter → List (Step T) → List (Entry T) → Type 0
  EndInFront s steps trace = (party : ℕ) → OthersQuietOf party s → in_a_row party steps trace ≤ most_left (wanted_of party s.under_way)

  -- so it is in the configuration of each moment
  abbrev pub EndInARow : Configuration T Waiter → List (Step T) → List (Entry T) → List (Moment T) → Type 0
  EndInARow s [] [] [] = Unit {0}
  EndInARow s (x ∷ xs) (e ∷ es) (n ∷ ns) = EndInFront s (x ∷ xs) (e ∷ es) × EndInARow n.configuration xs es ns
  EndInARow s _ _ _ = ⊥

  -- from whatever configuration the world stood in: a call whose others are quiet makes no more steps than these in front of the list
  abbrev pub EndsInFront : WorldView T → List (Step T) → List (Entry T) → Type 0
  EndsInFront old steps trace = (s : Configuration T Waiter) → StandsIn old s → EndInFront s steps trace
