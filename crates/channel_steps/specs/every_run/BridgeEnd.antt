-- Nothing comes after the end: once a reply says it, no call that begins later gives a message.
use Rattle.std.specs.Prelude.{List, ◌∷◌}
use Rattle.channel_steps.specs.declared.party.Entry.{Entry}
use Rattle.channel_steps.specs.declared.run.Step.{Step}
use Rattle.channel_steps.specs.declared.run.Step.TheVariants as step
use Rattle.channel_steps.specs.every_run.Ends.{SaysTheEnd, Replies, GetsNothing}

module _ {T W : Type 0} where
  -- no call that begins by one of these steps gives a message
  abbrev pub NewCallsGiveNothing : List (Step T W) → List (Entry T) → Type 0
  NewCallsGiveNothing (step.Begin p ask ∷ xs) (e ∷ es) = GetsNothing p xs es × NewCallsGiveNothing xs es
  NewCallsGiveNothing (step.Step p ∷ xs) (e ∷ es) = NewCallsGiveNothing xs es
  NewCallsGiveNothing xs es = Unit {0}

  -- a reply that says the end is followed by no message but from calls that had begun before it
  abbrev pub NoMessageAfter : List (Step T W) → List (Entry T) → Type 0
  NoMessageAfter (x ∷ xs) (e ∷ es) = (Replies SaysTheEnd e.reply → NewCallsGiveNothing xs es) × NoMessageAfter xs es
  NoMessageAfter xs es = Unit {0}
