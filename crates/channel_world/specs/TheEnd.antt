-- Nothing comes after the end: once a receive answered closed, or a stream ended, no call that begins later gives a message.
use Rattle.std.specs.Prelude.{◌∷◌}
use Rattle.channel_world.specs.Words.{ℕ, List, [], SaysTheEnd, GivesMessage, Replies, IsAmong, Entry, Step}

module _ {T : Type 0} where
  -- no call of these parties, and none that begins here, gives a message by one of these steps, as far as they were made
  abbrev pub GiveNothing : List ℕ → List (Step T) → List (Entry T) → Type 0
  GiveNothing parties (Step.Begin p c ∷ xs) (e ∷ es) = GiveNothing (p.0 ∷ parties) xs es
  GiveNothing parties (Step.Step p ∷ xs) (e ∷ es) = (IsAmong p.0 parties → Replies GivesMessage e.reply → ⊥) × GiveNothing parties xs es
  GiveNothing parties xs es = Unit {0}

  -- a reply that says the end is followed by no message but from calls that had begun before it
  abbrev pub NothingComesAfter : List (Step T) → List (Entry T) → Type 0
  NothingComesAfter (x ∷ xs) (e ∷ es) = (Replies SaysTheEnd e.reply → GiveNothing [] xs es) × NothingComesAfter xs es
  NothingComesAfter xs es = Unit {0}
