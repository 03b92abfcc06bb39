-- What a witness says of sends that may have blocked.
use Rattle.std.specs.Prelude.{◌≡◌, List, [], ◌∷◌, Result}
use Rattle.atomic_table.specs.Seated.{TableId}
use Rattle.event_listener.specs.declared.waking.Task.{Task}
use Rattle.channel_calls.specs.declared.error.Refused.{Refused}
use Rattle.channel_calls.specs.declared.error.SendError.{SendError}
use Rattle.channel_cells.specs.Channel.{standing_of}
use Rattle.channel_history.specs.Party.{fresh}
use Rattle.channel_history.specs.declared.party.Standing.{Standing}
use Rattle.async_channel.specs.Called.{HasSent}
use Rattle.async_channel.specs.Parties.{Seat}

module _ {T : Type 0} where
  -- a party that stood so has sent this since, by calls of which the last one was answered this
  pub record SentNext (before : Standing T Task) (message : T) (r : Result Unit (Refused (SendError T) T)) (now : Standing T Task) : Type 0 where
    pub table : TableId
    pub seat : Seat T
    pub stands : standing_of seat ≡ now
    pub sent : HasSent table before message r seat

  -- it has sent these since, one after another, and was answered this of each
  abbrev pub SentSince : Standing T Task → List (T × Result Unit (Refused (SendError T) T)) → Standing T Task → Type 0
  SentSince before [] now = now ≡ before
  SentSince before (send ∷ []) now = SentNext before send.0 send.1 now
  SentSince before (send ∷ next ∷ sends) now = (between : Standing T Task) × SentNext before send.0 send.1 between × SentSince between (next ∷ sends) now

  pub record SentInTurn (sends : List (T × Result Unit (Refused (SendError T) T))) (now : Standing T Task) : Type 0 where
    pub since : SentSince fresh sends now

  -- the party of a witness has sent these, and has made no other calls
  abbrev pub HasSentEach : List (T × Result Unit (Refused (SendError T) T)) → Seat T → Type 0
  HasSentEach sends witness = SentInTurn sends (standing_of witness)
