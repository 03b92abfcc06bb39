-- What lies behind the lock of a list of listeners: the list, and a seat of the channel's table that says so.
use Rattle.std.specs.Prelude.{◌≡◌, ℕ, zero, suc, List, [], ◌∷◌}
use Rattle.event_listener.specs.Lists.{ListView}
use Rattle.channel_calls.specs.declared.stage.WaitList.{WaitList}
use Rattle.channel_calls.specs.declared.stage.WaitList.TheVariants.{Sends, Receives, Streams, Closings}
use Rattle.channel_calls.specs.declared.stage.Side.{Side}
use Rattle.channel_calls.specs.declared.stage.Side.TheVariants.{Senders, Receivers}
use Rattle.channel_history.specs.CallSections.{LiesAlone}
use Rattle.channel_history.specs.Machine.{new_list}
use Rattle.channel_history.specs.Party.{fresh, with_own}
use Rattle.channel_history.specs.declared.party.Standing.{Standing}
use Rattle.concurrent_queue.specs.declared.history.table.RuledTable.{RuledTable}
use Rattle.channel_cells.specs.declared.lists.SeatedList.{SeatedList}
use Rattle.channel_cells.specs.declared.machine.OfChannel.{OfChannel}

-- the number of a list's lock, and the list of a lock
abbrev pub index_of : WaitList → ℕ
index_of Sends = 0
index_of Receives = 1
index_of Streams = 2
index_of Closings = 3

abbrev pub line_at : ℕ → WaitList
line_at zero = Sends
line_at (suc zero) = Receives
line_at (suc (suc zero)) = Streams
line_at n = Closings

module _ {T W : Type 0} where
  -- with nothing but these lists and handles of a new channel, a party that has done nothing
  abbrev pub with_lists : List (WaitList × ListView Unit W) → List Side → Standing T W
  with_lists lists handles = with_own (record { lists = lists; handles = handles; listeners = [] }) fresh

  abbrev pub with_handles : List Side → Standing T W
  with_handles handles = with_lists [] handles

module _ {W : Type 0} where
  -- the first so many lists of a new channel
  abbrev pub lists_at : ℕ → List (WaitList × ListView Unit W)
  lists_at zero = []
  lists_at (suc zero) = (Sends, new_list) ∷ []
  lists_at (suc (suc zero)) = (Sends, new_list) ∷ (Receives, new_list) ∷ []
  lists_at (suc (suc (suc zero))) = (Sends, new_list) ∷ (Receives, new_list) ∷ (Streams, new_list) ∷ []
  lists_at n = (Sends, new_list) ∷ (Receives, new_list) ∷ (Streams, new_list) ∷ (Closings, new_list) ∷ []

module _ {T W : Type 0} where
  -- the first party of a channel, with so many lists that are yet to go behind their locks
  abbrev pub opening_at : ℕ → Standing T W
  opening_at n = with_lists (lists_at n) (Senders ∷ Receivers ∷ [])

  -- what lies behind the lock of this number
  abbrev pub LiesThere : RuledTable T (Standing T W) OfChannel → ℕ → SeatedList T W → Type 0
  LiesThere table which x = (x.seat.seat.table_id ≡ table.table.shared.table_id) × LiesAlone (line_at which) x.list.value.lists x.seat.seat.me.0.state
