-- The counts of a channel are the numbers of its handles.
use Rattle.std.specs.Prelude.{◌≡◌, ◌≢◌, ℕ, ◌<◌, ◌^◌, List, ◌∷◌}
use Rattle.concurrent_queue.specs.Contents.{Contents}
use Rattle.concurrent_queue.specs.declared.cells.QueueForm.{QueueForm}
use Rattle.channel_calls.specs.declared.stage.Side.{Side}
use Rattle.channel_history.specs.History.{count_of, is_handle, handles_of, among, IsChannelHistory}
use Rattle.channel_history.specs.Keeps.{IsAt}
use Rattle.channel_history.specs.declared.party.Standing.{Standing}

module _ {T W : Type 0} where
  pub record CountSays (views : List (Standing T W)) (side : Side) (n : ℕ) : Type 0 where
    -- it is the number of handles of its kind that lie with seats
    pub is : among handles_of (is_handle side) views ≡ n
    -- so a party that has one may lower it
    pub lowers : (p : ℕ) (v : Standing T W) (others : List Side) → IsAt views p v → v.own.handles ≡ side ∷ others → n ≢ 0
    -- and no raise was one too many for its word
    pub fits : n < 2 ^ 64

abbrev pub HandlesAreCounted : Type 0 → Type 0 → Type 0
HandlesAreCounted T W =
    (form : QueueForm) (views : List (Standing T W)) (cells : Contents T) (senders receivers : ℕ) → IsChannelHistory form views cells senders receivers
    → (side : Side) → CountSays views side (count_of side senders receivers)
