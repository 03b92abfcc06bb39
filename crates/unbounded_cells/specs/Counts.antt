-- What a step on a counting word tells its seat.
use Rattle.std.specs.Prelude.{◌≡◌, ◌≢◌, ℕ, Option}
use Rattle.growing_table.specs.State.{Spot, own, within, count, Step, Me, me}
use Rattle.concurrent_queue.specs.declared.cells.QueueForm.{QueueForm}
use Rattle.concurrent_queue.specs.declared.history.rule.Counter.{Counter}
use Rattle.concurrent_queue.specs.declared.history.rule.Counter.TheVariants.{First}
use Rattle.concurrent_queue.specs.declared.history.rule.CountStep.{CountStep}
use Rattle.concurrent_queue.specs.declared.history.rule.CountStep.TheVariants.{Read, Lower, Raise}
use Rattle.concurrent_queue.specs.history.Shared.{counter_at}
use Rattle.unbounded_cells.specs.Told.{on_with}
use Rattle.unbounded_cells.specs.Words.{Seat}
use Rattle.unbounded_cells.specs.declared.rule.BlockView.{BlockView}

-- which of them lies there
abbrev pub counter_in : Spot → Counter
counter_in (own k) = counter_at k
counter_in (within b k) = First
counter_in count = First

module _ {T A : Type 0} where
  module _ (counts : QueueForm → A → A → Counter → CountStep → ℕ → Type 0) where
    -- its machine made this operation on a counting word, which found this number
    abbrev pub Counted : CountStep → Spot → Seat T A → ℕ → Seat T A → Type 0
    Counted op x m found m' = counts m.view.party.form m.view.party.state m'.view.party.state (counter_in x) op found × (m' ≡ me (on_with m.view m'.view.party.state) m.hand)

    abbrev pub count_reads : Step → Seat T A → ℕ → Seat T A → Type 0
    count_reads st m found m' = Counted Read st.spot m found m'

    abbrev pub count_lowers : Step → Seat T A → ℕ → Seat T A → Type 0
    count_lowers st m found m' = Counted Lower st.spot m found m'

    abbrev pub count_raises : Step → Seat T A → ℕ → Seat T A → Type 0
    count_raises st m found m' = Counted (Raise st.first) st.spot m found m'

  -- a count is set, and the party goes on as a relation says
  abbrev pub count_sets : (A → A → Type 0) → Step → Seat T A → ℕ → Seat T A → Type 0
  count_sets to st m found m' = to m.view.party.state m'.view.party.state × (m' ≡ me (on_with m.view m'.view.party.state) m.hand)

  -- if it is 0 the party goes on as a relation says; if it isn't nothing was done
  abbrev pub count_passes : (A → A → Type 0) → Step → Seat T A → ℕ → Seat T A → Type 0
  count_passes to st m found m' = (found ≡ 0 → to m.view.party.state m'.view.party.state × (m' ≡ me (on_with m.view m'.view.party.state) m.hand)) × (found ≢ 0 → m' ≡ m)
