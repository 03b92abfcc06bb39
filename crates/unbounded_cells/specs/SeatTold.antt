-- What a step tells a seat where a party comes, goes on without an operation, looks, or takes in what another has; and how the lock of the
-- spare list goes from seat to seat.
use Rattle.std.specs.Prelude.{◌≡◌, ◌≢◌, ◌⊎◌, ℕ, ◌+◌, true, false, List, [], ◌∷◌, Option, None, Some}
use Rattle.growing_table.specs.State.{Step, Me, me}
use Rattle.concurrent_queue.specs.Bridge.{Event}
use Rattle.concurrent_queue.specs.Contents.{Contents}
use Rattle.concurrent_queue.specs.declared.cells.QueueForm.{QueueForm}
use Rattle.concurrent_queue.specs.declared.cells.QueueForm.TheVariants.{Unbounded}
use Rattle.concurrent_queue.specs.declared.history.rule.View.{View}
use Rattle.concurrent_queue.specs.history.Keeps.{HistoryOf, Tally}
use Rattle.concurrent_queue.specs.history.Shared.{Shown, going_on, named_so, both_views, spent_view, taking_in, left_view, parted_view}
use Rattle.unbounded_cells.specs.Laws.{Long}
use Rattle.unbounded_cells.specs.Told.{first_seat, on_with}
use Rattle.unbounded_cells.specs.declared.rule.BlockView.{BlockView}

module _ {T A : Type 0} where
  -- a view of this party that has no slot and no lock
  abbrev pub plain_view : View T A → BlockView T A
  plain_view p = record { party = p; held = None; keeper = false; top = 0; link = None; cleared = 0 }

  -- a new party, which knows its number and this is its state
  abbrev pub newcomer : ℕ → A → BlockView T A
  newcomer n a = plain_view (record { who = n; nameless = false; form = Unbounded; state = a; held = None; foreign = false; over = []; spent = false })

  abbrev pub enters : A → Step → Me (Option T) (BlockView T A) → ℕ → Me (Option T) (BlockView T A) → Type 0
  enters a st m found m' = (n : ℕ) × (m' ≡ me (newcomer n a) None)

  -- the party goes there, and nothing else of the seat changes
  abbrev pub turns : (A → A) → Step → Me (Option T) (BlockView T A) → ℕ → Me (Option T) (BlockView T A) → Type 0
  turns to st m found m' = m' ≡ me (on_with m.view (to m.view.party.state)) m.hand

  -- it is at a state to which this leads
  abbrev pub led_by : (A → A → Type 0) → Step → Me (Option T) (BlockView T A) → ℕ → Me (Option T) (BlockView T A) → Type 0
  led_by to st m found m' = to m.view.party.state m'.view.party.state × (m' ≡ me (on_with m.view m'.view.party.state) m.hand)

  -- the seat's party is another, or knows more of itself
  abbrev pub with_party : BlockView T A → View T A → BlockView T A
  with_party v p = record v { party = p }

  -- the seat knows its number
  abbrev pub names : Step → Me (Option T) (BlockView T A) → ℕ → Me (Option T) (BlockView T A) → Type 0
  names st m found m' = (n : ℕ) × (m' ≡ me (with_party m.view (named_so m.view.party n)) m.hand)

  module _ (moves : QueueForm → A → Event T → A → Type 0) (is_history : HistoryOf T A) (sized : ℕ → List (View T A) → Contents T → Tally → Type 0) where
    -- a history in which the party is where its view says, or there was one as long as there are positions
    abbrev pub ShownOrLong : View T A → Type 0
    ShownOrLong p = Shown is_history p ⊎ Long moves is_history sized

    -- where the word that was found is 0, or no foreign call may be admitted
    abbrev pub looks : Type 0 → Step → Me (Option T) (BlockView T A) → ℕ → Me (Option T) (BlockView T A) → Type 0
    looks admits st m found m' = (m' ≡ m) × ((admits → found ≡ 0) → ShownOrLong m.view.party)

  -- ---- one party is joined into another's view, is taken in, or gets some of what another has

  abbrev pub joining : BlockView T A → BlockView T A → BlockView T A
  joining v w = with_party v (both_views v.party w.party)

  abbrev pub joined_away : BlockView T A → BlockView T A
  joined_away w = with_party w (spent_view w.party)

  abbrev pub taking : (A → A → A) → BlockView T A → BlockView T A → BlockView T A
  taking both v w = with_party v (taking_in both v.party w.party)

  abbrev pub taken : (A → A) → BlockView T A → BlockView T A
  taken left w = with_party w (left_view left w.party)

  abbrev pub parting : BlockView T A → A → BlockView T A
  parting v a = plain_view (parted_view v.party a)

  -- what is left to the other's seat, as it was picked
  abbrev pub left_as : A → (BlockView T A → BlockView T A) → BlockView T A
  left_as a to = to (first_seat a)

  -- ---- the lock of the spare list

  -- the seat that lies with the lock, of a party that makes no calls
  abbrev pub lock_seat : A → BlockView T A → BlockView T A
  lock_seat a v = record { party = record { who = 0; nameless = true; form = Unbounded; state = a; held = None; foreign = false; over = []; spent = false }; held = None; keeper = v.keeper; top = v.top; link = None; cleared = 0 }

  -- what is left to one that gave the lock on, and one that got it
  abbrev pub without_lock : BlockView T A → BlockView T A
  without_lock v = record v { keeper = false; top = 0; link = None; cleared = 0 }

  abbrev pub with_lock : BlockView T A → BlockView T A → BlockView T A
  with_lock v w = record v { keeper = true; top = w.top; link = None; cleared = 0 }
