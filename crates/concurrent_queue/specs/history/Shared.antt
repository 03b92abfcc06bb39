-- The rule of a table that threads share: the words are a guard for each slot, then the queue's own words, a flag and six counts; and so
-- long as no foreign call was admitted, the machine's history has made them and the slots what they are. And what each kind of step tells
-- its seat.
use Rattle.std.specs.Prelude.{◌≡◌, ◌≢◌, ℕ, zero, suc, ◌+◌, ◌-◌, ◌<◌, ◌≤◌, ◌==◌, nat_lt, true, false, List, [], ◌∷◌, ◌++◌, length, drop, Option, None, Some, Result, Ok, Err, slice_index, slice_index_or, slice_set, if◌then◌else◌, map}
use mathlib.Core.Option as home
use lib.ListN.{get_elem?}
use Rattle.atomic_table.specs.Table.{Me, Step, rest}
use Rattle.atomic_table.specs.Table as table
use Rattle.concurrent_queue.specs.Bridge.{Event, does, HasCells}
use Rattle.concurrent_queue.specs.Contents.{Contents, no_contents}
use Rattle.concurrent_queue.specs.Deeds.{Deed, loaded, stored, exchanged, added, bits_set, bits_kept, did_put, did_take}
use Rattle.concurrent_queue.specs.Effects.{Does}
use Rattle.concurrent_queue.specs.Places.{place_of, table_of, index_of}
use Rattle.concurrent_queue.specs.machine.Guarded.{IsGuarded}
use Rattle.concurrent_queue.specs.declared.cells.QueueForm.{QueueForm}
use Rattle.concurrent_queue.specs.declared.cells.QueueForm.TheVariants.{Bounded, Unbounded}
use Rattle.concurrent_queue.specs.declared.cells.Word.{Word}
use Rattle.concurrent_queue.specs.declared.cells.Word.TheVariants.{State, Head, Tail, Stamp, HeadBlock, TailBlock}
use Rattle.concurrent_queue.specs.declared.cells.Slot.{Slot}
use Rattle.concurrent_queue.specs.declared.cells.Slot.TheVariants.{At, In}
use Rattle.concurrent_queue.specs.declared.history.rule.Counter.{Counter}
use Rattle.concurrent_queue.specs.declared.history.rule.Counter.TheVariants.{First, Second, Third, Fourth, Fifth, Sixth}
use Rattle.concurrent_queue.specs.declared.history.rule.CountStep.{CountStep}
use Rattle.concurrent_queue.specs.declared.history.rule.CountStep.TheVariants.{Read, Lower, Raise, Set}
use Rattle.concurrent_queue.specs.history.Joined.{AllStood, EachOnce, IsJoined}
use Rattle.concurrent_queue.specs.history.Keeps.{HistoryOf, Tally}
use Rattle.concurrent_queue.specs.declared.history.rule.View.{View}

-- how many slots a queue has, how many stamps, and how many words of its own; only a ring has stamps
abbrev pub slots_of : QueueForm → ℕ
slots_of (Bounded cap) = cap
slots_of Unbounded = 0

abbrev pub stamps_of : QueueForm → ℕ
stamps_of (Bounded cap) = if cap == 1 then 0 else cap
stamps_of Unbounded = 0

abbrev pub words_of : QueueForm → ℕ
words_of form = 32 + stamps_of form

-- the word at an index among the queue's own words
abbrev pub few_word : ℕ → Word
few_word zero = State
few_word (suc zero) = Head
few_word (suc (suc zero)) = HeadBlock
few_word n = if nat_lt n 17 then Tail else TailBlock

abbrev pub own_word : ℕ → Word
own_word n = if nat_lt n 32 then few_word n else Stamp (n - 32)

-- it is one of the queue's own words, and there is such a word
abbrev pub IsOwn : QueueForm → Word → Type 0
IsOwn form w = (table_of (place_of w) ≡ None) × (index_of (place_of w) < words_of form)

-- it is none of them: a stamp that isn't there, or a word of a block
abbrev pub IsAbsent : QueueForm → Word → Type 0
IsAbsent form w = IsOwn form w → ⊥

-- a slot that isn't there, or one of a block
abbrev pub IsNoSlot : QueueForm → Slot → Type 0
IsNoSlot form (At i) = slots_of form ≤ i
IsNoSlot form (In b i) = Unit {0}

-- where the word lies that isn't 0 once a foreign call was admitted; it is none of the queue's own
abbrev pub flag_at : QueueForm → ℕ
flag_at form = slots_of form + 24

-- where the words lie with which a machine counts; they are none of the queue's own either
abbrev pub offset_of : Counter → ℕ
offset_of First = 9
offset_of Second = 28
offset_of Third = 10
offset_of Fourth = 11
offset_of Fifth = 12
offset_of Sixth = 13

abbrev pub count_at : QueueForm → Counter → ℕ
count_at form which = slots_of form + offset_of which

-- the words of a table with so many slots, where the first two counts hold this
abbrev pub counts_set : ℕ → ℕ → List ℕ → List ℕ
counts_set slots n words = slice_set (slice_set words (slots + 9) n) (slots + 28) n

abbrev pub count_in : QueueForm → List ℕ → Counter → ℕ
count_in form words which = slice_index words (count_at form which)

abbrev pub tally_in : QueueForm → List ℕ → Tally
tally_in form words = record {
  first = count_in form words First;
  second = count_in form words Second;
  third = count_in form words Third;
  fourth = count_in form words Fourth;
  fifth = count_in form words Fifth;
  sixth = count_in form words Sixth;
}

-- which of them lies there
abbrev pub counter_at : ℕ → Counter
counter_at n = if n == 9 then First else (if n == 10 then Third else (if n == 11 then Fourth else (if n == 12 then Fifth else (if n == 13 then Sixth else Second))))

-- what an exchange answers where this was found
abbrev pub answer : ℕ → ℕ → Result ℕ ℕ
answer n x = if n == x then Ok n else Err n

module _ {T : Type 0} where
  -- what a queue's cells hold, whose table has these words, and which has these messages in its slots
  abbrev pub contents : QueueForm → List ℕ → List (Option T) → Contents T
  contents form words values =
      record (no_contents form) {
        state = slice_index words (slots_of form + 0);
        head = slice_index words (slots_of form + 1);
        tail = slice_index words (slots_of form + 16);
        stamps = drop (slots_of form + 32) words;
        slots = values;
        head_block = slice_index words (slots_of form + 2);
        tail_block = slice_index words (slots_of form + 17);
      }

  -- cells of a queue with a bound, with as many stamps and slots as it has
  pub record HasSize (form : QueueForm) (c : Contents T) : Type 0 where
    pub blocks : c.blocks ≡ []
    pub stamps : length c.stamps ≡ stamps_of form
    pub slots : length c.slots ≡ slots_of form

  -- an operation that leaves all cells as they are
  abbrev pub LeavesAll : QueueForm → Deed T → Type 0
  LeavesAll form d = (c : Contents T) → HasSize form c → Does d c c

  -- the slot that a view says is out with its seat
  abbrev pub slot_in : Option (ℕ × Option T) → Option ℕ
  slot_in (Some x) = Some x.0
  slot_in None = None

-- the table, and a seat of it: what its view says, and the slots that it really holds
abbrev pub TableState : Type 0 → Type 0 → Type 0
TableState T A = table.State (Option T) (View T A)

abbrev pub Seated : Type 0 → Type 0 → Type 0
Seated T A = Me (Option T) (View T A)

module _ {T A : Type 0} where
  -- a view whose party's machine has gone on, and one that says that a slot is out, or none
  abbrev pub going_on : View T A → A → View T A
  going_on v a = record v { state = a }

  abbrev pub holding : View T A → Option (ℕ × Option T) → View T A
  holding v held = record v { held = held }

  abbrev pub slot_out : View T A → Option ℕ
  slot_out v = slot_in v.held

  -- the table as the rule of guards sees it
  abbrev pub guarded : TableState T A → table.State (Option T) (Option ℕ)
  guarded s = record { words = s.words; homes = s.homes; views = map slot_out s.views }

  abbrev pub first_view : A → QueueForm → View T A
  first_view a form = record { who = 0; nameless = false; form = form; state = a; held = None; foreign = false; over = []; spent = false }

  -- of the views of a table whose flag is this: each says its seat's number, if it has a name, and the table's form; a foreign one was
  -- admitted; and the parties that were joined into others are as these say
  pub record AreSeated (form : QueueForm) (flag : ℕ) (views : List (View T A)) : Type 0 where
    pub named : (j : ℕ) (v : View T A) → get_elem? views j ≡ home.some v → (v.nameless ≡ false → v.who ≡ j) × (v.form ≡ form)
    pub admitted : (j : ℕ) (v : View T A) → get_elem? views j ≡ home.some v → v.foreign ≡ true → flag ≢ 0
    pub joined : IsJoined views

  abbrev pub flag_in : QueueForm → TableState T A → ℕ
  flag_in form s = slice_index s.words (flag_at form)

  module _ (is_history : HistoryOf T A) where
    -- THE HISTORY: one has led to the cells and the counts, and it has in each slot at home what lies there, and in each that is out what
    -- its seat's view says
    pub record IsKept (form : QueueForm) (s : TableState T A) : Type 0 where
      pub values : List (Option T)
      pub count : length values ≡ slots_of form
      pub at_home : (i : ℕ) (x : Option T) → get_elem? s.homes i ≡ home.some (home.some x) → slice_index_or values i None ≡ x
      pub away : (j : ℕ) (v : View T A) (i : ℕ) (x : Option T) → get_elem? s.views j ≡ home.some v → v.held ≡ Some (i, x) → slice_index_or values i None ≡ x
      pub history : is_history form s.views (contents form s.words values) (tally_in form s.words)

    -- THE RULE: a slot is out exactly where its guard is won, by the one seat whose view says so; and there is the history, while no foreign
    -- call was admitted if any may be
    pub record IsRuled (admits : Type 0) (form : QueueForm) (s : TableState T A) : Type 0 where
      pub has : HasCells form
      pub slots : length s.homes ≡ slots_of form
      pub words : length s.words ≡ slots_of form + words_of form
      pub guards : IsGuarded (guarded s)
      pub seated : AreSeated form (flag_in form s) s.views
      pub kept : (admits → flag_in form s ≡ 0) → IsKept form s

    -- a seat that knows its number is told the history of this moment, in which its party is at the state that its view says, and so is each
    -- that was joined in
    abbrev pub Shown : View T A → Type 0
    Shown v =
        (views : List (View T A)) × (c : Contents T) × (t : Tally) × is_history v.form views c t × (get_elem? views v.who ≡ home.some v) × HasCells v.form
        × AllStood views v.over × EachOnce ((v.who, v.state) ∷ v.over)

    -- where the word that was found is 0, or no foreign call may be admitted
    abbrev pub looks : Type 0 → Step (Option T) → Seated T A → ℕ → Seated T A → Type 0
    looks admits st m found m' = (m' ≡ m) × ((admits → found ≡ 0) → Shown m.0)

  module _ (moves : QueueForm → A → Event T → A → Type 0) where
    -- ---- what a step tells its seat

    -- its machine made this operation, and nothing else of the seat has changed
    abbrev pub Made : Deed T → Seated T A → Seated T A → Type 0
    Made d m m' = moves m.0.form m.0.state (does (Some d)) m'.0.state × (m' ≡ (going_on m.0 m'.0.state, m.1))

    abbrev pub word_of : Step (Option T) → Word
    word_of st = own_word (st.word - st.slots)

    abbrev pub loads : Step (Option T) → Seated T A → ℕ → Seated T A → Type 0
    loads st m found m' = Made (loaded (word_of st) found) m m'

    abbrev pub stores : Step (Option T) → Seated T A → ℕ → Seated T A → Type 0
    stores st m found m' = Made (stored (word_of st) st.first) m m'

    abbrev pub exchanges : Step (Option T) → Seated T A → ℕ → Seated T A → Type 0
    exchanges st m found m' = Made (exchanged (word_of st) st.first st.second (answer found st.first)) m m'

    abbrev pub adds : Step (Option T) → Seated T A → ℕ → Seated T A → Type 0
    adds st m found m' = Made (added (word_of st) st.first found) m m'

    abbrev pub sets_bits : Step (Option T) → Seated T A → ℕ → Seated T A → Type 0
    sets_bits st m found m' = Made (bits_set (word_of st) st.first found) m m'

    abbrev pub keeps_bits : Step (Option T) → Seated T A → ℕ → Seated T A → Type 0
    keeps_bits st m found m' = Made (bits_kept (word_of st) st.first found) m m'

    -- an operation that leaves all cells as they are
    abbrev pub makes : Deed T → Step (Option T) → Seated T A → ℕ → Seated T A → Type 0
    makes d st m found m' = Made d m m'

    -- the slot whose guard was won: its content was x, and the history has y there from now on
    abbrev pub Won : ℕ → Option T → Option T → Deed T → Seated T A → Seated T A → Type 0
    Won i x y d m m' = moves m.0.form m.0.state (does (Some d)) m'.0.state × (m' ≡ (holding (going_on m.0 m'.0.state) (Some (i, y)), (i, x) ∷ m.1))

    -- a message is taken out of a slot in the step that wins its guard; if another seat has it nothing was done
    abbrev pub takes : Step (Option T) → Seated T A → ℕ → Seated T A → Type 0
    takes st m found m' =
        (found ≡ 0 → (x : Option T) × Won st.word x None (did_take (At st.word) x) m m')
        × (found ≢ 0 → m' ≡ m)

    -- this message is put into a slot in the step that wins its guard, or is returned
    abbrev pub PutOn : ℕ → T → Option T → Seated T A → Seated T A → Type 0
    PutOn i v None m m' = Won i None (Some v) (did_put (At i) v (Ok tt)) m m'
    PutOn i v (Some y) m m' = Won i (Some y) (Some y) (did_put (At i) v (Err v)) m m'

    abbrev pub brings : home.Option (Option T) → (T → Type 0) → Type 0
    brings (home.some (Some v)) F = F v
    brings _ F = Unit {0}

    abbrev pub puts : Step (Option T) → Seated T A → ℕ → Seated T A → Type 0
    puts st m found m' =
        brings st.said (λ v. (found ≡ 0 → (x : Option T) × PutOn st.word v x m m') × (found ≢ 0 → m' ≡ m))

  -- the slot and its guard are given back
  abbrev pub gives : Step (Option T) → Seated T A → ℕ → Seated T A → Type 0
  gives st m found m' = m' ≡ (holding m.0 None, rest m.1)

  -- a new seat of a party that may act, knows its number, and holds no slot
  abbrev pub IsNew : Seated T A → Seated T A → Type 0
  IsNew m m' = (m'.0.form ≡ m.0.form) × (m'.0.held ≡ None) × (m'.0.spent ≡ false) × (m'.0.nameless ≡ false) × (m'.0.over ≡ [])

  -- whose party is at this state
  abbrev pub enters : A → Step (Option T) → Seated T A → ℕ → Seated T A → Type 0
  enters a st m found m' = (m'.0.state ≡ a) × IsNew m m'

  -- the party goes there, and nothing else of the seat changes
  abbrev pub turns : (A → A) → Step (Option T) → Seated T A → ℕ → Seated T A → Type 0
  turns to st m found m' = m' ≡ (going_on m.0 (to m.0.state), m.1)

  -- it is at a state to which this leads
  abbrev pub led_by : (A → A → Type 0) → Step (Option T) → Seated T A → ℕ → Seated T A → Type 0
  led_by to st m found m' = to m.0.state m'.0.state × (m' ≡ (going_on m.0 m'.0.state, m.1))

  module _ (counts : QueueForm → A → A → Counter → CountStep → ℕ → Type 0) where
    -- its machine made this operation on a counting word, which found this number
    abbrev pub Counted : CountStep → Step (Option T) → Seated T A → ℕ → Seated T A → Type 0
    Counted op st m found m' = counts m.0.form m.0.state m'.0.state (counter_at (st.word - st.slots)) op found × (m' ≡ (going_on m.0 m'.0.state, m.1))

    abbrev pub count_reads : Step (Option T) → Seated T A → ℕ → Seated T A → Type 0
    count_reads st m found m' = Counted Read st m found m'

    abbrev pub count_lowers : Step (Option T) → Seated T A → ℕ → Seated T A → Type 0
    count_lowers st m found m' = Counted Lower st m found m'

    abbrev pub count_raises : Step (Option T) → Seated T A → ℕ → Seated T A → Type 0
    count_raises st m found m' = Counted (Raise st.first) st m found m'

  -- a count is set, and the party goes on as a relation says
  abbrev pub count_sets : (A → A → Type 0) → Step (Option T) → Seated T A → ℕ → Seated T A → Type 0
  count_sets to st m found m' = led_by to st m found m'

  -- if it is 0 the party goes on as a relation says; if it isn't nothing was done
  abbrev pub count_passes : (A → A → Type 0) → Step (Option T) → Seated T A → ℕ → Seated T A → Type 0
  count_passes to st m found m' = (found ≡ 0 → led_by to st m found m') × (found ≢ 0 → m' ≡ m)

  -- the seat knows its number
  abbrev pub named_so : View T A → ℕ → View T A
  named_so v n = record v { who = n; nameless = false }

  abbrev pub names : Step (Option T) → Seated T A → ℕ → Seated T A → Type 0
  names st m found m' = (n : ℕ) × (m' ≡ (named_so m.0 n, m.1))

  -- ---- foreign calls

  -- a new seat of no call; it is foreign where one was admitted before
  abbrev pub comes : A → Step (Option T) → Seated T A → ℕ → Seated T A → Type 0
  comes first st m found m' = (found ≢ 0 → m'.0.foreign ≡ true) × (m'.0.state ≡ first) × IsNew m m'

  -- it is admitted
  abbrev pub turns_foreign : Step (Option T) → Seated T A → ℕ → Seated T A → Type 0
  turns_foreign st m found m' = m' ≡ (record m.0 { foreign = true }, m.1)

  -- nothing of the seat changes
  abbrev pub passes : Step (Option T) → Seated T A → ℕ → Seated T A → Type 0
  passes st m found m' = m' ≡ m

  -- a slot is won where its guard was 0, whatever it holds
  abbrev pub wins : Step (Option T) → Seated T A → ℕ → Seated T A → Type 0
  wins st m found m' =
      (found ≡ 0 → (x : Option T) × (m' ≡ (holding m.0 (Some (st.word, x)), (st.word, x) ∷ m.1))) × (found ≢ 0 → m' ≡ m)

  -- ---- one party is joined into another's view

  abbrev pub both_views : View T A → View T A → View T A
  both_views v w = record v { over = v.over ++ (w.who, w.state) ∷ w.over }

  abbrev pub spent_view : View T A → View T A
  spent_view w = record w { over = []; spent = true }

  -- what is left to the other's seat, as it was picked
  abbrev pub spent_as : A → (View T A → View T A) → View T A
  spent_as a to = to (first_view a Unbounded)

  -- ---- a party takes in what another has, and some of it goes to a new one

  abbrev pub taking_in : (A → A → A) → View T A → View T A → View T A
  taking_in both v w = going_on v (both v.state w.state)

  abbrev pub left_view : (A → A) → View T A → View T A
  left_view left w = record w { state = left w.state; over = []; spent = true }

  abbrev pub parted_view : View T A → A → View T A
  parted_view v a = record { who = 0; nameless = true; form = v.form; state = a; held = None; foreign = false; over = []; spent = false }
