-- On which cell a call makes its next operation, and what is known of that cell while the call is about to make it, whatever calls of
-- others are under way.
use Rattle.std.specs.Prelude.{◌≡◌, ◌⊎◌, ℕ, ◌<◌, ◌≤◌, ◌^◌, true, List, ◌++◌, ◌∷◌, length, Option, None, Some, slice_get}
use Rattle.concurrent_queue.specs.Bridge.{Happening, own, EventsLead, InOneOrder, HasCells}
use Rattle.concurrent_queue.specs.Capacity.{capacity_of}
use Rattle.concurrent_queue.specs.Contents.{Contents, can_put, slot_at}
use Rattle.concurrent_queue.specs.Deeds.{Move, loads, stores, exchanges, adds, sets_bits, keeps_bits, puts, takes, spares, retires, rests}
use Rattle.concurrent_queue.specs.Made.{new_cells}
use Rattle.concurrent_queue.specs.Queue.{Queue, Phase}
use Rattle.concurrent_queue.specs.Step.{ActiveQueueCall, seat, FitsAt}
use Rattle.concurrent_queue.specs.Walked.{standing}
use Rattle.concurrent_queue.specs.machine.BlocksDenotes.{times}
use Rattle.concurrent_queue.specs.machine.BlocksMakes.{blocks_moves}
use Rattle.concurrent_queue.specs.machine.Dispatch.{ring_cap}
use Rattle.concurrent_queue.specs.machine.Places.{Each}
use Rattle.concurrent_queue.specs.machine.RingMoves.{ring_moves}
use Rattle.concurrent_queue.specs.machine.RingWords.{ring_mark}
use Rattle.concurrent_queue.specs.machine.Single.{single_moves}
use Rattle.concurrent_queue.specs.declared.cells.QueueForm.{QueueForm}
use Rattle.concurrent_queue.specs.declared.cells.Slot.{Slot}
use Rattle.concurrent_queue.specs.declared.cells.Slot.TheVariants.{In}
use Rattle.concurrent_queue.specs.declared.cells.Word.{Word}
use Rattle.concurrent_queue.specs.declared.cells.Word.TheVariants.{Next, Reads, Written}
use Rattle.concurrent_queue.specs.declared.queue_call.CallState.{CallState}
use Rattle.concurrent_queue.specs.declared.queue_call.CallState.TheVariants.{Single, Ring, Blocks}
use Rattle.concurrent_queue.specs.declared.queue_call.QueueCall.{QueueCall}

-- what an operation is made on: a word, a slot, the list of spare blocks, or a block that is given back, with all that is in it
pub data Target : Type 0 where
  on_word : Word → Target
  on_slot : Slot → Target
  on_spares : Target
  on_block : ℕ → Target
  on_nothing : Target

abbrev pub target : {T A : Type 0} → Move T A → Target
target (loads w k) = on_word w
target (stores w x a) = on_word w
target (exchanges w x y k) = on_word w
target (adds w x k) = on_word w
target (sets_bits w x k) = on_word w
target (keeps_bits w x k) = on_word w
target (puts at v k) = on_slot at
target (takes at k) = on_slot at
target (spares k) = on_spares
target (retires b a) = on_block b
target (rests a) = on_nothing

-- the block that is touched, if one is
abbrev pub touched_block : Target → Option ℕ
touched_block (on_word (Next b)) = Some b
touched_block (on_word (Reads b)) = Some b
touched_block (on_word (Written b i)) = Some b
touched_block (on_slot (In b i)) = Some b
touched_block (on_block b) = Some b
touched_block _ = None

-- a slot that is put into is empty, and one that is taken from has a message
abbrev pub IsServed : {T A : Type 0} → Contents T → Move T A → Type 0
IsServed c (puts at v k) = can_put c at ≡ true
IsServed {T} c (takes at k) = (v : T) × (slot_at c at ≡ Some v)
IsServed c _ = Unit {0}

module _ {T : Type 0} where
  abbrev pub target_at : QueueForm → CallState T → Target
  target_at form (Single a) = target (single_moves a)
  target_at form (Ring a) = target (ring_moves (ring_cap form) (ring_mark (ring_cap form)) a)
  target_at form (Blocks a) = target (blocks_moves a.action)
  target_at form _ = on_nothing

  -- what a call of a queue of this form makes its next operation on
  abbrev pub next_target : QueueForm → QueueCall T → Target
  next_target form call = target_at form (standing form call.state)

  abbrev pub served_at : QueueForm → Contents T → CallState T → Type 0
  served_at form c (Single a) = IsServed c (single_moves a)
  served_at form c (Ring a) = IsServed c (ring_moves (ring_cap form) (ring_mark (ring_cap form)) a)
  served_at form c (Blocks a) = IsServed c (blocks_moves a.action)
  served_at form c _ = Unit {0}

  -- its next operation finds its slot as it has to be, if it is made on one
  abbrev pub NextIsServed : QueueForm → Contents T → QueueCall T → Type 0
  NextIsServed form c call = served_at form c (standing form call.state)

  -- a call under way among these others, with all of which the cells mean a queue
  pub record IsUnderWayAmong (c : Contents T) (call : QueueCall T) (others : List (ActiveQueueCall T)) : Type 0 where
    pub chain : List ℕ
    pub queue : Queue T
    pub phase : Phase T
    pub before : List (ActiveQueueCall T)
    pub behind : List (ActiveQueueCall T)
    pub others_are : others ≡ before ++ behind
    pub fits : FitsAt chain c queue (before ++ seat call phase ∷ behind)

  abbrev pub IsOneOf : QueueCall T → List (ActiveQueueCall T) → Type 0
  IsOneOf call others = (k : ℕ) × (p : Phase T) × (slice_get others k ≡ Some (seat call p))

  -- what parties did to a new queue of this form, all in one order, has led the machine of each to `at` of it, or its call has ended.
  -- One slot counts no positions; in other queues there are fewer events than positions
  pub record HasLed (form : QueueForm) (events : List (Happening T)) (last : Contents T) (at : ℕ → Option (QueueCall T)) : Type 0 where
    pub has : HasCells form
    pub lasts : (capacity_of form ≡ Some 1) ⊎ (length events ≤ 2 ^ 61)
    pub led : (p : ℕ) → EventsLead form None (own p events) (at p)
    pub order : InOneOrder events (new_cells form) last

-- then each party's call is under way among those of all other parties
abbrev pub PartiesAreAmongOthers : Type 0 → Type 0
PartiesAreAmongOthers T =
    (form : QueueForm) (events : List (Happening T)) (last : Contents T) (at : ℕ → Option (QueueCall T)) → HasLed form events last at
    → (p : ℕ) (call : QueueCall T) → at p ≡ Some call
    → (others : List (ActiveQueueCall T)) × (last.form ≡ form) × IsUnderWayAmong last call others
    × ((q : ℕ) (other : QueueCall T) → (p ≡ q → ⊥) → at q ≡ Some other → IsOneOf other others)

-- ---- blocks

-- a block that a call is about to touch was made and is not spare
abbrev pub TouchedBlocksAreInUse : Type 0 → Type 0
TouchedBlocksAreInUse T =
    (c : Contents T) (call : QueueCall T) (others : List (ActiveQueueCall T)) (b : ℕ) → IsUnderWayAmong c call others → touched_block (next_target c.form call) ≡ Some b
    → (b < length c.blocks) × (times b c.spares ≡ 0)

-- one that a call is about to give back no other is about to touch
abbrev pub BlocksAreGivenBackAlone : Type 0 → Type 0
BlocksAreGivenBackAlone T =
    (c : Contents T) (call : QueueCall T) (others : List (ActiveQueueCall T)) (b : ℕ) → IsUnderWayAmong c call others → next_target c.form call ≡ on_block b
    → Each (λ x. touched_block (next_target c.form x.call) ≡ Some b → ⊥) others

-- ---- slots

-- a slot that a call is about to put into or take from no other is about to touch
abbrev pub SlotsAreTouchedAlone : Type 0 → Type 0
SlotsAreTouchedAlone T =
    (c : Contents T) (call : QueueCall T) (others : List (ActiveQueueCall T)) (at : Slot) → IsUnderWayAmong c call others → next_target c.form call ≡ on_slot at
    → Each (λ x. next_target c.form x.call ≡ on_slot at → ⊥) others

-- and it is empty or has a message, as the call has to find it
abbrev pub SlotsAreAsExpected : Type 0 → Type 0
SlotsAreAsExpected T = (c : Contents T) (call : QueueCall T) (others : List (ActiveQueueCall T)) → IsUnderWayAmong c call others → NextIsServed c.form c call

-- ---- wherever a history has led

-- what a party's call is about to touch is its own, beside the calls of all others
pub record TouchesItsOwn {T : Type 0} (form : QueueForm) (c : Contents T) (at : ℕ → Option (QueueCall T)) (p : ℕ) (call : QueueCall T) : Type 0 where
  pub slot : (q : ℕ) (other : QueueCall T) (s : Slot) → (p ≡ q → ⊥) → at q ≡ Some other → next_target form call ≡ on_slot s → next_target form other ≡ on_slot s → ⊥
  pub expected : NextIsServed form c call
  pub block : (b : ℕ) → touched_block (next_target form call) ≡ Some b → (b < length c.blocks) × (times b c.spares ≡ 0)
  pub given_back : (q : ℕ) (other : QueueCall T) (b : ℕ) → (p ≡ q → ⊥) → at q ≡ Some other → next_target form call ≡ on_block b → touched_block (next_target form other) ≡ Some b → ⊥

abbrev pub EachTouchesItsOwn : Type 0 → Type 0
EachTouchesItsOwn T =
    (form : QueueForm) (events : List (Happening T)) (last : Contents T) (at : ℕ → Option (QueueCall T)) → HasLed form events last at
    → (p : ℕ) (call : QueueCall T) → at p ≡ Some call → TouchesItsOwn form last at p call
