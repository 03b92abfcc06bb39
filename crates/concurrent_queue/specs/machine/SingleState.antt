-- What a queue of one slot means while calls are under way.
use Rattle.std.specs.Prelude.{◌≡◌, ℕ, ◌+◌, ◌==◌, Bool, false, List, [], ◌∷◌, length, Option, None, Some, is_some, option_to_list, if◌then◌else◌, ◌⊎◌}
use Rattle.concurrent_queue.specs.Contents.{Contents}
use Rattle.concurrent_queue.specs.Queue.{Queue, Stage, trying, appended, taken, Phase}
use Rattle.concurrent_queue.specs.machine.Places.{Place, Each, sum}
use Rattle.concurrent_queue.specs.declared.call.QueueAsk.{QueueAsk}
use Rattle.concurrent_queue.specs.declared.call.QueueAsk.TheVariants as ask
use Rattle.concurrent_queue.specs.declared.single.SingleAction.{SingleAction}
use Rattle.concurrent_queue.specs.declared.single.SingleAction.TheVariants.{Push, PushPut, PushUnlock, Force, ForceTake, ForcePut, ForceUnlock, Pop, PopTake, PopUnlock, Close, IsClosed, IsEmpty, IsFull, Len, Capacity, Finished}

-- the word of the three bits
abbrev pub word_of : Bool → Bool → Bool → ℕ
word_of locked pushed closed = (if locked then 1 else 0) + (if pushed then 2 else 0) + (if closed then 4 else 0)

module _ {T : Type 0} where
  -- whether a call at this action holds the slot
  abbrev pub holds : SingleAction T → ℕ
  holds (PushPut v) = 1
  holds PushUnlock = 1
  holds (ForceTake v) = 1
  holds (ForcePut v d) = 1
  holds (ForceUnlock d) = 1
  holds PopTake = 1
  holds (PopUnlock v) = 1
  holds _ = 0

  abbrev pub IsTrying : Stage T → Type 0
  IsTrying (trying seen) = Unit {0}
  IsTrying _ = ⊥

  -- a call that asks this and has no mark
  abbrev pub Tries : QueueAsk T → Phase T → Type 0
  Tries a p = (p.ask ≡ a) × IsTrying p.stage

  -- a call that asks this and has come so far
  abbrev pub StandsSingle : QueueAsk T → Stage T → Phase T → Type 0
  StandsSingle a s p = (p.ask ≡ a) × (p.stage ≡ s)

  -- what a call at this action asked and did; for one that holds the slot, also what the slot and the list hold
  abbrev pub KnowsSingle : Option T → Option T → SingleAction T → Phase T → Type 0
  KnowsSingle slot item (Push v) p = Tries (ask.Push v) p
  KnowsSingle slot item (PushPut v) p = StandsSingle (ask.Push v) (appended None) p × (slot ≡ None) × (item ≡ Some v)
  KnowsSingle slot item PushUnlock p = (v : T) × StandsSingle (ask.Push v) (appended None) p × (slot ≡ Some v) × (item ≡ Some v)
  KnowsSingle slot item (Force v x) p = Tries (ask.ForcePush v) p × ((x ≡ 0) ⊎ (x ≡ 2))
  KnowsSingle slot item (ForceTake v) p = (d : T) × StandsSingle (ask.ForcePush v) (appended (Some d)) p × (slot ≡ Some d) × (item ≡ Some v)
  KnowsSingle slot item (ForcePut v d) p = StandsSingle (ask.ForcePush v) (appended d) p × (slot ≡ None) × (item ≡ Some v)
  KnowsSingle slot item (ForceUnlock d) p = (v : T) × StandsSingle (ask.ForcePush v) (appended d) p × (slot ≡ Some v) × (item ≡ Some v)
  KnowsSingle slot item (Pop x) p = Tries ask.Pop p × ((x ≡ 2) ⊎ (x ≡ 6))
  KnowsSingle slot item PopTake p = (d : T) × StandsSingle ask.Pop (taken d) p × (slot ≡ Some d) × (item ≡ None)
  KnowsSingle slot item (PopUnlock d) p = StandsSingle ask.Pop (taken d) p × (slot ≡ None) × (item ≡ None)
  KnowsSingle slot item Close p = Tries ask.Close p
  KnowsSingle slot item IsClosed p = Tries ask.IsClosed p
  KnowsSingle slot item IsEmpty p = Tries ask.IsEmpty p
  KnowsSingle slot item IsFull p = Tries ask.IsFull p
  KnowsSingle slot item Len p = Tries ask.Len p
  KnowsSingle slot item Capacity p = Tries ask.Capacity p
  KnowsSingle slot item Finished p = ⊥

  abbrev pub holders : List (Place (SingleAction T) T) → ℕ
  holders ps = sum (λ a. holds a) ps

  -- the word and the slot, with the calls under way, mean this queue. If nobody holds the slot it has what the list has;
  -- at most one call holds it
  pub record Means (c : Contents T) (q : Queue T) (ps : List (Place (SingleAction T) T)) (locked : Bool) (item slot : Option T) : Type 0 where
    pub state : c.state ≡ word_of locked (is_some item) q.closed
    pub slots : c.slots ≡ slot ∷ []
    pub items : q.items ≡ option_to_list item
    pub coming : q.coming ≡ false
    pub counts : length q.items + q.removed ≡ q.accepted
    pub limit : q.capacity ≡ Some 1
    pub one_holder : holders ps ≡ (if locked then 1 else 0)
    pub at_rest : locked ≡ false → item ≡ slot
    pub calls : Each (λ (p : Place (SingleAction T) T). KnowsSingle slot item p.action p.phase) ps

  abbrev pub SingleMeans : Contents T → Queue T → List (Place (SingleAction T) T) → Type 0
  SingleMeans c q ps = (locked : Bool) × (item : Option T) × (slot : Option T) × Means c q ps locked item slot

  -- how many steps a call at this action still needs, where no other holds the slot
  abbrev pub single_rank : Contents T → SingleAction T → ℕ
  single_rank c (Push v) = 3
  single_rank c (PushPut v) = 2
  single_rank c PushUnlock = 1
  single_rank c (Force v x) = if c.state == x then 4 else 5
  single_rank c (ForceTake v) = 3
  single_rank c (ForcePut v d) = 2
  single_rank c (ForceUnlock d) = 1
  single_rank c (Pop x) = if c.state == x then 3 else 4
  single_rank c PopTake = 2
  single_rank c (PopUnlock v) = 1
  single_rank c _ = 1
