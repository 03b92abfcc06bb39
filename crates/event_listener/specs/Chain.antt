-- Chains of nodes through their links, seen as lists of their slots.
use Rattle.std.specs.Prelude.{◌≡◌, ◌≢◌, ℕ, zero, suc, ◌<◌, List, [], ◌∷◌, ◌++◌, length, Option, Some, None, IsSome, IfSome}
use Rattle.slab.specs.Slab.{Slab, get}
use Rattle.event_listener.specs.declared.key.Key.{Key}
use Rattle.event_listener.specs.declared.node.Ends.{Ends}
use Rattle.event_listener.specs.declared.node.Node.{Node}
use Rattle.event_listener.specs.declared.node.State.{State}
use Rattle.event_listener.specs.declared.node.State.TheVariants.{Waiting, Told}
use Rattle.event_listener.specs.Lists.{Notice, Lists}

-- The links of a chain are two functions, where None stands for the two ends: what follows None is the first, and
-- what stands before None is the last.
abbrev pub Link : Type 0
Link = Option ℕ → Option ℕ

-- from p the links lead through these slots to n, and back
abbrev pub Linked : Link → Link → Option ℕ → List ℕ → Option ℕ → Type 0
Linked after before p [] n = (after p ≡ n) × (before n ≡ p)
Linked after before p (k ∷ ks) n =
    (after p ≡ Some k) × (before (Some k) ≡ p) × Linked after before (Some k) ks n

-- x is none of these
abbrev pub Apart : Option ℕ → List ℕ → Type 0
Apart x [] = Unit {0}
Apart x (k ∷ ks) = (x ≢ Some k) × Apart x ks

abbrev pub Distinct : List ℕ → Type 0
Distinct [] = Unit {0}
Distinct (k ∷ ks) = Apart (Some k) ks × Distinct ks

-- k stands among these
abbrev pub Among : ℕ → List ℕ → Type 0
Among k ks = (front : List ℕ) × (back : List ℕ) × (ks ≡ front ++ k ∷ back)

-- Two chains: the links of the one lead through the told nodes from its first to its last and back, those of the other
-- through the waiting ones. No node is in both, so no link leads from one chain to the other.
pub record Chains (told_after told_before waiting_after waiting_before : Link) (ks ws : List ℕ) : Type 0 where
  pub told : Linked told_after told_before None ks None
  pub waiting : Linked waiting_after waiting_before None ws None
  pub distinct : Distinct (ks ++ ws)

-- what became of the links where the node k left
pub record Unlinks (after before after' before' : Link) (k : ℕ) : Type 0 where
  pub forward : after' (before (Some k)) ≡ after (Some k)
  pub forward_rest : (x : Option ℕ) → x ≢ before (Some k) → x ≢ Some k → after' x ≡ after x
  pub backward : before' (after (Some k)) ≡ before (Some k)
  pub backward_rest : (x : Option ℕ) → x ≢ after (Some k) → x ≢ Some k → before' x ≡ before x

-- what became of the links where the node k came in at the end
pub record Links_last (after before after' before' : Link) (k : ℕ) : Type 0 where
  pub forward : after' (before None) ≡ Some k
  pub forward_new : after' (Some k) ≡ None
  pub forward_rest : (x : Option ℕ) → x ≢ before None → x ≢ Some k → after' x ≡ after x
  pub backward : before' None ≡ Some k
  pub backward_new : before' (Some k) ≡ before None
  pub backward_rest : (x : Option ℕ) → x ≢ None → x ≢ Some k → before' x ≡ before x

-- the slots that the links lead through behind p, so many of them
abbrev pub walk : Link → ℕ → Option ℕ → List ℕ
walk after zero p = []
walk after (suc n) p = elim (after p) [ None ↦ [] | Some k ↦ k ∷ walk after n (Some k) ]

-- the lists of a chain's nodes, one after another
abbrev pub pieces : {X : Type 0} → (ℕ → List X) → List ℕ → List X
pieces f [] = []
pieces f (k ∷ ks) = f k ++ pieces f ks

-- P holds at each of these slots
abbrev pub AtEach : (ℕ → Type 0) → List ℕ → Type 0
AtEach P [] = Unit {0}
AtEach P (k ∷ ks) = P k × AtEach P ks

abbrev pub first_or : List ℕ → Option ℕ → Option ℕ
first_or [] n = n
first_or (k ∷ ks) n = Some k

abbrev pub last_or : Option ℕ → List ℕ → Option ℕ
last_or p [] = p
last_or p (k ∷ ks) = last_or (Some k) ks

-- what a node says of its listener
pub record Entry (T W : Type 0) : Type 0 where
  pub serial : ℕ
  pub state : State T W

module _ {T W : Type 0} where
  abbrev pub entry : Option (Node T W) → Option (Entry T W)
  entry None = None
  entry (Some node) = Some (record { serial = node.serial; state = node.state })

  -- a listener that was just added, with a task or without
  abbrev pub fresh_entry : ℕ → Option W → Entry T W
  fresh_entry serial task = record { serial = serial; state = Waiting task }

  abbrev pub entry_at : Slab (Node T W) → ℕ → Option (Entry T W)
  entry_at slab k = entry (get slab k)

  abbrev pub node_after : Option (Node T W) → Option ℕ
  node_after None = None
  node_after (Some node) = node.after

  abbrev pub node_before : Option (Node T W) → Option ℕ
  node_before None = None
  node_before (Some node) = node.before

  abbrev pub after_of : Ends → Slab (Node T W) → Link
  after_of ends slab None = ends.first
  after_of ends slab (Some k) = node_after (get slab k)

  abbrev pub before_of : Ends → Slab (Node T W) → Link
  before_of ends slab None = ends.last
  before_of ends slab (Some k) = node_before (get slab k)

  -- the two chains of these nodes, by the ends of each
  abbrev pub ChainsOf : Slab (Node T W) → Ends → Ends → List ℕ → List ℕ → Type 0
  ChainsOf slab told waiting ks ws =
      Chains (after_of told slab) (before_of told slab) (after_of waiting slab) (before_of waiting slab) ks ws

  abbrev pub told_state : Key → State T W → List (Key × Notice T)
  told_state key (Waiting task) = []
  told_state key (Told additional tag) = (key, record { additional = additional; tag = tag }) ∷ []

  abbrev pub waiting_state : Key → State T W → List (Key × Option W)
  waiting_state key (Waiting task) = (key, task) ∷ []
  waiting_state key (Told additional tag) = []

  abbrev pub told_piece : ℕ → Option (Entry T W) → List (Key × Notice T)
  told_piece k None = []
  told_piece k (Some e) = told_state (record { slot = k; serial = e.serial }) e.state

  abbrev pub waiting_piece : ℕ → Option (Entry T W) → List (Key × Option W)
  waiting_piece k None = []
  waiting_piece k (Some e) = waiting_state (record { slot = k; serial = e.serial }) e.state

  -- the lists of the listeners at these slots
  abbrev pub lists_at : (ℕ → Option (Entry T W)) → List ℕ → Lists T W
  lists_at entries ks =
      record { told = pieces (λ k. told_piece k (entries k)) ks; waiting = pieces (λ k. waiting_piece k (entries k)) ks }

  abbrev pub IsToldState : State T W → Type 0
  IsToldState (Waiting task) = ⊥
  IsToldState (Told additional tag) = Unit {0}

  abbrev pub IsWaitingState : State T W → Type 0
  IsWaitingState (Waiting task) = Unit {0}
  IsWaitingState (Told additional tag) = ⊥

  abbrev pub IsTold : Option (Entry T W) → Type 0
  IsTold None = ⊥
  IsTold (Some e) = IsToldState e.state

  abbrev pub IsWaiting : Option (Entry T W) → Type 0
  IsWaiting None = ⊥
  IsWaiting (Some e) = IsWaitingState e.state

  -- the state is the one that stands under a key in the two lists
  abbrev pub IsStateOf : State T W → Option (Notice T) → Option (Option W) → Type 0
  IsStateOf (Waiting task) told waiting = (told ≡ None) × (waiting ≡ Some task)
  IsStateOf (Told additional tag) told waiting = (told ≡ Some (record { additional = additional; tag = tag })) × (waiting ≡ None)

  -- what stands beside a node
  pub record Beside (after before : Link) (E : ℕ → Option (Entry T W)) (k : ℕ) : Type 0 where
    pub before_live : IfSome (before (Some k)) (λ x. IsSome (E x))
    pub after_live : IfSome (after (Some k)) (λ x. IsSome (E x))
    pub before_other : before (Some k) ≢ Some k
    pub after_other : after (Some k) ≢ Some k

  -- The told nodes stand along the links of one chain, from its first to its last, and the waiting ones along those of
  -- another. No node is in both, and no other node stands.
  pub record Sound (told_after told_before waiting_after waiting_before : Link) (entries : ℕ → Option (Entry T W)) (count : ℕ) (told serials : ℕ) (ks ws : List ℕ) : Type 0 where
    pub chains : Chains told_after told_before waiting_after waiting_before ks ws
    pub covered : (k : ℕ) → IsSome (entries k) → Among k (ks ++ ws)
    pub tolds : AtEach (λ k. IsTold (entries k)) ks
    pub waits : AtEach (λ k. IsWaiting (entries k)) ws
    pub count_is : length (ks ++ ws) ≡ count
    pub told_is : told ≡ length ks
    pub fresh : (k : ℕ) (e : Entry T W) → entries k ≡ Some e → e.serial < serials
