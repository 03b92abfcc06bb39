-- How many calls use each handle and how many operations borrow it, as calls begin, make steps and end.
use Rattle.std.specs.Prelude.{◌≡◌, ◌+◌, ◌≤◌, ◌∷◌, ◌++◌, ◌⊎◌}
use Rattle.channel_world_runs.proofs.Lemmas.{arith, ℕ, zero, suc, nat_eq, Bool, true, false, cond, List, [], length, slice_get, unwrap_or, Option, None, Some, inl, inr, refl, sym, ap, ◌∙◌, subst, length-set_value, remove, option_map, option_map_or, lookup, set_value, nothing_kept, Reply, Returned, decided, Directory, at, borrowed_by, with_changed, without_name, with_spent, Call, Handle, HandleId, HandleKind, OpId, Waiter, new_message, returns, names_planned, written_back, installed, lent_by, handed_over_by, lent_to_poll, with_operation, operation_named, handle_named, on_return_of, leave_handle_of, new_from, poll_state_with, used_more, used_less, borrowed_more, handed_over, with_handle, with_lent, with_given_back, with_borrowed, with_handed_over, with_poll_state, unused, first_name_table, names_of, kin, plan_of, no_places, NameState, name_state_begun, name_state_ended, with_woken, one, times_used, all_uses, FewUsers, Agent, OnReturn, HandleEntry, OperationEntry, PollState, IsPolled, NameTable, Plan, PartyId, same_number, own_number, number_or, set_there, set_other, handle_none, handle_there}
use Rattle.channel_world_runs.proofs.OwnerNames.{found, is_there}
use Rattle.channel_world_runs.proofs.OwnerRuns.{inner}

-- a handle is used by no more calls, and borrowed by no more operations, than these
abbrev Few : ℕ → ℕ → HandleEntry → Type 0
Few n m h = (h.users ≤ n) × (h.handle.borrowers ≤ m)

-- and so is each
abbrev AreFew : (ℕ → ℕ) → ℕ → Directory HandleEntry → Type 0
AreFew n m d = (name : ℕ) (h : HandleEntry) → at name d ≡ Some h → Few (n name) m h

allows : (n o m p : ℕ) (h : HandleEntry) → n ≤ o → m ≤ p → Few n m h → Few o p h
allows n o m p h more higher f =
    let users : h.users ≤ n = f.0 in
    let borrowers : h.handle.borrowers ≤ m = f.1 in
    (omega (arith, users, more), omega (arith, borrowers, higher))

abbrev NoMore : (ℕ → ℕ) → (ℕ → ℕ) → Type 0
NoMore n m = (name : ℕ) → n name ≤ m name

-- ---- directories

never : {X : Type 0} (x : X) → None ≡ Some x → ⊥
never x e = absurd (let no : None ≡ Some x = e in cc)

abbrev living : {X : Type 0} → Option (Option X) → Option X
living o = option_map_or (λ (x : Option _). x) o None

-- under the name of what lives there stands what was set, and under any other what stood there
changed : {X : Type 0} (n m : ℕ) (d : Directory X) (v : Option X) (g : X) → at n d ≡ Some g
    → ((m ≡ n) × (at m (set_value (nat_eq n) d v) ≡ v)) ⊎ ((m ≡ n → ⊥) × (at m (set_value (nat_eq n) d v) ≡ at m d))
changed {X} n m d v g there = by (number_or m n) where
  by : (m ≡ n) ⊎ (m ≡ n → ⊥)
      → ((m ≡ n) × (at m (set_value (nat_eq n) d v) ≡ v)) ⊎ ((m ≡ n → ⊥) × (at m (set_value (nat_eq n) d v) ≡ at m d))
  by (inl e) =
      let set : lookup (nat_eq n) (set_value (nat_eq n) d v) ≡ Some v =
      set_there n d v (is_there (lookup (nat_eq n) d) (Some g) (found n d g there)) in
      inl (e, subst (λ (k : ℕ). at k (set_value (nat_eq n) d v) ≡ v) (sym e) (ap (λ (o : Option (Option X)). living o) set))
  by (inr f) = inr (f, ap (λ (o : Option (Option X)). living o) (set_other n m d v f))

more_few : (n o : ℕ → ℕ) (m p : ℕ) (d : Directory HandleEntry) → NoMore n o → m ≤ p → AreFew n m d → AreFew o p d
more_few n o m p d more higher few name h i = allows (n name) (o name) m p h (more name) higher (few name h i)

-- under a name that was just taken nothing lives
spent_few : (n : ℕ → ℕ) (m name : ℕ) (d : Directory HandleEntry) → AreFew n m d → AreFew n m (with_spent name d)
spent_few n m name d few k h i = by (nat_eq k name) i where
  by : (t : Bool) → living (cond t (Some None) (lookup (nat_eq k) d)) ≡ Some h → Few (n k) m h
  by true e = absurd (never h e)
  by false e = few k h e

-- and one that didn't live doesn't
spent_none : (n m : ℕ) (d : Directory HandleEntry) → at m d ≡ None → at m (with_spent n d) ≡ None
spent_none n m d e = by (nat_eq m n) where
  by : (t : Bool) → living (cond t (Some None) (lookup (nat_eq m) d)) ≡ None
  by true = refl
  by false = e

-- under a name stands what stood there, or what was set
set_at : {X : Type 0} (n m : ℕ) (d : Directory X) (v : Option X)
    → (at m (set_value (nat_eq n) d v) ≡ at m d) ⊎ (at m (set_value (nat_eq n) d v) ≡ v)
set_at n m [] v = inl refl
set_at n m (f ∷ d) v = elim (decided (nat_eq n f.0)) [
  | inl t ↦ elim (decided (nat_eq m f.0)) [ inl s ↦ inr (rw (t, s) refl) | inr s ↦ inl (rw (t, s) refl) ]
  | inr t ↦ elim (decided (nat_eq m f.0)) [ inl s ↦ inl (rw (t, s) refl) | inr s ↦ rw (t, s) (set_at n m d v) ]
]

-- so many may use it that is set
set_few : (n : ℕ → ℕ) (m name : ℕ) (d : Directory HandleEntry) (v : Option HandleEntry) → AreFew n m d
    → ((h : HandleEntry) → v ≡ Some h → (k : ℕ) → Few (n k) m h) → AreFew n m (set_value (nat_eq name) d v)
set_few n m name d v few new k h i = by (set_at name k d v) where
  by : (at k (set_value (nat_eq name) d v) ≡ at k d) ⊎ (at k (set_value (nat_eq name) d v) ≡ v) → Few (n k) m h
  by (inl e) = few k h (sym e ∙ i)
  by (inr e) = new h (sym e ∙ i) k

-- ---- one handle

one_there : (handle : HandleId) → one handle.0 handle ≡ 1
one_there handle = ap (λ (t : Bool). cond t 1 0) (own_number handle.0)

one_other : (name : ℕ) (handle : HandleId) → (name ≡ handle.0 → ⊥) → one name handle ≡ 0
one_other name handle f = by (nat_eq name handle.0) refl where
  by : (t : Bool) → nat_eq name handle.0 ≡ t → (let n : ℕ = cond t 1 0 in n ≡ 0)
  by true e = absurd (f (same_number name handle.0 e))
  by false e = refl

module _ {T : Type 0} where
  handle_few : (n o : ℕ → ℕ) (m p : ℕ) (change : HandleEntry → HandleEntry) (handle : HandleId) (r : NameTable T)
      → ((name : ℕ) → (name ≡ handle.0 → ⊥) → n name ≤ o name) → m ≤ p
      → ((h : HandleEntry) → Few (n handle.0) m h → Few (o handle.0) p (change h))
      → AreFew n m r.handles → AreFew o p (with_handle change handle r).handles
  handle_few n o m p change handle r more higher bound few = by (at handle.0 r.handles) refl where
    by : (x : Option HandleEntry) → at handle.0 r.handles ≡ x
        → AreFew o p (option_map_or (λ (h : HandleEntry). with_changed handle.0 (change h) r.handles) x r.handles)
    by None e name h i = one_of (number_or name handle.0) where
      one_of : (name ≡ handle.0) ⊎ (name ≡ handle.0 → ⊥) → Few (o name) p h
      one_of (inl same) = absurd (never h (sym e ∙ subst (λ (k : ℕ). at k r.handles ≡ Some h) same i))
      one_of (inr other) = allows (n name) (o name) m p h (more name other) higher (few name h i)
    by (Some g) e name h i = one_of (changed handle.0 name r.handles (Some (change g)) g e) where
      one_of : ((name ≡ handle.0) × (at name (set_value (nat_eq handle.0) r.handles (Some (change g))) ≡ Some (change g)))
          ⊎ ((name ≡ handle.0 → ⊥) × (at name (set_value (nat_eq handle.0) r.handles (Some (change g))) ≡ at name r.handles))
          → Few (o name) p h
      one_of (inl (same, is)) =
          subst (λ (k : ℕ). Few (o k) p h) (sym same)
          (subst (λ (x : HandleEntry). Few (o handle.0) p x) (inner (change g) h (sym is ∙ i)) (bound g (few handle.0 g e)))
      one_of (inr (other, is)) = allows (n name) (o name) m p h (more name other) higher (few name h (sym is ∙ i))

  -- one more call may use it
  lent_few : (n : ℕ → ℕ) (m : ℕ) (handle : HandleId) (r : NameTable T) → AreFew n m r.handles
      → AreFew (λ name. n name + one name handle) m (with_lent handle r).handles
  lent_few n m handle r few =
      let there = one_there handle in
      handle_few n (λ name. n name + one name handle) m m used_more handle r (λ name other. omega arith) (omega arith)
      (λ h f. (let users : h.users ≤ n handle.0 = f.0 in omega (arith, users, there), f.1)) few

  -- and one fewer
  given_back_few : (n : ℕ → ℕ) (m : ℕ) (handle : HandleId) (r : NameTable T) → AreFew (λ name. n name + one name handle) m r.handles
      → AreFew n m (with_given_back handle r).handles
  given_back_few n m handle r few =
      let there = one_there handle in
      handle_few (λ name. n name + one name handle) n m m used_less handle r
      (λ name other. let none = one_other name handle other in omega (arith, none)) (omega arith)
      (λ h f. (let users : h.users ≤ n handle.0 + one handle.0 handle = f.0 in omega (arith, users, there), f.1)) few

  -- one more operation may borrow it
  borrowed_few : (n : ℕ → ℕ) (m : ℕ) (handle : HandleId) (r : NameTable T) → AreFew n m r.handles
      → AreFew n (suc m) (with_borrowed handle r).handles
  borrowed_few n m handle r few =
      handle_few n n m (suc m) borrowed_more handle r (λ name other. omega arith) (omega arith)
      (λ h f. (f.0, let borrowers : h.handle.borrowers ≤ m = f.1 in omega (arith, borrowers))) few

  -- one more call may use it, and no more operations borrow it
  handed_over_few : (n : ℕ → ℕ) (m : ℕ) (handle : HandleId) (r : NameTable T) → AreFew n m r.handles
      → AreFew (λ name. n name + one name handle) m (with_handed_over handle r).handles
  handed_over_few n m handle r few =
      let there = one_there handle in
      handle_few n (λ name. n name + one name handle) m m handed_over handle r (λ name other. omega arith) (omega arith)
      (λ h f. (
        let users : h.users ≤ n handle.0 = f.0 in omega (arith, users, there),
        let borrowers : h.handle.borrowers ≤ m = f.1 in omega (arith, borrowers),
      )) few

  poll_state_few : (n : ℕ → ℕ) (m : ℕ) (s : PollState) (handle : HandleId) (r : NameTable T) → AreFew n m r.handles
      → AreFew n m (with_poll_state s handle r).handles
  poll_state_few n m s handle r few =
      handle_few n n m m (λ (h : HandleEntry). record h { poll_state = s }) handle r (λ name other. omega arith) (omega arith) (λ h f. f) few

  -- ---- the beginning of a call

  operation_length : (change : OperationEntry T → OperationEntry T) (op : OpId) (r : NameTable T)
      → length (with_operation change op r).operations ≡ length r.operations
  operation_length change op r = by (at op.0 r.operations) where
    by : (o : Option (OperationEntry T))
        → length (option_map_or (λ (x : OperationEntry T). with_changed op.0 (change x) r.operations) o r.operations) ≡ length r.operations
    by None = refl
    by (Some x) = length-set_value (nat_eq op.0) r.operations (Some (change x))

  module _ (n : ℕ → ℕ) (r : NameTable T) (few : AreFew n (length r.operations) r.handles) where
    -- an operation is made
    made : (op : OpId) (handle : HandleId)
        → AreFew (λ name. n name + 0) (length (operation_named op r).operations) (with_borrowed handle (operation_named op r)).handles
    made op handle =
        more_few n (λ name. n name + 0) (suc (length r.operations)) (length (operation_named op r).operations)
        (with_borrowed handle (operation_named op r)).handles (λ name. omega arith) (omega arith)
        (borrowed_few n (length r.operations) handle (operation_named op r) few)

    once : (handle : HandleId)
        → AreFew (λ name. n name + one name handle) (length r.operations) (with_lent handle r).handles
    once handle = lent_few n (length r.operations) handle r few

    -- a handle is made from one that lives, or that doesn't
    named : (handle new : HandleId) (kind : HandleKind → HandleKind)
        → AreFew (λ name. n name + times_used name (let e : OnReturn T = new_from handle new kind (at handle.0 (names_of r).handles) in e)) (length r.operations)
        (with_lent handle (handle_named new r)).handles
    named handle new kind =
        subst (λ (x : Option Handle). AreFew (λ name. n name + times_used name (let e : OnReturn T = new_from handle new kind x in e)) (length r.operations)
        (with_lent handle (handle_named new r)).handles) (handle_there r handle.0) (by (at handle.0 r.handles) refl) where
          spent : AreFew n (length r.operations) (handle_named new r).handles
          spent = spent_few n (length r.operations) new.0 r.handles few

          by : (o : Option HandleEntry) → at handle.0 r.handles ≡ o
              → AreFew (λ name. n name + times_used name (let e : OnReturn T = new_from handle new kind (let f : Option Handle = option_map (λ (h : HandleEntry). h.handle) o in f) in e)) (length r.operations)
              (with_lent handle (handle_named new r)).handles
          by None e =
              subst (λ (x : NameTable T). AreFew (λ name. n name + 0) (length r.operations) x.handles)
              (sym (handle_none (handle_named new r) handle used_more (spent_none new.0 handle.0 r.handles e)))
              (more_few n (λ name. n name + 0) (length r.operations) (length r.operations) (handle_named new r).handles (λ name. omega arith) (omega arith) spent)
          by (Some h) e = lent_few n (length r.operations) handle (handle_named new r) spent

    same : (l : ℕ) → l ≡ length r.operations → AreFew (λ name. n name + 0) l r.handles
    same l e = more_few n (λ name. n name + 0) (length r.operations) l r.handles (λ name. omega arith) (omega (arith, e)) few

    lent_by_few : (o : Option (OperationEntry T))
        → AreFew (λ name. n name + times_used name (let e : OnReturn T = leave_handle_of o in e)) (length (lent_by o r).operations) (lent_by o r).handles
    lent_by_few None = same (length r.operations) refl
    lent_by_few (Some o) = once (borrowed_by o.operation)

    -- an operation is given up
    handed_over_by_few : (op : OpId) (o : Option (OperationEntry T))
        → (let gone : NameTable T = record r { operations = without_name op.0 r.operations } in
        AreFew (λ name. n name + times_used name (let e : OnReturn T = leave_handle_of o in e)) (length (handed_over_by o gone).operations) (handed_over_by o gone).handles)
    handed_over_by_few op None = same (length (without_name op.0 r.operations)) (length-set_value (nat_eq op.0) r.operations None)
    handed_over_by_few op (Some o) =
        let gone : NameTable T = record r { operations = without_name op.0 r.operations } in
        let as_many = length-set_value (nat_eq op.0) r.operations None in
        more_few (λ name. n name + one name (borrowed_by o.operation)) (λ name. n name + one name (borrowed_by o.operation)) (length r.operations)
        (length (without_name op.0 r.operations)) (with_handed_over (borrowed_by o.operation) gone).handles (λ name. omega arith) (omega (arith, as_many))
        (handed_over_few n (length r.operations) (borrowed_by o.operation) gone few)

    pub begun_few : (m : Option T) (p : Plan)
        → AreFew (λ name. n name + times_used name (returns r m p)) (length (names_planned p r).operations) (names_planned p r).handles
    begun_few m (Plan.Through wanted handle) = once handle
    begun_few m (Plan.ThroughBoth a b) =
        more_few (λ name. n name + one name a + one name b) (λ name. n name + (one name a + one name b)) (length r.operations) (length r.operations)
        (with_lent b (with_lent a r)).handles (λ name. omega arith) (omega arith)
        (lent_few (λ name. n name + one name a) (length r.operations) b (with_lent a r) (lent_few n (length r.operations) a r few))
    begun_few m (Plan.Makes wanted handle op kind) = made op handle
    begun_few m (Plan.Polls op) = same _ (operation_length lent_to_poll op r)
    begun_few m (Plan.GivesUp op) = handed_over_by_few op (at op.0 r.operations)
    begun_few m (Plan.Asks op) = lent_by_few (at op.0 r.operations)
    begun_few m (Plan.Streams receiver) =
        let stands : NameTable T = with_poll_state (IsPolled false) receiver r in
        lent_few n (length r.operations) receiver stands (poll_state_few n (length r.operations) (IsPolled false) receiver r few)
    begun_few m (Plan.Drops handle) =
        more_few n (λ name. n name + 0) (length r.operations) (length r.operations) (without_name handle.0 r.handles) (λ name. omega arith) (omega arith)
        (set_few n (length r.operations) handle.0 r.handles None few (λ h e k. absurd (never h e)))
    begun_few m (Plan.Mints wanted from new to) = named from new (kin to)

  -- ---- its end

  installed_few : (n : ℕ → ℕ) (m : ℕ) (new : HandleId) (kind : HandleKind) (y : Reply T) (r : NameTable T) → AreFew n m r.handles
      → AreFew n m (installed new kind y r).handles
  installed_few n m new kind Reply.Made r few =
      set_few n m new.0 r.handles _ few (λ h e k. subst (λ (x : HandleEntry). Few (n k) m x) (inner (unused kind) h e) (omega arith, omega arith))
  installed_few n m new kind y r few = few

  -- a handle that it gives back is used by one fewer
  settled_few : (n : ℕ → ℕ) (m : ℕ) (e : OnReturn T) (y : Reply T) (left : Returned T) (r : NameTable T)
      → AreFew (λ name. n name + times_used name e) m r.handles → AreFew n m (written_back e y left r).handles
  settled_few n m (OnReturn.Leave handle) y left r few = given_back_few n m handle r few
  settled_few n m (OnReturn.LeaveBoth a b) y left r few =
      given_back_few n m b (with_given_back a r)
      (given_back_few (λ name. n name + one name b) m a r
      (more_few (λ name. n name + (one name a + one name b)) (λ name. n name + one name b + one name a) m m r.handles (λ name. omega arith) (omega arith) few))
  settled_few n m (OnReturn.PollNext receiver) y left r few =
      let stands = poll_state_with left.key in
      given_back_few n m receiver (with_poll_state stands receiver r)
      (poll_state_few (λ name. n name + one name receiver) m stands receiver r few)
  settled_few n m (OnReturn.New from new kind) y left r few =
      installed_few n m new kind y (with_given_back from r) (given_back_few n m from r few)
  settled_few n m x y left r few = more_few (λ name. n name + 0) n m m r.handles (λ name. omega arith) (omega arith) few

  installed_length : (new : HandleId) (kind : HandleKind) (y : Reply T) (r : NameTable T)
      → length (installed new kind y r).operations ≡ length r.operations
  installed_length new kind Reply.Made r = refl
  installed_length new kind y r = refl

  settled_length : (e : OnReturn T) (y : Reply T) (left : Returned T) (r : NameTable T)
      → length (written_back e y left r).operations ≡ length r.operations
  settled_length (OnReturn.Make op operation) y left r = length-set_value (nat_eq op.0) r.operations (Some operation)
  settled_length (OnReturn.Poll op) y left r = operation_length _ op r
  settled_length (OnReturn.New from new kind) y left r = installed_length new kind y (with_given_back from r)
  settled_length e y left r = refl

  -- ---- the calls under way

  uses_more : (name : ℕ) (agents : List (Agent T)) (a : Agent T)
      → all_uses name (agents ++ a ∷ []) ≡ all_uses name agents + times_used name a.on_return
  uses_more name [] a = omega arith
  uses_more name (b ∷ agents) a = let rest = uses_more name agents a in omega (arith, rest)

  uses_fewer : (name k : ℕ) (agents : List (Agent T)) (a : Agent T) → slice_get agents k ≡ Some a
      → all_uses name agents ≡ all_uses name (remove agents k) + times_used name a.on_return
  uses_fewer name k [] a e = absurd cc
  uses_fewer name zero (b ∷ agents) a e =
      let same : times_used name b.on_return ≡ times_used name a.on_return = ap (λ (x : Agent T). times_used name x.on_return) (inner b a e) in
      omega (arith, same)
  uses_fewer name (suc k) (b ∷ agents) a e = let rest = uses_fewer name k agents a e in omega (arith, rest)

  -- ---- steps

  pub users_begun : (q : PartyId) (c : Call T) (b : NameState T) → FewUsers b → FewUsers (name_state_begun q c b)
  users_begun q c b few name h i =
      let most = begun_few (λ (n : ℕ). all_uses n b.agents) b.name_table few (new_message c) (plan_of c) name h i in
      let more = uses_more name b.agents (record { party = q.0; on_return = on_return_of b.name_table c }) in
      let users : h.users ≤ all_uses name b.agents + times_used name (on_return_of b.name_table c) = most.0 in
      (omega (arith, users, more), most.1)

  pub users_ended : (k : ℕ) (a : Agent T) (y : Option (Reply T)) (left : Option (Returned T)) (names : List Waiter) (b : NameState T)
      → slice_get b.agents k ≡ Some a → FewUsers b → FewUsers (name_state_ended k a y left (with_woken names b))
  users_ended k a None left names b there few name h i = few name h i
  users_ended k a (Some y) left names b there few name h i =
      let n : ℕ → ℕ = λ x. all_uses x (remove b.agents k) in
      let m : ℕ = length b.name_table.operations in
      let start : AreFew (λ x. n x + times_used x a.on_return) m b.name_table.handles =
      more_few (λ x. all_uses x b.agents) (λ x. n x + times_used x a.on_return) m m b.name_table.handles
      (λ x. let fewer = uses_fewer x k b.agents a there in omega (arith, fewer)) (omega arith) few in
      let kept : Returned T = unwrap_or left nothing_kept in
      let most = settled_few n m a.on_return y kept b.name_table start name h i in
      let borrowers : h.handle.borrowers ≤ m = most.1 in
      let also = settled_length a.on_return y kept b.name_table in
      (most.0, omega (arith, borrowers, also))

-- at first nobody uses a handle
pub users_first : (T : Type 0) → FewUsers {T = T} (record { name_table = first_name_table; order = no_places; agents = [] })
users_first T name h i = by (nat_eq name 1) (nat_eq name 0) i where
  none : (kind : HandleKind) (x : HandleEntry) → Some (unused kind) ≡ Some x → Few 0 0 x
  none kind x e = subst (λ (y : HandleEntry). Few 0 0 y) (inner (unused kind) x e) (omega arith, omega arith)

  by : (t u : Bool) → living (cond t (Some (Some (unused HandleKind.Receiver))) (cond u (Some (Some (unused HandleKind.Sender))) None)) ≡ Some h
      → Few 0 0 h
  by true u e = none HandleKind.Receiver h e
  by false true e = none HandleKind.Sender h e
  by false false e = absurd (never h e)
