-- What a call that begins takes over from the names.
use Rattle.std.specs.Prelude.{◌≡◌, if◌then◌else◌, ◌⊎◌}
use Rattle.channel_world_runs.proofs.Words.{ℕ, nat_eq, Bool, true, false, not, Option, None, Some, is_some, inl, inr, refl, sym, ap, ◌∙◌, subst, then_some, lookup, option_map, option_map_or, option_or, Key, held_on, ChannelAsk, ListenerRef, WaitList, Sends, Receives, Closings, poll_asked, Directory, at, is_taken, own_message, with_message, waits_in, second_reason, plan_of, handle_fits, unfit_handle, unfit_operation, through_refusal, planned_refusal, Call, HandleId, OpId, Operation, Waiter, Op, Plan, Wanted, Any, WorldRefusal, WrongKind, OpUnderWay, NameTaken, asks, names_begun, lent_to_poll, with_operation, WakeOrder, placed, without_place, NameStatus, free, retired, invalid, rests, waits, polled, status_on, status_by, operation_status, status, wait_of, subject, Suits, under_way_in, begin_refusal, again_planned, takes_again, key_of, is_polled, names_of, held_of, OnReturn, HandleEntry, OperationEntry, PollState, Rests, Waits, IsPolled, NameTable}
use Rattle.channel_world_model.specs.declared.plan.Wanted.TheVariants.{Receiver}
use Rattle.channel_world_runs.proofs.AskStarts.{ask_holds}
use Rattle.channel_world_runs.proofs.OwnerNames.{Sets, Same, op_status, found, op_changed}
use Rattle.channel_world_runs.proofs.RefusalLemmas as seen

-- a name at which some call works
abbrev pub IsBusy : NameStatus → Type 0
IsBusy retired = Unit {0}
IsBusy (polled line) = Unit {0}
IsBusy p = ⊥

-- one at which none works
abbrev pub IsLoose : NameStatus → Type 0
IsLoose free = Unit {0}
IsLoose (rests line) = Unit {0}
IsLoose (waits h) = Unit {0}
IsLoose p = ⊥

abbrev pub held_in : NameStatus → Option ListenerRef
held_in (waits h) = Some h
held_in p = None

-- in the order of waking a new name has no place, one that is polled has one, and one that is given up or dropped loses it
abbrev pub Ordered : Waiter → NameStatus → NameStatus → (WakeOrder → WakeOrder) → Type 0
Ordered w before x f =
    ((before ≡ free) × (x ≡ retired) × ((o : WakeOrder) → f o ≡ o))
    ⊎ (((o : WakeOrder) → f o ≡ placed w o) ⊎ ((x ≡ retired) × ((o : WakeOrder) → f o ≡ without_place w o)))

-- the name whose listener the call keeps is this one; or it keeps none, and this one isn't pending
abbrev pub Keeps : Option Waiter → Waiter → NameStatus → Type 0
Keeps keeper w before = (keeper ≡ Some w) ⊎ ((keeper ≡ None) × (held_in before ≡ None))

-- the first of two reasons is not there where none is
first_none : (first other : Option WorldRefusal) → option_or first other ≡ None → first ≡ None
first_none None other e = refl
first_none (Some x) other e = cc e

-- what a call goes through is as wanted, and not being polled, where nothing stands against that
neither : (fits is_polled : Bool) → (if not fits then Some WrongKind else then_some is_polled OpUnderWay) ≡ None → (is_polled ≡ false) × (fits ≡ true)
neither true is_polled e = (second_reason None is_polled OpUnderWay e, refl)
neither false is_polled e = cc e

fitting_found : (wanted : Wanted) (o : Option HandleEntry)
    → unfit_handle (option_map_or (λ (h : HandleEntry). is_polled h.poll_state) o false) wanted (option_map (λ (h : HandleEntry). h.handle) o) ≡ None
    → (h : HandleEntry) × (o ≡ Some h) × (is_polled h.poll_state ≡ false) × (handle_fits wanted h.handle.kind ≡ true)
fitting_found wanted None e = cc e
fitting_found wanted (Some h) e =
    let n = neither (handle_fits wanted h.handle.kind) (is_polled h.poll_state) e in (h, refl, n.0, n.1)

pub untaken : {X : Type 0} (p : X → NameStatus) (n : ℕ) (d : Directory X) → is_taken n d ≡ false → status_by p (lookup (nat_eq n) d) ≡ free
untaken {X} p n d h = by (lookup (nat_eq n) d) h
  where
    by : (o : Option (Option X)) → is_some o ≡ false → status_by p o ≡ free
    by None e = refl
    by (Some x) e = absurd (let no : true ≡ false = e in cc)

pub on_line : (line : WaitList) (s : PollState) → is_polled s ≡ false
    → (held_on line (key_of s) ≡ held_in (status_on line s)) × IsLoose (status_on line s)
on_line line (IsPolled b) e = absurd (let no : true ≡ false = e in cc)
on_line line x e = (refl, tt)

lent_polled : {T : Type 0} (x : Operation T) (b : Bool) → operation_status (with_message None x) (IsPolled b) ≡ polled (waits_in x)
lent_polled (Operation.Send h m) b = refl
lent_polled x b = refl

module _ {T : Type 0} where
  -- ---- what a call touches

  -- the names stand as before, in the same order, and the call has no listener and waits for nobody
  pub record Quiet (p p' : Waiter → NameStatus) (keeper : Option Waiter) (e : OnReturn T) (a : ChannelAsk T Waiter) (f : WakeOrder → WakeOrder) : Type 0 where
    pub same : Same p p'
    pub keeps : keeper ≡ None
    pub nobody : subject e ≡ None
    pub patient : wait_of a ≡ None
    pub empty : ask_holds a ≡ None
    pub order : (o : WakeOrder) → f o ≡ o

  -- one name, at which no call works, is vacant or polled from now on, and the call has the listener that was held under it
  pub record Touches (p p' : Waiter → NameStatus) (keeper : Option Waiter) (e : OnReturn T) (a : ChannelAsk T Waiter) (f : WakeOrder → WakeOrder) : Type 0 where
    pub name : Waiter
    pub now : NameStatus
    pub sets : Sets p p' name now
    pub busy : IsBusy now
    pub loose : IsLoose (p name)
    pub takes : ask_holds a ≡ held_in (p name)
    pub suits : Suits p' e (wait_of a)
    pub whose : (subject e ≡ None) ⊎ (subject e ≡ Some name)
    pub works : (line : WaitList) → now ≡ polled line → subject e ≡ Some name
    pub keeps : Keeps keeper name (p name)
    pub order : Ordered name (p name) now f

  -- ---- what a call finds

  -- the operation lives, and no poll of it is under way
  abbrev pub IsFree : NameTable T → OpId → Type 0
  IsFree r op = (o : OperationEntry T) × (at op.0 r.operations ≡ Some o) × (is_polled o.poll_state ≡ false)

  -- the handle lives, no poll of it as a stream is under way, and it is as wanted
  abbrev pub IsFitting : NameTable T → Wanted → HandleId → Type 0
  IsFitting r wanted handle =
      (h : HandleEntry) × (at handle.0 r.handles ≡ Some h) × (is_polled h.poll_state ≡ false) × (handle_fits wanted h.handle.kind ≡ true)

  -- what a call polls, or takes for good
  abbrev pub Finds : NameTable T → Plan → Type 0
  Finds r (Plan.Polls op) = IsFree r op
  Finds r (Plan.GivesUp op) = IsFree r op
  Finds r (Plan.Streams receiver) = IsFitting r Receiver receiver
  Finds r (Plan.Drops handle) = IsFitting r Any handle
  Finds r p = Unit {0}

  -- a call that is not refused, or only since it takes what is borrowed
  pub record Admitted (r : NameTable T) (c : Call T) : Type 0 where
    pub finds : Finds r (plan_of c)
    pub new : takes_again r c ≡ false

  free_found : (o : Option (OperationEntry T))
      → unfit_operation (option_map_or (λ (x : OperationEntry T). is_polled x.poll_state) o false) (option_map (λ (x : OperationEntry T). x.operation) o) ≡ None
      → (x : OperationEntry T) × (o ≡ Some x) × (is_polled x.poll_state ≡ false)
  free_found None e = cc e
  free_found (Some x) e = (x, refl, second_reason None (is_polled x.poll_state) OpUnderWay e)

  finds_planned : (r : NameTable T) (p : Plan) → planned_refusal (under_way_in r) (names_of r) p ≡ None → Finds r p
  finds_planned r (Plan.Polls op) e = free_found (at op.0 r.operations) (seen.polling_seen r op ∙ e)
  finds_planned r (Plan.GivesUp op) e = free_found (at op.0 r.operations) (seen.polling_seen r op ∙ e)
  finds_planned r (Plan.Streams receiver) e = fitting_found Receiver (at receiver.0 r.handles) (seen.through_seen r Receiver receiver ∙ first_none _ _ e)
  finds_planned r (Plan.Drops handle) e = fitting_found Any (at handle.0 r.handles) (seen.through_seen r Any handle ∙ first_none _ _ e)
  finds_planned r p e = tt

  takes_new : (r : NameTable T) (p : Plan) → planned_refusal (under_way_in r) (names_of r) p ≡ None → again_planned r p ≡ false
  takes_new r (Plan.Makes wanted handle op kind) e =
      seen.operation_taken r op ∙ second_reason (through_refusal (under_way_in r) (names_of r) wanted handle) _ NameTaken e
  takes_new r (Plan.Mints wanted from new to) e =
      seen.handle_taken r new ∙ second_reason (through_refusal (under_way_in r) (names_of r) wanted from) _ NameTaken e
  takes_new r p e = refl

  pub admitted : (r : NameTable T) (c : Call T) → begin_refusal r c ≡ None → Admitted r c
  admitted r c e = record { finds = finds_planned r (plan_of c) e; new = takes_new r (plan_of c) e }

  -- ---- an operation

  abbrev pub Free : Operation T → PollState → Type 0
  Free x s = (is_polled s ≡ false) × (operation_status x s ≡ invalid → ⊥)

  pub op_held : (x : Operation T) (s : PollState) → Free x s
      → (held_on (waits_in x) (key_of s) ≡ held_in (operation_status x s)) × IsLoose (operation_status x s)
  op_held (Operation.Send h None) Rests f = (refl, tt)
  op_held (Operation.Send h None) (Waits key) f = absurd (f.1 refl)
  op_held (Operation.Send h None) (IsPolled b) f = absurd (let no : true ≡ false = f.0 in cc)
  op_held (Operation.Send h (Some m)) s f = on_line Sends s f.0
  op_held (Operation.Receive h) s f = on_line Receives s f.0
  op_held (Operation.Closing h) s f = on_line Closings s f.0

  poll_holds : (op : OpId) (x : Operation T) (s : PollState) → Free x s
      → ask_holds (poll_asked (key_of s) op (Some x)) ≡ held_on (waits_in x) (key_of s)
  poll_holds op (Operation.Send h None) Rests f = refl
  poll_holds op (Operation.Send h None) (Waits key) f = absurd (f.1 refl)
  poll_holds op (Operation.Send h None) (IsPolled b) f = absurd (let no : true ≡ false = f.0 in cc)
  poll_holds op (Operation.Send h (Some m)) s f = refl
  poll_holds op (Operation.Receive h) s f = refl
  poll_holds op (Operation.Closing h) s f = refl

  poll_waits : (op : OpId) (x : Operation T) (key : Option Key)
      → (wait_of (poll_asked key op (Some x)) ≡ None) ⊎ (wait_of (poll_asked key op (Some x)) ≡ Some (waits_in x, Op op))
  poll_waits op (Operation.Send h None) key = inl refl
  poll_waits op (Operation.Send h (Some m)) key = inr refl
  poll_waits op (Operation.Receive h) key = inr refl
  poll_waits op (Operation.Closing h) key = inr refl

  -- what is known of an operation that a call begins to poll, or gives up
  pub record Found (r : NameTable T) (op : OpId) : Type 0 where
    pub operation : OperationEntry T
    pub is : at op.0 r.operations ≡ Some operation
    pub loose : Free operation.operation operation.poll_state

  abbrev pub Sane : NameTable T → Type 0
  Sane r = (w : Waiter) → status r w ≡ invalid → ⊥

  pub op_is : (r : NameTable T) (op : OpId) (o : OperationEntry T) → at op.0 r.operations ≡ Some o → status r (Op op) ≡ op_status o
  op_is r op o e = ap (λ x. status_by op_status x) (found op.0 r.operations o e)

  pub find : (r : NameTable T) (op : OpId) → Sane r → IsFree r op → Found r op
  find r op sane o = record { operation = o.0; is = o.1; loose = (o.2, λ bad. sane (Op op) (op_is r op o.0 o.1 ∙ bad)) }

  pub key_is : (r : NameTable T) (op : OpId) (o : OperationEntry T) → at op.0 r.operations ≡ Some o → held_of r (Op op) ≡ key_of o.poll_state
  key_is r op o e = ap (λ x. option_map_or (λ (o : OperationEntry T). key_of o.poll_state) x None) e

  pub held_is : (r : NameTable T) (op : OpId) (f : Found r op)
      → held_on (waits_in f.operation.operation) (key_of f.operation.poll_state) ≡ held_in (status r (Op op))
  held_is r op f = (op_held f.operation.operation f.operation.poll_state f.loose).0
      ∙ ap held_in (sym (op_is r op f.operation f.is))

  pub loose_is : (r : NameTable T) (op : OpId) (f : Found r op) → IsLoose (status r (Op op))
  loose_is r op f = subst IsLoose (sym (op_is r op f.operation f.is))
      (op_held f.operation.operation f.operation.poll_state f.loose).1

  pub now_polled : (r : NameTable T) (op : OpId) (f : Found r op)
      → Sets (status r) (status (with_operation lent_to_poll op r)) (Op op) (polled (waits_in f.operation.operation))
  now_polled r op f =
      let s = op_changed r op lent_to_poll f.operation f.is in
      record { there = s.there ∙ lent_polled f.operation.operation (is_some (own_message f.operation.operation)); others = s.others }

  -- a poll of an operation, refused its waker or not
  pub polls_with : (r : NameTable T) (op : OpId) (f : Found r op) (a : ChannelAsk T Waiter)
      → ask_holds a ≡ held_on (waits_in f.operation.operation) (key_of f.operation.poll_state)
      → (wait_of a ≡ None) ⊎ (wait_of a ≡ Some (waits_in f.operation.operation, Op op))
      → Touches (status r) (status (with_operation lent_to_poll op r)) (Some (Op op)) (OnReturn.Poll op) a (placed (Op op))
  polls_with r op f a holds for_it =
      let s = now_polled r op f in
      record {
        name = Op op;
        now = polled (waits_in f.operation.operation);
        sets = s;
        busy = tt;
        loose = loose_is r op f;
        takes = holds ∙ held_is r op f;
        suits = (waits_in f.operation.operation, s.there, for_it);
        whose = inr refl;
        works = λ line i. refl;
        keeps = inl refl;
        order = inr (inl (λ ws. refl));
      }

  -- as one call at a time sees it, and the listener that it holds
  pub seen_is : (r : NameTable T) (op : OpId) (f : Found r op) → at op.0 (names_of r).operations ≡ Some f.operation.operation
  seen_is r op f = seen.operation_at r op.0 ∙ ap (option_map (λ (x : OperationEntry T). x.operation)) f.is

  pub polls : (r : NameTable T) (op : OpId) → Found r op
      → Touches (status r) (status (names_begun r (Call.Poll op))) (Some (Op op)) (OnReturn.Poll op) (asks r (Call.Poll op)) (placed (Op op))
  polls r op f =
      let o = f.operation in
      let same : asks r (Call.Poll op) ≡ poll_asked (key_of o.poll_state) op (Some o.operation) =
      ap (λ (x : Option (Operation T)). poll_asked (held_of r (Op op)) op x) (seen_is r op f)
      ∙ ap (λ (key : Option Key). poll_asked key op (Some o.operation)) (key_is r op o f.is) in
      polls_with r op f (asks r (Call.Poll op)) (ap ask_holds same ∙ poll_holds op o.operation o.poll_state f.loose)
      (subst (λ (a : ChannelAsk T Waiter). (wait_of a ≡ None) ⊎ (wait_of a ≡ Some (waits_in o.operation, Op op))) (sym same)
      (poll_waits op o.operation (key_of o.poll_state)))
