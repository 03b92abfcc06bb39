-- Names as one call at a time sees them, and why a call is not begun by one look at each name.
use Rattle.std.specs.Prelude.{◌≡◌, ◌&&◌, ◌||◌}
use Rattle.channel_world_runs.proofs.Words.{ℕ, Bool, true, false, Option, sym, ap, refl, ◌∙◌, then_some, option_map, option_or, at_seen, taken_seen, at, is_taken, unfit_handle, unlike_handles, borrowed_handle, unfit_operation, unfit_send, taking_refusal, planned_refusal, HandleId, OpId, Waiter, Op, Stream, Plan, Wanted, WorldRefusal, NameTaken, names_of, under_way_in, HandleEntry, OperationEntry, NameTable}
use Rattle.channel_world_runs.specs.Refusal as table

pub and_true : (b : Bool) → (b && true) ≡ b
and_true true = refl
and_true false = refl

pub and_false : (b : Bool) → (b && false) ≡ false
and_false true = refl
and_false false = refl

-- the handle that a call goes through that does nothing else to the names
abbrev pub handle_through : Plan → HandleId
handle_through (Plan.Through wanted handle) = handle
handle_through p = record { 0 = 0 }

-- ---- names as one call at a time sees them

module _ {T : Type 0} (r : NameTable T) (name : ℕ) where
  pub handle_at : at name (names_of r).handles ≡ option_map (λ (h : HandleEntry). h.handle) (at name r.handles)
  handle_at = at_seen (λ (h : HandleEntry). h.handle) name r.handles

  pub operation_at : at name (names_of r).operations ≡ option_map (λ (x : OperationEntry T). x.operation) (at name r.operations)
  operation_at = at_seen (λ (x : OperationEntry T). x.operation) name r.operations

  pub handle_there : option_map (λ (h : HandleEntry). h.handle) (at name r.handles) ≡ at name (names_of r).handles
  handle_there = sym handle_at

-- ---- why a call is not begun

-- a new name that was taken is the second reason
pub then_taken : {x y p : Option WorldRefusal} {b d : Bool} → x ≡ p → y ≡ then_some b NameTaken → b ≡ d → option_or x y ≡ option_or p (then_some d NameTaken)
then_taken {y = y} {p = p} first other same = ap (λ z. option_or z y) first ∙ ap (option_or p) (other ∙ ap (λ z. then_some z NameTaken) same)

module _ {T : Type 0} (r : NameTable T) where
  abbrev polled : Waiter → Bool
  polled w = (under_way_in r).polled w

  pub through_seen : (wanted : Wanted) (handle : HandleId)
      → unfit_handle (polled (Stream handle)) wanted (table.handle_at handle r) ≡ planned_refusal (under_way_in r) (names_of r) (Plan.Through wanted handle)
  through_seen wanted handle = ap (unfit_handle (polled (Stream handle)) wanted) (handle_there r handle.0)

  pub taking_seen : (wanted : Wanted) (handle : HandleId)
      → option_or (unfit_handle (polled (Stream handle)) wanted (table.handle_at handle r)) (borrowed_handle ((under_way_in r).used handle) (table.handle_at handle r))
      ≡ taking_refusal (under_way_in r) (names_of r) wanted handle
  taking_seen wanted handle =
      ap (λ h. option_or (unfit_handle (polled (Stream handle)) wanted h) (borrowed_handle ((under_way_in r).used handle) h)) (handle_there r handle.0)

  pub both_seen : (a b : HandleId) → unlike_handles (polled (Stream a) || polled (Stream b)) (table.handle_at a r) (table.handle_at b r)
      ≡ planned_refusal (under_way_in r) (names_of r) (Plan.ThroughBoth a b)
  both_seen a b =
      ap (λ x. unlike_handles (polled (Stream a) || polled (Stream b)) x (table.handle_at b r)) (handle_there r a.0)
      ∙ ap (unlike_handles (polled (Stream a) || polled (Stream b)) (at a.0 (names_of r).handles)) (handle_there r b.0)

  pub polling_seen : (op : OpId)
      → unfit_operation (polled (Op op)) (table.operation_at op r) ≡ planned_refusal (under_way_in r) (names_of r) (Plan.Polls op)
  polling_seen op = ap (unfit_operation (polled (Op op))) (sym (operation_at r op.0))

  pub asking_seen : (op : OpId) → unfit_send (table.operation_at op r) ≡ planned_refusal (under_way_in r) (names_of r) (Plan.Asks op)
  asking_seen op = ap unfit_send (sym (operation_at r op.0))

  pub operation_taken : (op : OpId) → is_taken op.0 r.operations ≡ is_taken op.0 (names_of r).operations
  operation_taken op = sym (taken_seen (λ (x : OperationEntry T). x.operation) op.0 r.operations)

  pub handle_taken : (new : HandleId) → is_taken new.0 r.handles ≡ is_taken new.0 (names_of r).handles
  handle_taken new = sym (taken_seen (λ (h : HandleEntry). h.handle) new.0 r.handles)
