-- A push and a pop of one slot, merged.
use Rattle.std.proofs.Common.{◌≡◌, ℕ, ◌==◌, Bool, true, false, [], ◌∷◌, take, None, Some, Ok, Err, inl, refl, subst, arith}
use Rattle.std.proofs.lemmas.Bool.Decides.{nat_tests}
use Rattle.concurrent_queue.specs.Bridge.{Acts, EventsLead, own, InOneOrder}
use Rattle.concurrent_queue.specs.BridgeRow.{push_at_slot, led_of_two, pop_waiting, push_beside_pop, replies_of_two, FourEventsLead, TwoCallsMerge}
use Rattle.concurrent_queue.specs.Contents.{Contents, write_slot}
use Rattle.concurrent_queue.specs.Made.{new_cells}
use Rattle.concurrent_queue.specs.machine.Single.{set_state, marks, stays, finishes}
use Rattle.concurrent_queue.specs.declared.call.QueueMark.{QueueMark}
use Rattle.concurrent_queue.specs.declared.call.QueueMark.TheVariants.{Nothing, Append, Take}
use Rattle.concurrent_queue.specs.declared.call.QueueReply.TheVariants as reply
use Rattle.concurrent_queue.specs.declared.cells.QueueForm.TheVariants.{Bounded}
use Rattle.concurrent_queue.specs.declared.cells.Slot.TheVariants.{At}
use Rattle.concurrent_queue.specs.declared.queue_call.CallState.TheVariants.{Single}
use Rattle.concurrent_queue.specs.declared.queue_call.QueueCall.{QueueCall}
use Rattle.concurrent_queue.specs.declared.single.SingleAction.{SingleAction}
use Rattle.concurrent_queue.specs.declared.single.SingleAction.TheVariants as slot

is_same : (m n : ℕ) → (m == n) ≡ true → m ≡ n
is_same m n e = grind (arith, nat_tests, e)

module _ {T : Type 0} (v : T) where
  abbrev at : SingleAction T → QueueMark → QueueCall T
  at a m = record { state = Single a; mark = m }

  pushed : Acts (Bounded 1) None (own 1 (push_beside_pop v)) (reply.Push (Ok tt) ∷ [])
  pushed = (
    at (slot.PushPut v) Append,
    None,
    (marks (slot.PushPut v) Append, (Ok 0, refl, refl), refl),
    (
      at slot.PushUnlock Nothing,
      None,
      (stays slot.PushUnlock, (Ok tt, refl, refl), refl),
      (at slot.Finished Nothing, Some (reply.Push (Ok tt)), (finishes (reply.Push (Ok tt)), (3, refl, refl), refl), ([], refl, refl)),
    ),
  )

  popped : Acts (Bounded 1) None (own 2 (push_beside_pop v)) (reply.Pop (Ok v) ∷ [])
  popped = (
    at (slot.Pop 2) Nothing,
    None,
    (stays (slot.Pop 2), (Err 3, refl, refl), refl),
    (
      at slot.PopTake Take,
      None,
      (marks slot.PopTake Take, (Ok 2, refl, refl), refl),
      (
        at (slot.PopUnlock v) Nothing,
        None,
        (stays (slot.PopUnlock v), (Some v, refl, refl), refl),
        (at slot.Finished Nothing, Some (reply.Pop (Ok v)), (finishes (reply.Pop (Ok v)), (1, refl, refl), refl), ([], refl, refl)),
      ),
    ),
  )

  each : (p : ℕ) (a b : Bool) → (1 == p) ≡ a → (2 == p) ≡ b → Acts (Bounded 1) None (own p (push_beside_pop v)) (replies_of_two v p)
  each p true b e f = subst (λ (n : ℕ). Acts (Bounded 1) None (own n (push_beside_pop v)) (replies_of_two v n)) (is_same 1 p e) pushed
  each p false true e f = subst (λ (n : ℕ). Acts (Bounded 1) None (own n (push_beside_pop v)) (replies_of_two v n)) (is_same 2 p f) popped
  each p false false e f = rw (e, f) refl

  abbrev new : Contents T
  new = new_cells (Bounded 1)

  abbrev full : ℕ → Contents T
  full w = write_slot (set_state new w) (At 0) (Some v)

  in_turn : InOneOrder (push_beside_pop v) new new
  in_turn = (
    new,
    refl,
    (
      new,
      refl,
      (
        set_state new 3,
        (refl, refl, refl),
        (
          set_state new 3,
          (refl, λ e. absurd cc, refl),
          (
            full 3,
            (refl, refl),
            (
              full 2,
              (refl, refl),
              (full 1, (refl, refl, refl), (set_state new 1, (refl, refl), (new, (refl, refl), refl))),
            ),
          ),
        ),
      ),
    ),
  )

  -- and where the first four have led
  led : (p : ℕ) (a b : Bool) → (1 == p) ≡ a → (2 == p) ≡ b → EventsLead (Bounded 1) None (own p (take 4 (push_beside_pop v))) (led_of_two v p)
  led p true b e f =
      subst (λ (n : ℕ). EventsLead (Bounded 1) None (own n (take 4 (push_beside_pop v))) (led_of_two v n)) (is_same 1 p e)
      (push_at_slot v, None, (marks (slot.PushPut v) Append, (Ok 0, refl, refl), refl), refl)
  led p false true e f =
      subst (λ (n : ℕ). EventsLead (Bounded 1) None (own n (take 4 (push_beside_pop v))) (led_of_two v n)) (is_same 2 p f)
      (pop_waiting v, None, (stays (slot.Pop 2), (Err 3, refl, refl), refl), refl)
  led p false false e f = rw (e, f) refl

pub four_events_lead : {T : Type 0} → FourEventsLead T
four_events_lead v = (
  record {
    has = (omega arith, omega arith);
    lasts = inl refl;
    led = λ p. led v p (1 == p) (2 == p) refl refl;
    order = (new v, refl, (new v, refl, (set_state (new v) 3, (refl, refl, refl), (set_state (new v) 3, (refl, λ e. absurd cc, refl), refl))));
  },
  refl,
)

pub two_calls_merge : {T : Type 0} → TwoCallsMerge T
two_calls_merge v = (λ p. each v p (1 == p) (2 == p) refl refl, in_turn v)
