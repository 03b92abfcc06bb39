-- Where no poll is under way a call asks what it asks in the model, and is refused where and why it is refused there.
use Rattle.std.specs.Prelude.{◌≡◌, ◌⊎◌}
use Rattle.channel_world_runs.proofs.Lemmas.{Bool, true, false, Option, None, Some, inl, inr, refl, sym, ap, ◌∙◌, option_map, option_map_or, WaitList, Sends, Receives, Streams, Closings, at, State, Call, HandleId, HandleKind, OpId, Waiter, Op, Stream, asks, invalid, polled, stream_status, operation_status, status, under_way_in, begin_refusal, is_polled, has_finished, is_done, names_of, held_of, HandleEntry, OperationEntry, PollState, Rests, Waits, IsPolled, NameTable, NonePolled, Operation, ChannelAsk, UnderWay, nobody_under_way, refusal_beside, refusal, op_is, operation_at}
use Rattle.channel_world_model.specs.Asked.{asked}
use Rattle.channel_world_runs.proofs.OwnerCalls.{hold_is}
use Rattle.channel_world_model.specs.Answer as model
use Rattle.channel_world_model.specs.Names as names

-- where no poll is under way and no handle is used, none is
nobody : (u : UnderWay) → ((w : Waiter) → u.polled w ≡ false) → ((handle : HandleId) → u.used handle ≡ false) → u ≡ nobody_under_way
nobody u unpolled unused = λ i. record { polled = λ w. unpolled w i; used = λ handle. unused handle i }

-- a stream that is being polled is one of a receiver, or amiss
polled_stream : (k : HandleKind) (s : PollState) → is_polled s ≡ true
    → ((line : WaitList) × (stream_status k s ≡ polled line)) ⊎ (stream_status k s ≡ invalid)
polled_stream k Rests e = absurd (let no : false ≡ true = e in cc)
polled_stream k (Waits key) e = absurd (let no : false ≡ true = e in cc)
polled_stream HandleKind.Receiver (IsPolled b) e = inl (Streams, refl)
polled_stream k s e = inr refl

module _ {T : Type 0} where
  polled_operation : (x : Operation T) (s : PollState) → is_polled s ≡ true → (line : WaitList) × (operation_status x s ≡ polled line)
  polled_operation (Operation.Send h None) (IsPolled b) e = (Sends, refl)
  polled_operation (Operation.Send h (Some m)) (IsPolled b) e = (Sends, refl)
  polled_operation (Operation.Receive h) (IsPolled b) e = (Receives, refl)
  polled_operation (Operation.Closing h) (IsPolled b) e = (Closings, refl)
  polled_operation x s e = absurd (let no : false ≡ true = e in cc)

  finished_as : (x : Operation T) (s : PollState) → is_polled s ≡ false → has_finished x s ≡ model.is_finished (Some x)
  finished_as (Operation.Send h None) Rests e = refl
  finished_as (Operation.Send h None) (Waits key) e = refl
  finished_as (Operation.Send h None) (IsPolled b) e = absurd (let no : true ≡ false = e in cc)
  finished_as (Operation.Send h (Some m)) s e = refl
  finished_as x s e = refl

  module _ (r : NameTable T) (none : NonePolled r) where
    unpolled : (op : OpId) (o : OperationEntry T) → at op.0 r.operations ≡ Some o → is_polled o.poll_state ≡ false
    unpolled op o e = by (is_polled o.poll_state) refl
      where
        by : (b : Bool) → is_polled o.poll_state ≡ b → is_polled o.poll_state ≡ false
        by false f = f
        by true f =
            let p = polled_operation o.operation o.poll_state f in
            absurd (none (Op op) p.0 (op_is r op o e ∙ p.1))

    -- ---- what is asked

    finished_same : (op : OpId)
        → option_map_or is_done (at op.0 r.operations) false ≡ model.is_finished (at op.0 (names_of r).operations)
    finished_same op = by (at op.0 r.operations) refl ∙ sym (ap model.is_finished (operation_at r op.0))
      where
        by : (x : Option (OperationEntry T)) → at op.0 r.operations ≡ x
            → option_map_or is_done (at op.0 r.operations) false ≡ model.is_finished
            (option_map (λ (x : OperationEntry T). x.operation) (at op.0 r.operations))
        by None e = rw e refl
        by (Some o) e = rw e (finished_as o.operation o.poll_state (unpolled op o e))

    pub asks_same : (c : Call T) → asks r c ≡ asked (held_of r) (names_of r) c
    asks_same (Call.SendIsTerminated op) =
        ap (λ (b : Bool). let x : ChannelAsk T Waiter = ChannelAsk.SendIsTerminated b in x) (finished_same op)
    asks_same c = refl

    -- ---- what is refused

    module _ (sane : (w : Waiter) → status r w ≡ invalid → ⊥) where
      idle : (w : Waiter) → (under_way_in r).polled w ≡ false
      idle (Op op) = by (at op.0 r.operations) refl
        where
          by : (x : Option (OperationEntry T)) → at op.0 r.operations ≡ x → (under_way_in r).polled (Op op) ≡ false
          by None e = rw e refl
          by (Some o) e = rw e (unpolled op o e)
      idle (Stream handle) = by (at handle.0 r.handles) refl
        where
          not_polled : (h : HandleEntry) → at handle.0 r.handles ≡ Some h → (b : Bool) → is_polled h.poll_state ≡ b
              → is_polled h.poll_state ≡ false
          not_polled h e false f = f
          not_polled h e true f = elim (polled_stream h.handle.kind h.poll_state f) [
            | inl p ↦ absurd (none (Stream handle) p.0 (hold_is r handle h e ∙ p.1))
            | inr p ↦ absurd (sane (Stream handle) (hold_is r handle h e ∙ p))
          ]

          by : (x : Option HandleEntry) → at handle.0 r.handles ≡ x → (under_way_in r).polled (Stream handle) ≡ false
          by None e = rw e refl
          by (Some h) e = rw e (not_polled h e (is_polled h.poll_state) refl)

      pub refusal_same : ((handle : HandleId) → (under_way_in r).used handle ≡ false) → (s : State T) (c : Call T) → s.names ≡ names_of r
          → begin_refusal r c ≡ refusal s c
      refusal_same unused s c e =
          ap (λ (u : UnderWay). refusal_beside u (names_of r) c) (nobody (under_way_in r) idle unused)
          ∙ ap (λ (n : names.Names T). refusal_beside nobody_under_way n c) (sym e)
