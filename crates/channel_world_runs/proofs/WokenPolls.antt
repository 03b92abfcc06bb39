-- One that was woken may be polled: a stream also where a live operation borrows its receiver.
use Rattle.std.specs.Prelude.{◌≡◌}
use Rattle.channel_world_runs.proofs.Lemmas.{true, false, Option, None, Some, is_some, inl, refl, sym, ◌∙◌, is_among, at, handle_fits, poll_of, Call, HandleId, HandleKind, OpId, Waiter, Op, Stream, is_polled, is_name_pending, key_of, rested, order_begun, WokenSound, invalid, stream_status, Owned, begin_refusal, NameState, HandleEntry, OperationEntry, PollState, Rests, Waits, IsPolled, NameTable, Configuration, Admitted, Sane, among_is, is_there, polling_seen}
use Rattle.channel_world_model.specs.declared.plan.Wanted.TheVariants.{Receiver}
use Rattle.channel_world_runs.proofs.OwnerCalls.{hold_is}
use Rattle.channel_world_runs.proofs.OwnerWoken.{waits_pending}

-- one that is pending is not being polled
not_polled : (s : PollState) → is_some (key_of s) ≡ true → is_polled s ≡ false
not_polled (Waits key) e = refl
not_polled s e = absurd (let no : false ≡ true = e in cc)

-- and as a stream it is a receiver, where nothing is amiss
receives : (k : HandleKind) (s : PollState) → is_some (key_of s) ≡ true → (stream_status k s ≡ invalid → ⊥) → handle_fits Receiver k ≡ true
receives HandleKind.Receiver s e sane = refl
receives k (Waits key) e sane = absurd (sane refl)
receives k Rests e sane = absurd (let no : false ≡ true = e in cc)
receives k (IsPolled brings) e sane = absurd (let no : false ≡ true = e in cc)

module _ {T : Type 0} where
  operation_admitted : (r : NameTable T) (op : OpId) → is_name_pending r (Op op) ≡ true → Admitted r (Call.Poll op)
  operation_admitted r op e = by (at op.0 r.operations) refl
    where
      by : (o : Option (OperationEntry T)) → at op.0 r.operations ≡ o → Admitted r (Call.Poll op)
      by None f = absurd (let no : false ≡ true = sym (rw f refl) ∙ e in cc)
      by (Some x) f = record { finds = (x, f, not_polled x.poll_state (rw f at e)); new = refl }

  stream_admitted : (r : NameTable T) (receiver : HandleId) → Sane r → is_name_pending r (Stream receiver) ≡ true → Admitted r (Call.PollNext receiver)
  stream_admitted r receiver sane e = by (at receiver.0 r.handles) refl
    where
      by : (o : Option HandleEntry) → at receiver.0 r.handles ≡ o → Admitted r (Call.PollNext receiver)
      by None f = absurd (let no : false ≡ true = sym (rw f refl) ∙ e in cc)
      by (Some x) f =
          let pends : is_some (key_of x.poll_state) ≡ true = rw f at e in
          record {
            finds = (
              x,
              f,
              not_polled x.poll_state pends,
              receives x.handle.kind x.poll_state pends (λ bad. sane (Stream receiver) (hold_is r receiver x f ∙ bad)),
            );
            new = refl;
          }

  admitted_so : (r : NameTable T) (w : Waiter) → Sane r → is_name_pending r w ≡ true → Admitted r (poll_of w)
  admitted_so r (Op op) sane e = operation_admitted r op e
  admitted_so r (Stream receiver) sane e = stream_admitted r receiver sane e

  pub woken_admitted : (b : NameState T) (s : Configuration T Waiter) (w : Waiter) → Owned b s → WokenSound b s → is_among w b.order.woken ≡ true
      → Admitted b.name_table (poll_of w)
  woken_admitted b s w o k e =
      let h = k.pending w (among_is w b.order.woken e) in admitted_so b.name_table w o.none_amiss (waits_pending b.name_table w h.0 h.1)

  -- and it has its place, which it keeps
  pub poll_keeps_place : (b : NameState T) (s : Configuration T Waiter) (w : Waiter) → WokenSound b s → is_among w b.order.woken ≡ true
      → rested w b.order ≡ order_begun (let c : Call T = poll_of w in c) b.order
  poll_keeps_place b s w k e = by w (is_there w b.order.places (let h = k.pending w (among_is w b.order.woken e) in k.placed w (inl (h.0, h.1))))
    where
      by : (v : Waiter) → is_among v b.order.places ≡ true → rested v b.order ≡ order_begun (let c : Call T = poll_of v in c) b.order
      by (Op op) there = rw there refl
      by (Stream receiver) there = rw there refl

  -- an operation that may be polled is not refused
  pub poll_accepted : (r : NameTable T) (op : OpId) → Admitted r (Call.Poll op) → begin_refusal r (Call.Poll op) ≡ None
  poll_accepted r op a = let o = a.finds in sym (polling_seen r op) ∙ rw (o.1, o.2) refl
