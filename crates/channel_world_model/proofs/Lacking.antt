-- What a call may answer where the one growth that it needs is refused, case by case.
use Rattle.std.specs.Prelude.{◌≡◌, ◌∷◌}
use Rattle.channel_world_model.proofs.Words.{◌∙◌, subst, ℕ, suc, List, [], Bool, true, false, Option, None, Some, is_none, Err, refl, sym, inl, inr, cond-false, NoMemory, Reply, WaitList, Sends, Receives, Streams, Closings, Answer, replying, after_leaving, space_of, Found, first, none_yet, found_in, found, is_among, untold, gone, Operation, at, Lack, memory, refused, not_listening, not_standing, not_held, send_not_polled, recv_not_polled, not_polled, next_not_polled, not_received, answer_without, State, with_waiting, Call, HandleId, OpId, Waiter, Op, Stream, Nothing, Space, Open, Filled, Ready, decided}

module _ {T : Type 0} where
  pub found_first : (ms : List T) (closed : Bool) (m : T) (rest : List T) → found_in ms closed ≡ first m rest → ms ≡ m ∷ rest
  found_first [] true m rest e = cc e
  found_first [] false m rest e = cc e
  found_first (x ∷ xs) closed m rest e = cc e

module _ {T : Type 0} (s : State T) where
  -- one that is out of its line, and says this
  abbrev pub out : Waiter → Reply T → Answer T
  out w r = replying (with_waiting (gone w s.waiting) s) r

  -- What holds of each such answer: of one that is all that the call says; of that of a send that leaves, with its message; and of
  -- those that were to stand in their lines.
  pub record Lacking (P : Call T → Answer T → Type 0) : Type 0 where
    pub try_send : (sender : HandleId) (m : T) → P (Call.TrySend sender m) (replying s (Reply.TrySend (Err (NoMemory m))))
    pub force_send : (sender : HandleId) (m : T) → P (Call.ForceSend sender m) (replying s (Reply.ForceSend (Err (NoMemory m))))
    pub recv_many : (receiver : HandleId) (limit : ℕ) → P (Call.RecvMany receiver limit) (replying s (Reply.RecvMany (Err (NoMemory tt))))
    pub leaves : (op : OpId) (handle : HandleId) (m : T) → at op.0 s.names.operations ≡ Some (Operation.Send handle (Some m))
        → P (Call.Poll op) (after_leaving Nothing Sends (Op op) s (Reply.SendPoll (Ready (Err (refused memory)))))
    pub send_out : (lack : Lack) (op : OpId) (handle : HandleId) (m : T) → at op.0 s.names.operations ≡ Some (Operation.Send handle (Some m)) → space_of s.channel ≡ Filled
        → P (Call.Poll op) (out (Op op) (Reply.SendPoll (Ready (Err (refused lack)))))
    pub recv_out : (lack : Lack) (op : OpId) (handle : HandleId) → at op.0 s.names.operations ≡ Some (Operation.Receive handle) → found s.channel ≡ none_yet
        → P (Call.Poll op) (out (Op op) (Reply.RecvPoll (Ready (Err (refused lack)))))
    pub closing_out : (lack : Lack) (op : OpId) (handle : HandleId) → at op.0 s.names.operations ≡ Some (Operation.Closing handle)
        → P (Call.Poll op) (out (Op op) (Reply.ClosedPoll (Ready (Err (not_listening lack)))))
    pub next_out : (lack : Lack) (receiver : HandleId) → found s.channel ≡ none_yet
        → P (Call.PollNext receiver) (out (Stream receiver) (Reply.Next (Ready (Some (Err (not_listening lack))))))

  -- an answer for want of room is the one that is given then
  pub held_is : (lack : Lack) (x : Space) (y a : Answer T) → not_held lack s.channel x y ≡ Some a → y ≡ a
  held_is memory Open y a e = elim (decided (is_none s.channel.capacity)) [ inl t ↦ cc (rw t at e) | inr t ↦ cc (rw t at e) ]
  held_is lack x y a e = cc e

  out_is : (line : WaitList) (w : Waiter) (r : Reply T) (a : Answer T) → not_standing line w s r ≡ Some a → out w r ≡ a
  out_is line w r a e = elim (decided (is_among w (untold line s.waiting))) [ inl t ↦ cc (rw t at e) | inr t ↦ cc (rw t at e) ]

  module _ (P : Call T → Answer T → Type 0) (h : Lacking P) where
    so : (c : Call T) (x a : Answer T) → P c x → x ≡ a → P c a
    so c x a p e = subst (λ (y : Answer T). P c y) e p

    sends : (lack : Lack) (op : OpId) (handle : HandleId) (m : T) (x : Space) (a : Answer T) → at op.0 s.names.operations ≡ Some (Operation.Send handle (Some m)) → space_of s.channel ≡ x
        → send_not_polled lack s op x ≡ Some a → P (Call.Poll op) a
    sends memory op handle m Open a there is e = so (Call.Poll op) _ a (h.leaves op handle m there) (held_is memory Open _ a e)
    sends lack op handle m Filled a there is e =
        so (Call.Poll op) _ a (h.send_out lack op handle m there is) (out_is Sends (Op op) (Reply.SendPoll (Ready (Err (refused lack)))) a e)
    sends lack op handle m x a there is e = cc e

    receives : (lack : Lack) (op : OpId) (handle : HandleId) (x : Found T) (a : Answer T) → at op.0 s.names.operations ≡ Some (Operation.Receive handle) → found s.channel ≡ x
        → recv_not_polled lack s op x ≡ Some a → P (Call.Poll op) a
    receives lack op handle none_yet a there is e =
        so (Call.Poll op) _ a (h.recv_out lack op handle there is) (out_is Receives (Op op) (Reply.RecvPoll (Ready (Err (refused lack)))) a e)
    receives lack op handle x a there is e = cc e

    polls : (lack : Lack) (op : OpId) (o : Option (Operation T)) (a : Answer T) → at op.0 s.names.operations ≡ o → not_polled lack s op o ≡ Some a → P (Call.Poll op) a
    polls lack op (Some (Operation.Send handle (Some m))) a there e = sends lack op handle m (space_of s.channel) a there refl e
    polls lack op (Some (Operation.Receive handle)) a there e = receives lack op handle (found s.channel) a there refl e
    polls lack op (Some (Operation.Closing handle)) a there e = elim (decided s.channel.closed) [
      | inl t ↦ cc (rw t at e)
      | inr t ↦
          let r : Reply T = Reply.ClosedPoll (Ready (Err (not_listening lack))) in
          so (Call.Poll op) _ a (h.closing_out lack op handle there) (out_is Closings (Op op) r a (sym (cond-false s.channel.closed None (not_standing Closings (Op op) s r) t) ∙ e))
    ]
    polls lack op o a there e = cc e

    streams : (lack : Lack) (receiver : HandleId) (x : Found T) (a : Answer T) → found s.channel ≡ x → next_not_polled lack s (Stream receiver) x ≡ Some a → P (Call.PollNext receiver) a
    streams lack receiver none_yet a is e =
        so (Call.PollNext receiver) _ a (h.next_out lack receiver is) (out_is Streams (Stream receiver) (Reply.Next (Ready (Some (Err (not_listening lack))))) a e)
    streams lack receiver x a is e = cc e

    several : (lack : Lack) (receiver : HandleId) (n limit : ℕ) (a : Answer T) → not_received lack s n ≡ Some a → P (Call.RecvMany receiver limit) a
    several memory receiver (suc n) limit a e = so (Call.RecvMany receiver limit) _ a (h.recv_many receiver limit) (cc e)
    several lack receiver n limit a e = cc e

    pub lacking : (lack : Lack) (c : Call T) (a : Answer T) → answer_without lack s c ≡ Some a → P c a
    lacking lack (Call.TrySend sender m) a e = so (Call.TrySend sender m) _ a (h.try_send sender m) (held_is lack (space_of s.channel) _ a e)
    lacking lack (Call.ForceSend sender m) a e = so (Call.ForceSend sender m) _ a (h.force_send sender m) (held_is lack (space_of s.channel) _ a e)
    lacking lack (Call.RecvMany receiver limit) a e = several lack receiver limit limit a e
    lacking lack (Call.Poll op) a e = polls lack op (at op.0 s.names.operations) a refl e
    lacking lack (Call.PollNext receiver) a e = streams lack receiver (found s.channel) a refl e
    lacking lack c a e = cc e
