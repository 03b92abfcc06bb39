-- That messages leave in the order in which they were accepted, and that refused ones are not in the channel.
use Rattle.std.specs.Prelude.{◌≡◌, ◌<◌, ◌∷◌, ◌++◌, if◌then◌else◌}
use Rattle.channel_world_model.proofs.Words.{arith, ℕ, zero, suc, List, [], length, Bool, true, false, Option, None, Some, Ok, Err, refl, sym, ap, subst, ◌∙◌, inl, inr, nat_eq_equiv, Answer, after_leaving, pending, displacing, space_of, Found, first, found, try_send_answer, force_send_answer, send_poll_answer, recv_poll_answer, poll_answer, poll_refused_answer, removed, accepted, Operation, at, Lack, memory, serials, refused, Answers, MayBeDone, Runs, State, start, Call, Closings, Nothing, HandleId, OpId, Op, WorldRefusal, Done, Space, Open, Filled, Shut, Ready, Pending, slice_get, Reply}
use Rattle.channel_world_model.specs.Leaving.{RefusesWhole, unsent_in, unsent_at}
use Rattle.channel_world_model.proofs.Lacking.{Lacking, lacking, out}
use Rattle.channel_world_model.proofs.LawSteps.{found_name, in_order, set_here}

-- ---- order

get_front : {X : Type 0} (xs ys : List X) (n : ℕ) → n < length xs → slice_get (xs ++ ys) n ≡ slice_get xs n
get_front [] ys n h = absurd (omega (arith, h))
get_front (x ∷ xs) ys zero h = refl
get_front (x ∷ xs) ys (suc n) h = get_front xs ys n (omega (arith, h))

pub in_turn : {T : Type 0} (capacity : Option ℕ) (calls rest : List (Call T)) (done : List (Done T)) (why : Option WorldRefusal) (world : State T)
    → Runs (start capacity) calls done why rest world
    → (n : ℕ) → n < length (removed done) → slice_get (removed done) n ≡ slice_get (accepted [] calls done) n
in_turn {T} capacity calls rest done why world r n h =
    sym (get_front (removed done) world.channel.messages n h) ∙ ap (λ (ms : List T). slice_get ms n) (in_order capacity calls rest done why world r)

-- ---- refused sends

module _ {T : Type 0} where
  module _ (s : State T) where
    try_send : (sender : HandleId) (m : T) (x : Space) → RefusesWhole s (Call.TrySend sender m) (try_send_answer s m x).reply (try_send_answer s m x).after
    try_send sender m Open = tt
    try_send sender m x = (refl, refl)

    displace : (sender : HandleId) (m : T) (ms : List T) → RefusesWhole s (Call.ForceSend sender m) (displacing s m ms).reply (displacing s m ms).after
    displace sender m [] = tt
    displace sender m (oldest ∷ ms) = tt

    force_send : (sender : HandleId) (m : T) (x : Space) → RefusesWhole s (Call.ForceSend sender m) (force_send_answer s m x).reply (force_send_answer s m x).after
    force_send sender m Open = tt
    force_send sender m Filled = displace sender m s.channel.messages
    force_send sender m Shut = (refl, refl)

    -- the send has its message no more
    emptied : (op : OpId) (handle : HandleId) (m : T) → at op.0 s.names.operations ≡ Some (Operation.Send handle (Some m)) → unsent_at op (send_poll_answer s op handle m Shut).after ≡ None
    emptied op handle m there =
        ap (λ (o : Option (Operation T)). unsent_in o)
        (set_here op.0 op.0 (Some (Operation.Send handle None)) s.names.operations (found_name op.0 s.names.operations (Operation.Send handle (Some m)) there) (nat_eq_equiv.refl op.0))

    send_poll : (op : OpId) (handle : HandleId) (m : T) (x : Space) → at op.0 s.names.operations ≡ Some (Operation.Send handle (Some m))
        → RefusesWhole s (Call.Poll op) (send_poll_answer s op handle m x).reply (send_poll_answer s op handle m x).after
    send_poll op handle m Open there = tt
    send_poll op handle m Filled there = (refl, refl)
    send_poll op handle m Shut there = (ap (λ (o : Option (Operation T)). unsent_in o) there, emptied op handle m there, refl)

    recv_poll : (op : OpId) (x : Found T) → RefusesWhole s (Call.Poll op) (recv_poll_answer s op x).reply (recv_poll_answer s op x).after
    recv_poll op (first m ms) = tt
    recv_poll op x = tt

    closed_poll : (op : OpId) (b : Bool) →
        RefusesWhole s (Call.Poll op) (if b then after_leaving Nothing Closings (Op op) s (Reply.ClosedPoll (Ready (Ok tt))) else pending Closings (Op op) s (Reply.ClosedPoll Pending)).reply
        (if b then after_leaving Nothing Closings (Op op) s (Reply.ClosedPoll (Ready (Ok tt))) else pending Closings (Op op) s (Reply.ClosedPoll Pending)).after
    closed_poll op true = tt
    closed_poll op false = tt

    poll : (op : OpId) (o : Option (Operation T)) → at op.0 s.names.operations ≡ o → RefusesWhole s (Call.Poll op) (poll_answer s op o).reply (poll_answer s op o).after
    poll op (Some (Operation.Send handle (Some m))) there = send_poll op handle m (space_of s.channel) there
    poll op (Some (Operation.Send handle None)) there = (refl, refl)
    poll op (Some (Operation.Receive handle)) there = recv_poll op (found s.channel)
    poll op (Some (Operation.Closing handle)) there = closed_poll op s.channel.closed
    poll op None there = tt

    poll_refused : (op : OpId) (o : Option (Operation T)) → RefusesWhole s (Call.PollRefused op) (poll_refused_answer s op o).reply (poll_refused_answer s op o).after
    poll_refused op (Some (Operation.Send handle msg)) = (refl, refl)
    poll_refused op o = tt

    -- ---- where a growth is refused

    abbrev Whole : Call T → Answer T → Type 0
    Whole c a = RefusesWhole s c a.reply a.after

    unsent : (lack : Lack) (op : OpId) → Whole (Call.Poll op) (out s (Op op) (Reply.SendPoll (Ready (Err (refused lack)))))
    unsent memory op = (refl, refl)
    unsent serials op = (refl, refl)

    lacks : Lacking s Whole
    lacks = record {
      try_send = λ sender m. (refl, refl);
      force_send = λ sender m. (refl, refl);
      recv_many = λ receiver limit. tt;
      leaves = λ op handle m there. (refl, refl);
      send_out = λ lack op handle m there full. unsent lack op;
      recv_out = λ lack op handle there none. tt;
      closing_out = λ lack op handle there. tt;
      next_out = λ lack receiver none. tt;
    }

    whole : (c : Call T) (a : Answer T) → Answers s c a → Whole c a
    whole c a (inr (lack, e)) = lacking s Whole lacks lack c a e
    whole (Call.TrySend sender m) a (inl e) = subst (λ (x : Answer T). Whole (Call.TrySend sender m) x) (sym e) (try_send sender m (space_of s.channel))
    whole (Call.ForceSend sender m) a (inl e) = subst (λ (x : Answer T). Whole (Call.ForceSend sender m) x) (sym e) (force_send sender m (space_of s.channel))
    whole (Call.Poll op) a (inl e) = subst (λ (x : Answer T). Whole (Call.Poll op) x) (sym e) (poll op (at op.0 s.names.operations) refl)
    whole (Call.PollRefused op) a (inl e) = subst (λ (x : Answer T). Whole (Call.PollRefused op) x) (sym e) (poll_refused op (at op.0 s.names.operations))
    whole c a (inl e) = tt

  pub kept_out : (s t : State T) (c : Call T) (d : Done T) → MayBeDone s c d t → RefusesWhole s c d.reply t
  kept_out s t c d does = whole s c (record { after = t; reply = d.reply; woken = d.woken.items }) does.1
