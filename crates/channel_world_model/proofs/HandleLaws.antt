-- That counts count handles, and what an upgrade gives.
use Rattle.std.specs.Prelude.{◌≡◌, ◌⊎◌, ◌≤◌, ◌<◌, ◌+◌, ◌-◌, ◌^◌, ◌==◌, ◌∷◌, ◌||◌, if◌then◌else◌}
use Rattle.channel_world_model.proofs.Words.{arith, ℕ, zero, suc, nat_lt, List, [], Bool, true, false, cond, Option, None, Some, refl, sym, ap, subst, ◌∙◌, inl, inr, nat_tests, Answer, replying, strong_handles, strong_of, with_strong_handles, without_one, shut, spent, upgrade_answer, upgrade_to, one_more, ModelChannel, HandlesAreCounted, UpgradesAsOpen, live_of, Directory, at, with_new, without_name, are_alike, MayBeDone, Runs, State, start, Call, Reply, Handle, HandleId, HandleKind, Sender, Receiver, WeakSender, WeakReceiver, WorldRefusal, Done, decided}
use Rattle.channel_world_model.proofs.Deeds.{Deed, stays, grows, holds, shuts, adds, drops, deed_of}
use Rattle.channel_world_model.proofs.Live.{gone_less}

pub more_than_one : (n : ℕ) → (n == 1) ≡ false → 1 ≤ n → 1 ≤ n - 1
more_than_one zero t h = absurd (omega (arith, h))
more_than_one (suc zero) t h = cc t
more_than_one (suc (suc n)) t h = omega arith

never_none : (n : ℕ) → 1 ≤ n → (n == 0) ≡ false
never_none n h = grind (arith, nat_tests)

-- no weak handle is of a side
no_sender : (side : HandleKind) → are_alike side WeakSender ≡ false
no_sender Sender = refl
no_sender side = refl

no_receiver : (side : HandleKind) → are_alike side WeakReceiver ≡ false
no_receiver Sender = refl
no_receiver side = refl

module _ {T : Type 0} where
  module _ (c : ModelChannel T) (d : Directory Handle) (counted : HandlesAreCounted c d) where
    -- neither the counts nor the flag nor the number of handles is changed
    as_before : (b : ModelChannel T) (e : Directory Handle) → b.senders ≡ c.senders → b.receivers ≡ c.receivers → (b.closed ≡ false → c.closed ≡ false)
        → ((side : HandleKind) → live_of side e ≡ live_of side d) → HandlesAreCounted b e
    as_before b e s r o alike = record {
      senders = s ∙ counted.senders ∙ sym (alike Sender);
      receivers = r ∙ counted.receivers ∙ sym (alike Receiver);
      sending = λ h. subst (λ (n : ℕ). 1 ≤ n) (sym s) (counted.sending (o h));
      receiving = λ h. subst (λ (n : ℕ). 1 ≤ n) (sym r) (counted.receiving (o h));
    }

    one_added : (name : ℕ) (kind : HandleKind) → HandlesAreCounted (with_strong_handles kind (strong_handles kind c + 1) c) (with_new name (record { kind = kind; borrowers = 0 }) d)
    one_added name Sender = record {
      senders = omega (arith, counted.senders);
      receivers = counted.receivers;
      sending = λ h. omega arith;
      receiving = counted.receiving;
    }
    one_added name Receiver = record {
      senders = counted.senders;
      receivers = omega (arith, counted.receivers);
      sending = counted.sending;
      receiving = λ h. omega arith;
    }
    one_added name WeakSender = as_before c (with_new name (record { kind = WeakSender; borrowers = 0 }) d) refl refl (λ h. h) (λ side. rw (no_sender side) refl)
    one_added name WeakReceiver = as_before c (with_new name (record { kind = WeakReceiver; borrowers = 0 }) d) refl refl (λ h. h) (λ side. rw (no_receiver side) refl)

    -- the last of a side closes the channel
    sender_dropped : (e : Directory Handle) → live_of Sender d ≡ live_of Sender e + 1 → live_of Receiver d ≡ live_of Receiver e + 0
        → (last : Bool) → (c.senders == 1) ≡ last → HandlesAreCounted (let left = with_strong_handles Sender (c.senders - 1) c in if last then shut left else left) e
    sender_dropped e less same true t = record {
      senders = omega (arith, counted.senders, less);
      receivers = omega (arith, counted.receivers, same);
      sending = λ h. cc h;
      receiving = λ h. cc h;
    }
    sender_dropped e less same false t = record {
      senders = omega (arith, counted.senders, less);
      receivers = omega (arith, counted.receivers, same);
      sending = λ h. more_than_one c.senders t (counted.sending h);
      receiving = counted.receiving;
    }

    receiver_dropped : (e : Directory Handle) → live_of Receiver d ≡ live_of Receiver e + 1 → live_of Sender d ≡ live_of Sender e + 0
        → (last : Bool) → (c.receivers == 1) ≡ last → HandlesAreCounted (let left = with_strong_handles Receiver (c.receivers - 1) c in if last then shut left else left) e
    receiver_dropped e less same true t = record {
      senders = omega (arith, counted.senders, same);
      receivers = omega (arith, counted.receivers, less);
      sending = λ h. cc h;
      receiving = λ h. cc h;
    }
    receiver_dropped e less same false t = record {
      senders = omega (arith, counted.senders, same);
      receivers = omega (arith, counted.receivers, less);
      sending = counted.sending;
      receiving = λ h. more_than_one c.receivers t (counted.receiving h);
    }

    one_dropped : (name : ℕ) (h : Handle) (kind : HandleKind) → at name d ≡ Some h → h.kind ≡ kind → HandlesAreCounted (without_one kind c) (without_name name d)
    one_dropped name h kind there e = of kind (λ side. less side) where
      less : (side : HandleKind) → live_of side d ≡ live_of side (without_name name d) + cond (are_alike side kind) 1 0
      less side = subst (λ (k : HandleKind). live_of side d ≡ live_of side (without_name name d) + cond (are_alike side k) 1 0) e (gone_less side name h d there)

      weak_too : (k : HandleKind) → ((side : HandleKind) → are_alike side k ≡ false) → ((side : HandleKind) → live_of side d ≡ live_of side (without_name name d) + cond (are_alike side k) 1 0)
          → (side : HandleKind) → live_of side (without_name name d) ≡ live_of side d
      weak_too k off l side =
          let now : live_of side d ≡ live_of side (without_name name d) + 0 = subst (λ (b : Bool). live_of side d ≡ live_of side (without_name name d) + cond b 1 0) (off side) (l side) in
          omega (arith, now)

      of : (k : HandleKind) → ((side : HandleKind) → live_of side d ≡ live_of side (without_name name d) + cond (are_alike side k) 1 0) → HandlesAreCounted (without_one k c) (without_name name d)
      of Sender l = sender_dropped (without_name name d) (l Sender) (l Receiver) (c.senders == 1) refl
      of Receiver l = receiver_dropped (without_name name d) (l Receiver) (l Sender) (c.receivers == 1) refl
      of WeakSender l = as_before c (without_name name d) refl refl (λ o. o) (weak_too WeakSender no_sender l)
      of WeakReceiver l = as_before c (without_name name d) refl refl (λ o. o) (weak_too WeakReceiver no_receiver l)

  -- ---- whole runs

  step_counted : (s : State T) (a : Answer T) → Deed s a → HandlesAreCounted s.channel s.names.handles → HandlesAreCounted a.after.channel a.after.names.handles
  step_counted s a (stays same alike none) k =
      as_before s.channel s.names.handles k a.after.channel a.after.names.handles (ap (λ (c : ModelChannel T). c.senders) same) (ap (λ (c : ModelChannel T). c.receivers) same)
      (λ o. ap (λ (c : ModelChannel T). c.closed) (sym same) ∙ o) alike
  step_counted s a (grows m room same alike none) k =
      as_before s.channel s.names.handles k a.after.channel a.after.names.handles (ap (λ (c : ModelChannel T). c.senders) same) (ap (λ (c : ModelChannel T). c.receivers) same)
      (λ o. ap (λ (c : ModelChannel T). c.closed) (sym same) ∙ o) alike
  step_counted s a (holds ms n less same alike none) k =
      as_before s.channel s.names.handles k a.after.channel a.after.names.handles (ap (λ (c : ModelChannel T). c.senders) same) (ap (λ (c : ModelChannel T). c.receivers) same)
      (λ o. ap (λ (c : ModelChannel T). c.closed) (sym same) ∙ o) alike
  step_counted s a (shuts opened same alike) k =
      as_before s.channel s.names.handles k a.after.channel a.after.names.handles (ap (λ (c : ModelChannel T). c.senders) same) (ap (λ (c : ModelChannel T). c.receivers) same)
      (λ o. opened) alike
  step_counted s a (adds name kind same handles none) k =
      subst (λ (c : ModelChannel T). HandlesAreCounted c a.after.names.handles) (sym same)
      (subst (λ (d : Directory Handle). HandlesAreCounted (with_strong_handles kind (strong_handles kind s.channel + 1) s.channel) d) (sym handles) (one_added s.channel s.names.handles k name kind))
  step_counted s a (drops name h kind there is same handles none) k =
      subst (λ (c : ModelChannel T). HandlesAreCounted c a.after.names.handles) (sym same)
      (subst (λ (d : Directory Handle). HandlesAreCounted (without_one kind s.channel) d) (sym handles) (one_dropped s.channel s.names.handles k name h kind there is))

  run_counted : (s : State T) (cs : List (Call T)) (ds : List (Done T)) (why : Option WorldRefusal) (rest : List (Call T)) (t : State T)
      → HandlesAreCounted s.channel s.names.handles → Runs s cs ds why rest t → HandlesAreCounted t.channel t.names.handles
  run_counted s cs [] why rest t k (left, same, stops) = subst (λ (x : State T). HandlesAreCounted x.channel x.names.handles) (sym same) k
  run_counted s [] (d ∷ ds) why rest t k r = absurd r
  run_counted s (c ∷ cs) (d ∷ ds) why rest t k (mid, does, runs) =
      let a : Answer T = record { after = mid; reply = d.reply; woken = d.woken.items } in
      run_counted mid cs ds why rest t (step_counted s a (deed_of s c a does.1) k) runs

  pub counts : (capacity : Option ℕ) (calls rest : List (Call T)) (done : List (Done T)) (why : Option WorldRefusal) (world : State T)
      → Runs (start capacity) calls done why rest world → HandlesAreCounted world.channel world.names.handles
  counts capacity calls rest done why world r =
      run_counted (start capacity) calls done why rest world (record { senders = refl; receivers = refl; sending = λ o. omega arith; receiving = λ o. omega arith }) r

  -- ---- upgrades

  strong_lives : (s : State T) → HandlesAreCounted s.channel s.names.handles → s.channel.closed ≡ false → (kind : HandleKind) → (strong_handles (strong_of kind) s.channel == 0) ≡ false
  strong_lives s k o Receiver = never_none s.channel.receivers (k.receiving o)
  strong_lives s k o WeakReceiver = never_none s.channel.receivers (k.receiving o)
  strong_lives s k o kind = never_none s.channel.senders (k.sending o)

  -- one more handle is made, or there are too many
  one_more_says : (s : State T) (new : HandleId) (kind : HandleKind)
      → ((one_more s new kind).reply ≡ Reply.Made) ⊎ (((one_more s new kind).reply ≡ Reply.TooMany) × (2 ^ 63 - 1 < strong_handles kind s.channel))
  one_more_says s new kind = elim (decided (nat_lt (2 ^ 63 - 1) (strong_handles kind s.channel))) [
    | inl t ↦ inr (rw t refl, grind (arith, nat_tests))
    | inr t ↦ inl (rw t refl)
  ]

  upgrade_says : (s : State T) (weak new : HandleId) (h : Handle) → HandlesAreCounted s.channel s.names.handles → at weak.0 s.names.handles ≡ Some h
      → UpgradesAsOpen s weak (upgrade_to s new (strong_of h.kind)).reply
  upgrade_says s weak new h k there = elim (decided s.channel.closed) [
    | inl t ↦
        let shut_is : (upgrade_to s new (strong_of h.kind)).reply ≡ Reply.NotMade = rw t refl in
        record { closed = λ e. shut_is; opened = λ e. cc (t, e); limit = λ e. cc (shut_is, e) }
    | inr t ↦
        let off : (s.channel.closed || (strong_handles (strong_of h.kind) s.channel == 0)) ≡ false =
        ap (λ (b : Bool). b || (strong_handles (strong_of h.kind) s.channel == 0)) t ∙ strong_lives s k t h.kind in
        let goes_on : (upgrade_to s new (strong_of h.kind)).reply ≡ (one_more s new (strong_of h.kind)).reply =
        ap (λ (b : Bool). (if b then replying (spent s new) Reply.NotMade else one_more s new (strong_of h.kind)).reply) off in
        elim (one_more_says s new (strong_of h.kind)) [
          | inl m ↦ record { closed = λ e. cc (t, e); opened = λ e. inl (goes_on ∙ m); limit = λ e. cc (goes_on, m, e) }
          | inr m ↦ record { closed = λ e. cc (t, e); opened = λ e. inr (goes_on ∙ m.0); limit = λ e. rw there m.1 }
        ]
  ]

  pub upgraded : (capacity : Option ℕ) (calls rest : List (Call T)) (done : List (Done T)) (why : Option WorldRefusal) (world after : State T)
      (weak new : HandleId) (d : Done T) → Runs (start capacity) calls done why rest world → MayBeDone world (Call.Upgrade weak new) d after → UpgradesAsOpen world weak d.reply
  upgraded capacity calls rest done why world after weak new d r (ok, inr (lack, e)) = cc e
  upgraded capacity calls rest done why world after weak new d r (ok, inl e) =
      subst (λ (x : Reply T). UpgradesAsOpen world weak x) (sym (ap (λ (a : Answer T). a.reply) e)) (found (at weak.0 world.names.handles) refl) where
        found : (o : Option Handle) → at weak.0 world.names.handles ≡ o → UpgradesAsOpen world weak (upgrade_answer world new o).reply
        found (Some h) there = upgrade_says world weak new h (counts capacity calls rest done why world r) there
        found None there = cc (rw there at ok)
