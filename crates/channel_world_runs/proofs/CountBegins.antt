-- What a call that begins is to do to the counts, and what it does to the names.
use Rattle.std.specs.Prelude.{◌≡◌, ◌+◌}
use Rattle.channel_world_runs.proofs.Lemmas.{arith, ℕ, false, Option, None, Some, refl, sym, ap, subst, ◌∙◌, option_map, Key, ChannelAsk, Side, Senders, Receivers, weak_of, strong_of, drop_asked, clone_asked, upgrade_asked, at, borrowed_by, without_name, Call, Handle, HandleId, HandleKind, OpId, Waiter, Op, Stream, asks, on_return_of, names_begun, lent_by, leave_handle_of, new_from, operation_named, handle_named, is_strong, strong_lives, live_on, makes_strong, held_of, names_of, with_lent, with_borrowed, with_poll_state, OnReturn, HandleEntry, OperationEntry, IsPolled, NameTable, plan_of, asks_lowering, asks_raising, of_polls, of_refused, of_given_up, bit, without_live, spent_live, lent_live, borrowed_live, handed_over_live, poll_state_live, handle_there, handle_through}

weak_strong : (side : Side) (k : HandleKind) → is_strong side (weak_of k) ≡ false
weak_strong Senders HandleKind.Sender = refl
weak_strong Receivers HandleKind.Sender = refl
weak_strong side k = refl

module _ (T : Type 0) where
  -- neither the one nor the other
  abbrev Aside : Side → ChannelAsk T Waiter → Type 0
  Aside side a = (asks_lowering side a ≡ false) × (asks_raising side a ≡ false)

  -- the drop of a strong handle is to lower the count of its side, and no other
  drop_kind : (side : Side) (key : Option Key) (k : HandleKind) (n : ℕ)
      → (let a : ChannelAsk T Waiter = drop_asked key (Some (record { kind = k; borrowers = n })) in
      (asks_lowering side a ≡ is_strong side k) × (asks_raising side a ≡ false))
  drop_kind Senders key HandleKind.Sender n = (refl, refl)
  drop_kind Receivers key HandleKind.Sender n = (refl, refl)
  drop_kind side key k n = (refl, refl)

  drop_lowers : (side : Side) (key : Option Key) (o : Option HandleEntry)
      → (let a : ChannelAsk T Waiter = drop_asked key (option_map (λ (h : HandleEntry). h.handle) o) in
      (asks_lowering side a ≡ strong_lives side o) × (asks_raising side a ≡ false))
  drop_lowers side key None = (refl, refl)
  drop_lowers side key (Some h) = drop_kind side key h.handle.kind h.handle.borrowers

  -- a clone makes a handle of its own kind
  clone_kind : (side : Side) (k : HandleKind) (n : ℕ)
      → (let a : ChannelAsk T Waiter = clone_asked (Some (record { kind = k; borrowers = n })) in
      (asks_lowering side a ≡ false) × (is_strong side k ≡ asks_raising side a))
  clone_kind Senders HandleKind.Sender n = (refl, refl)
  clone_kind Receivers HandleKind.Sender n = (refl, refl)
  clone_kind side k n = (refl, refl)

  -- and an upgrade a strong one
  upgrade_kind : (side : Side) (k : HandleKind) (n : ℕ)
      → (let a : ChannelAsk T Waiter = upgrade_asked (Some (record { kind = k; borrowers = n })) in
      (asks_lowering side a ≡ false) × (is_strong side (strong_of k) ≡ asks_raising side a))
  upgrade_kind Senders HandleKind.Sender n = (refl, refl)
  upgrade_kind Receivers HandleKind.Sender n = (refl, refl)
  upgrade_kind side k n = (refl, refl)

  -- what a call that begins does, and what it is to do
  abbrev pub BeginsSo : Side → NameTable T → Call T → Type 0
  BeginsSo side r c =
      (live_on side (names_begun r c).handles + bit (asks_lowering side (asks r c)) ≡ live_on side r.handles)
      × (makes_strong side (on_return_of r c) ≡ asks_raising side (asks r c))

  module _ (side : Side) (r : NameTable T) where
    -- a handle is used by one more
    lent : (handle : HandleId) → live_on side (with_lent handle r).handles + 0 ≡ live_on side r.handles
    lent handle = let same = lent_live side handle r in omega (arith, same)

    made : (op : OpId) (handle : HandleId) → live_on side (with_borrowed handle (operation_named op r)).handles + 0 ≡ live_on side r.handles
    made op handle = let same = borrowed_live side handle (operation_named op r) in omega (arith, same)

    named : (handle new : HandleId) → live_on side (with_lent handle (handle_named new r)).handles ≡ live_on side r.handles
    named handle new =
        let same = lent_live side handle (handle_named new r) in
        let spent = spent_live side new.0 r.handles in
        omega (arith, same, spent)

    aside : (l : ℕ) (a : ChannelAsk T Waiter) → asks_lowering side a ≡ false → l ≡ live_on side r.handles
        → l + bit (asks_lowering side a) ≡ live_on side r.handles
    aside l a none same = let n : bit (asks_lowering side a) ≡ 0 = ap bit none in omega (arith, n, same)

    lent_by_live : (o : Option (OperationEntry T)) → live_on side (lent_by o r).handles ≡ live_on side r.handles
    lent_by_live None = refl
    lent_by_live (Some o) = lent_live side (borrowed_by o.operation) r

    leaves_aside : (o : Option (OperationEntry T)) → (let e : OnReturn T = leave_handle_of o in makes_strong side e ≡ false)
    leaves_aside None = refl
    leaves_aside (Some o) = refl

    cloned : (handle new : HandleId) (x : Option Handle)
        → (let e : OnReturn T = new_from handle new (λ k. k) x in
        let a : ChannelAsk T Waiter = clone_asked x in (asks_lowering side a ≡ false) × (makes_strong side e ≡ asks_raising side a))
    cloned handle new None = (refl, refl)
    cloned handle new (Some h) = clone_kind side h.kind h.borrowers

    upgraded : (handle new : HandleId) (x : Option Handle)
        → (let e : OnReturn T = new_from handle new strong_of x in
        let a : ChannelAsk T Waiter = upgrade_asked x in (asks_lowering side a ≡ false) × (makes_strong side e ≡ asks_raising side a))
    upgraded handle new None = (refl, refl)
    upgraded handle new (Some h) = upgrade_kind side h.kind h.borrowers

    downgraded : (handle new : HandleId) (x : Option Handle)
        → (let e : OnReturn T = new_from handle new weak_of x in
        makes_strong side e ≡ false)
    downgraded handle new None = refl
    downgraded handle new (Some h) = weak_strong side h.kind

    pub begins_so : (c : Call T) → BeginsSo side r c
    begins_so (Call.NewSend op sender msg) = (made op sender, refl)
    begins_so (Call.NewRecv op receiver) = (made op receiver, refl)
    begins_so (Call.NewClosed op sender) = (made op sender, refl)
    begins_so (Call.Poll op) =
        let a = of_polls (Aside side) (refl, refl) (λ m key w. (refl, refl)) (refl, refl) (λ key w. (refl, refl)) (λ key w. (refl, refl)) (held_of r (Op op)) op (at op.0 (names_of r).operations) in
        (aside (live_on side r.handles) (asks r (Call.Poll op)) a.0 refl, sym a.1)
    begins_so (Call.PollRefused op) =
        let a = of_refused (Aside side) (refl, refl) (λ line m key. (refl, refl)) (held_of r (Op op)) (at op.0 (names_of r).operations) in
        (aside (live_on side r.handles) (asks r (Call.PollRefused op)) a.0 refl, sym a.1)
    begins_so (Call.GiveUp op) =
        let a = of_given_up (Aside side) (refl, refl) (λ line m key. (refl, refl)) (held_of r (Op op)) (at op.0 (names_of r).operations) in
        let live = handed_over_live side (at op.0 r.operations) (record r { operations = without_name op.0 r.operations }) in
        (aside _ (asks r (Call.GiveUp op)) a.0 live, leaves_aside (at op.0 r.operations) ∙ sym a.1)
    begins_so (Call.SendIsTerminated op) =
        let same = lent_by_live (at op.0 r.operations) in
        (omega (arith, same), leaves_aside (at op.0 r.operations))
    begins_so (Call.PollNext receiver) =
        let stands = poll_state_live side (IsPolled false) receiver r in
        let used = lent_live side receiver (with_poll_state (IsPolled false) receiver r) in
        (omega (arith, stands, used), refl)
    begins_so (Call.Drop handle) =
        let a = subst (λ (x : Option Handle). let a : ChannelAsk T Waiter = drop_asked (held_of r (Stream handle)) x in
        (asks_lowering side a ≡ strong_lives side (at handle.0 r.handles)) × (asks_raising side a ≡ false))
        (handle_there r handle.0) (drop_lowers side (held_of r (Stream handle)) (at handle.0 r.handles)) in
        let low : bit (asks_lowering side (asks r (Call.Drop handle))) ≡ bit (strong_lives side (at handle.0 r.handles)) = ap bit a.0 in
        let gone = without_live side handle.0 r.handles in
        (omega (arith, low, gone), sym a.1)
    begins_so (Call.TryClone handle new) =
        let a = cloned handle new (at handle.0 (names_of r).handles) in
        (aside _ (asks r (Call.TryClone handle new)) a.0 (named handle new), a.1)
    begins_so (Call.Downgrade handle new) =
        (aside _ (asks r (Call.Downgrade handle new)) refl (named handle new), downgraded handle new (at handle.0 (names_of r).handles))
    begins_so (Call.Upgrade weak new) =
        let a = upgraded weak new (at weak.0 (names_of r).handles) in
        (aside _ (asks r (Call.Upgrade weak new)) a.0 (named weak new), a.1)
    begins_so (Call.SameChannel a b) =
        let one = lent_live side a r in
        let two = lent_live side b (with_lent a r) in
        (omega (arith, one, two), refl)
    begins_so c = (lent (handle_through (plan_of c)), refl)
