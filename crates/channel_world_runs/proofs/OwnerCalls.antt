-- What each call takes over from the names as it begins.
use Rattle.std.specs.Prelude.{◌≡◌, ◌⊎◌}
use Rattle.channel_world_runs.proofs.Lemmas.{nat_eq, true, false, Option, None, Some, is_some, inl, inr, refl, sym, ap, ◌∙◌, subst, lookup, option_map, option_map_or, Key, held_on, ChannelAsk, ListenerRef, WaitList, Streams, weak_of, strong_of, refusal_asked, giving_up_asked, drop_asked, keeper_in, stream_of, at, borrowed_by, is_taken, own_message, waits_in, without_name, handle_fits, Call, Handle, HandleId, HandleKind, OpId, Operation, Waiter, Op, Stream, Wanted, Any, asks, on_return_of, names_begun, lent_by, handed_over_by, leave_handle_of, new_from, operation_named, handle_named, placed, without_place, order_begun, plan_of, NameStatus, free, retired, invalid, polled, status_on, no_stream_status, stream_status, status_by, status, wait_of, subject, Suits, key_of, is_polled, names_of, held_of, with_lent, with_borrowed, with_poll_state, OnReturn, HandleEntry, OperationEntry, PollState, Rests, IsPolled, NameTable, of_cloned, of_upgraded, ask_holds, IsLoose, held_in, Keeps, Quiet, Touches, Admitted, IsFitting, Sane, find, seen_is, key_is, held_is, loose_is, polls_with, polls, Sets, Same, same_both, sets_same, op_status, handle_entry_status, op_set, op_spent, handle_set, handle_spent, handle_changed, lent_same, borrowed_same, handed_over_same, handle_through}
use Rattle.channel_world_model.specs.declared.plan.Wanted.TheVariants.{Receiver}
use Rattle.channel_world_runs.proofs.OwnerBegins.{untaken, on_line, Found}
use Rattle.channel_world_runs.proofs.OwnerNames.{found}
use Rattle.channel_world_runs.proofs.RefusalLemmas as seen

abbrev Idle : HandleKind → PollState → Type 0
Idle k s = (is_polled s ≡ false) × (stream_status k s ≡ invalid → ⊥)

no_stream_held : (s : PollState) → (no_stream_status s ≡ invalid → ⊥)
    → (let none : Option ListenerRef = None in none ≡ held_in (no_stream_status s)) × IsLoose (no_stream_status s)
no_stream_held Rests f = (refl, tt)
no_stream_held s f = absurd (f refl)

is_receiver : (k : HandleKind) → handle_fits Receiver k ≡ true → k ≡ HandleKind.Receiver
is_receiver HandleKind.Receiver e = refl
is_receiver k e = absurd (let no : false ≡ true = e in cc)

module _ (T : Type 0) where
  abbrev drop_is : HandleKind → Option Key → ChannelAsk T Waiter
  drop_is k key = elim k [
    | HandleKind.Sender ↦ ChannelAsk.DropSender
    | HandleKind.Receiver ↦ ChannelAsk.DropReceiver key
    | HandleKind.WeakSender ↦ ChannelAsk.DropWeak
    | HandleKind.WeakReceiver ↦ ChannelAsk.DropWeak
  ]

  drop_held : (k : HandleKind) (s : PollState) → Idle k s → (ask_holds (drop_is k (key_of s)) ≡ held_in (stream_status k s))
      × IsLoose (stream_status k s)
  drop_held HandleKind.Receiver s f = on_line Streams s f.0
  drop_held k s f = no_stream_held s f.1

  -- it keeps the listener of a receiver, and of no other handle, which isn't pending
  drop_keeps : (handle : HandleId) (h : Handle) (s : PollState) → Idle h.kind s
      → Keeps (stream_of handle (Some h)) (Stream handle) (stream_status h.kind s)
  drop_keeps handle h s f = by h.kind f
    where
      by : (k : HandleKind) → Idle k s → Keeps (stream_of handle (Some (record h { kind = k }))) (Stream handle) (stream_status k s)
      by HandleKind.Receiver f = inl refl
      by HandleKind.Sender f = inr (refl, sym (no_stream_held s f.1).0)
      by HandleKind.WeakSender f = inr (refl, sym (no_stream_held s f.1).0)
      by HandleKind.WeakReceiver f = inr (refl, sym (no_stream_held s f.1).0)

  drop_waits : (k : HandleKind) (key : Option Key) → wait_of (drop_is k key) ≡ None
  drop_waits HandleKind.Sender key = refl
  drop_waits k key = refl

  new_whose : (from new : HandleId) (k : HandleKind → HandleKind) (o : Option Handle)
      → (subject {T = T} (new_from from new k o) ≡ None) ⊎ (subject {T = T} (new_from from new k o) ≡ Some (Stream new))
  new_whose from new k None = inl refl
  new_whose from new k (Some h) = inr refl

  new_suits : (p : Waiter → NameStatus) (from new : HandleId) (k : HandleKind → HandleKind) (o : Option Handle)
      (wait : Option (WaitList × Waiter)) → p (Stream new) ≡ retired → wait ≡ None → Suits {T = T} p (new_from from new k o) wait
  new_suits p from new k None wait v e = e
  new_suits p from new k (Some h) wait v e = (v, e)

  -- it has no listener and waits for nobody
  abbrev Plain : ChannelAsk T Waiter → Type 0
  Plain a = (wait_of a ≡ None) × (ask_holds a ≡ None)

module _ {T : Type 0} where
  leaves_nobody : (o : Option (OperationEntry T)) → subject (leave_handle_of o) ≡ None
  leaves_nobody None = refl
  leaves_nobody (Some o) = refl

  leaves_suit : (p : Waiter → NameStatus) (o : Option (OperationEntry T)) (wait : Option (WaitList × Waiter)) → wait ≡ None
      → Suits p (leave_handle_of o) wait
  leaves_suit p None wait e = e
  leaves_suit p (Some o) wait e = e

  -- ---- operations

  refuses : (r : NameTable T) (op : OpId) → Found r op
      → Touches (status r) (status (names_begun r (Call.PollRefused op))) (Some (Op op)) (OnReturn.Poll op) (asks r (Call.PollRefused op)) (placed (Op op))
  refuses r op f =
      let o = f.operation in
      let same : asks r (Call.PollRefused op) ≡ ChannelAsk.RefusePoll (waits_in o.operation) (own_message o.operation) (key_of o.poll_state) =
      ap (λ (x : Option (Operation T)). refusal_asked (held_of r (Op op)) x) (seen_is r op f)
      ∙ ap (λ (key : Option Key). refusal_asked key (Some o.operation)) (key_is r op o f.is) in
      polls_with r op f (asks r (Call.PollRefused op)) (ap ask_holds same) (inl (ap wait_of same))

  gives_up : (r : NameTable T) (op : OpId) → Found r op
      → Touches (status r) (status (names_begun r (Call.GiveUp op))) (Some (Op op)) (on_return_of r (Call.GiveUp op)) (asks r (Call.GiveUp op)) (without_place (Op op))
  gives_up r op f =
      let o = f.operation in
      let same : asks r (Call.GiveUp op) ≡ ChannelAsk.GiveUp (waits_in o.operation) (own_message o.operation) (key_of o.poll_state) =
      ap (λ (x : Option (Operation T)). giving_up_asked (held_of r (Op op)) x) (seen_is r op f)
      ∙ ap (λ (key : Option Key). giving_up_asked key (Some o.operation)) (key_is r op o f.is) in
      let looked : is_some (lookup (nat_eq op.0) r.operations) ≡ true = ap (λ x. is_some x) (found op.0 r.operations o f.is) in
      let gone : NameTable T = record r { operations = without_name op.0 r.operations } in
      record {
        name = Op op;
        now = retired;
        sets = sets_same (status r) (status gone) (status (handed_over_by (at op.0 r.operations) gone)) (Op op) retired (op_set r op None looked)
            (handed_over_same gone (at op.0 r.operations));
        busy = tt;
        loose = loose_is r op f;
        takes = ap ask_holds same ∙ held_is r op f;
        suits = leaves_suit (status (names_begun r (Call.GiveUp op))) (at op.0 r.operations) (wait_of (asks r (Call.GiveUp op)))
            (ap wait_of same);
        whose = inl (leaves_nobody (at op.0 r.operations));
        works = λ line i. absurd (let no : retired ≡ polled line = i in cc);
        keeps = inl refl;
        order = inr (inr (refl, λ ws. refl));
      }

  -- a new name, under which nothing lives yet
  names_new : (p p' : Waiter → NameStatus) (w : Waiter) (e : OnReturn T) (a : ChannelAsk T Waiter) → Sets p p' w retired → p w ≡ free
      → ask_holds a ≡ None → Suits p' e (wait_of a) → (subject e ≡ None) ⊎ (subject e ≡ Some w) → Touches p p' None e a (λ ws. ws)
  names_new p p' w e a sets is_free empty suits whose = record {
    name = w;
    now = retired;
    sets = sets;
    busy = tt;
    loose = subst IsLoose (sym is_free) tt;
    takes = empty ∙ ap held_in (sym is_free);
    suits = suits;
    whose = whose;
    works = λ line i. absurd (let no : retired ≡ polled line = i in cc);
    keeps = inr (refl, ap held_in is_free);
    order = inl (is_free, refl, λ ws. refl);
  }

  names_operation : (r : NameTable T) (op : OpId) (handle : HandleId) (o : OperationEntry T) → o.poll_state ≡ Rests
      → is_taken op.0 r.operations ≡ false
      → Touches (status r) (status (with_borrowed handle (operation_named op r))) None (OnReturn.Make op o) ChannelAsk.Make (λ ws. ws)
  names_operation r op handle o new untook =
      let s = sets_same (status r) (status (operation_named op r)) (status (with_borrowed handle (operation_named op r))) (Op op) retired
      (op_spent r op) (borrowed_same (operation_named op r) handle) in
      names_new (status r) (status (with_borrowed handle (operation_named op r))) (Op op) (OnReturn.Make op o) ChannelAsk.Make s
      (untaken op_status op.0 r.operations untook) refl (s.there, new, refl) (inr refl)

  lent_by_same : (r : NameTable T) (o : Option (OperationEntry T)) → Same (status r) (status (lent_by o r))
  lent_by_same r None v = refl
  lent_by_same r (Some o) v = lent_same r (borrowed_by o.operation) v

  -- ---- handles

  -- what is known of a handle that a call takes whole
  record Seen (r : NameTable T) (handle : HandleId) : Type 0 where
    pub handle_entry : HandleEntry
    pub is : at handle.0 r.handles ≡ Some handle_entry
    pub idle : Idle handle_entry.handle.kind handle_entry.poll_state

  pub hold_is : (r : NameTable T) (handle : HandleId) (h : HandleEntry) → at handle.0 r.handles ≡ Some h
      → status r (Stream handle) ≡ handle_entry_status h
  hold_is r handle h e = ap (λ x. status_by handle_entry_status x) (found handle.0 r.handles h e)

  abbrev see : (r : NameTable T) (wanted : Wanted) (handle : HandleId) → Sane r → IsFitting r wanted handle → Seen r handle
  see r wanted handle sane h =
      record { handle_entry = h.0; is = h.1; idle = (h.2, λ bad. sane (Stream handle) (hold_is r handle h.0 h.1 ∙ bad)) }

  stream_key : (r : NameTable T) (handle : HandleId) (h : HandleEntry) → at handle.0 r.handles ≡ Some h
      → held_of r (Stream handle) ≡ key_of h.poll_state
  stream_key r handle h e = ap (λ x. option_map_or (λ (h : HandleEntry). key_of h.poll_state) x None) e

  drops : (r : NameTable T) (handle : HandleId) → Seen r handle
      → Touches (status r) (status (names_begun r (Call.Drop handle))) (keeper_in (names_of r) (Call.Drop handle)) OnReturn.Nothing
      (asks r (Call.Drop handle)) (without_place (Stream handle))
  drops r handle f =
      let h = f.handle_entry in
      let same : asks r (Call.Drop handle) ≡ drop_is T h.handle.kind (key_of h.poll_state) =
      ap (λ (x : Option Handle). drop_asked (held_of r (Stream handle)) x) (seen.handle_at r handle.0 ∙ ap (option_map (λ (h : HandleEntry). h.handle)) f.is)
      ∙ ap (λ (key : Option Key). drop_is T h.handle.kind key) (stream_key r handle h f.is) in
      let held = drop_held T h.handle.kind h.poll_state f.idle in
      let kept : keeper_in (names_of r) (Call.Drop handle) ≡ stream_of handle (Some h.handle) =
      ap (stream_of handle) (seen.handle_at r handle.0 ∙ ap (option_map (λ (h : HandleEntry). h.handle)) f.is) in
      let looked : is_some (lookup (nat_eq handle.0) r.handles) ≡ true = ap (λ x. is_some x) (found handle.0 r.handles h f.is) in
      record {
        name = Stream handle;
        now = retired;
        sets = handle_set r handle None looked;
        busy = tt;
        loose = subst IsLoose (sym (hold_is r handle h f.is)) held.1;
        takes = ap ask_holds same ∙ (held.0 ∙ ap held_in (sym (hold_is r handle h f.is)));
        suits = ap wait_of same ∙ drop_waits T h.handle.kind (key_of h.poll_state);
        whose = inl refl;
        works = λ line i. absurd (let no : retired ≡ polled line = i in cc);
        keeps = subst (λ (x : Option Waiter). Keeps x (Stream handle) (status r (Stream handle))) (sym kept)
            (subst (λ (p : NameStatus). Keeps (stream_of handle (Some h.handle)) (Stream handle) p) (sym (hold_is r handle h f.is))
            (drop_keeps T handle h.handle h.poll_state f.idle));
        order = inr (inr (refl, λ ws. refl));
      }

  streams : (r : NameTable T) (handle : HandleId) (f : Seen r handle) → f.handle_entry.handle.kind ≡ HandleKind.Receiver
      → Touches (status r) (status (names_begun r (Call.PollNext handle))) (Some (Stream handle)) (OnReturn.PollNext handle) (asks r (Call.PollNext handle)) (placed (Stream handle))
  streams r handle f receiver =
      let h = f.handle_entry in
      let lent = with_poll_state (IsPolled false) handle r in
      let s = handle_changed r handle (λ (x : HandleEntry). record x { poll_state = IsPolled false }) h f.is in
      let now_is : stream_status h.handle.kind (IsPolled false) ≡ polled Streams =
      ap (λ k. stream_status k (IsPolled false)) receiver in
      let sets : Sets (status r) (status lent) (Stream handle) (polled Streams) =
      record { there = s.there ∙ now_is; others = s.others } in
      let all = sets_same (status r) (status lent) (status (with_lent handle lent)) (Stream handle) (polled Streams) sets
      (lent_same lent handle) in
      let as_stream : handle_entry_status h ≡ status_on Streams h.poll_state = ap (λ k. stream_status k h.poll_state) receiver in
      let held = on_line Streams h.poll_state f.idle.0 in
      let is = hold_is r handle h f.is ∙ as_stream in
      record {
        name = Stream handle;
        now = polled Streams;
        sets = all;
        busy = tt;
        loose = subst IsLoose (sym is) held.1;
        takes = ap (λ key. held_on Streams key) (stream_key r handle h f.is) ∙ (held.0 ∙ ap held_in (sym is));
        suits = (Streams, all.there, inr refl);
        whose = inr refl;
        works = λ line i. refl;
        keeps = inl refl;
        order = inr (inl (λ ws. refl));
      }

  names_handle : (r : NameTable T) (from new : HandleId) (k : HandleKind → HandleKind) (o : Option Handle) (a : ChannelAsk T Waiter)
      → is_taken new.0 r.handles ≡ false → wait_of a ≡ None → ask_holds a ≡ None
      → Touches (status r) (status (with_lent from (handle_named new r))) None (new_from from new k o) a (λ ws. ws)
  names_handle r from new k o a untook patient empty =
      let begun = with_lent from (handle_named new r) in
      let s = sets_same (status r) (status (handle_named new r)) (status begun) (Stream new) retired
      (handle_spent r new) (lent_same (handle_named new r) from) in
      names_new (status r) (status begun) (Stream new) (new_from from new k o) a s (untaken handle_entry_status new.0 r.handles untook) empty
      (new_suits T (status begun) from new k o (wait_of a) s.there patient) (new_whose T from new k o)

  -- ---- any call

  abbrev pub BeginsSo : NameTable T → Call T → Type 0
  BeginsSo r c =
      Quiet (status r) (status (names_begun r c)) (keeper_in (names_of r) c) (on_return_of r c) (asks r c) (order_begun c)
      ⊎ Touches (status r) (status (names_begun r c)) (keeper_in (names_of r) c) (on_return_of r c) (asks r c) (order_begun c)

  -- a call that goes through handles alone, or through none
  passes : (r new : NameTable T) (e : OnReturn T) (a : ChannelAsk T Waiter) → Same (status r) (status new) → subject e ≡ None → Plain T a
      → Quiet (status r) (status new) None e a (λ ws. ws)
  passes r new e a same nobody plain =
      record { same = same; keeps = refl; nobody = nobody; patient = plain.0; empty = plain.1; order = λ ws. refl }

  pub begins_so : (r : NameTable T) (c : Call T) → Sane r → Admitted r c → BeginsSo r c
  begins_so r (Call.NewSend op sender msg) sane a = inr (names_operation r op sender _ refl a.new)
  begins_so r (Call.NewRecv op receiver) sane a = inr (names_operation r op receiver _ refl a.new)
  begins_so r (Call.NewClosed op sender) sane a = inr (names_operation r op sender _ refl a.new)
  begins_so r (Call.Poll op) sane a = inr (polls r op (find r op sane a.finds))
  begins_so r (Call.PollRefused op) sane a = inr (refuses r op (find r op sane a.finds))
  begins_so r (Call.GiveUp op) sane a = inr (gives_up r op (find r op sane a.finds))
  begins_so r (Call.SendIsTerminated op) sane a = inl
      (passes r (lent_by (at op.0 r.operations) r) (leave_handle_of (at op.0 r.operations)) _ (lent_by_same r (at op.0 r.operations))
      (leaves_nobody (at op.0 r.operations)) (refl, refl))
  begins_so r (Call.PollNext receiver) sane a =
      let h = a.finds in inr (streams r receiver (see r Receiver receiver sane h) (is_receiver h.0.handle.kind h.3))
  begins_so r (Call.Drop handle) sane a = inr (drops r handle (see r Any handle sane a.finds))
  begins_so r (Call.TryClone handle new) sane a =
      let p = of_cloned (Plain T) (refl, refl) (λ side. (refl, refl)) (at handle.0 (names_of r).handles) in
      inr (names_handle r handle new (λ k. k) (at handle.0 (names_of r).handles) _ a.new p.0 p.1)
  begins_so r (Call.Downgrade handle new) sane a =
      inr (names_handle r handle new weak_of (at handle.0 (names_of r).handles) ChannelAsk.Make a.new refl refl)
  begins_so r (Call.Upgrade weak new) sane a =
      let p = of_upgraded (Plain T) (refl, refl) (λ side. (refl, refl)) (at weak.0 (names_of r).handles) in
      inr (names_handle r weak new strong_of (at weak.0 (names_of r).handles) _ a.new p.0 p.1)
  begins_so r (Call.SameChannel x y) sane a = inl
      (passes r (with_lent y (with_lent x r)) (OnReturn.LeaveBoth x y) _
      (same_both (status r) (status (with_lent x r)) (status (with_lent y (with_lent x r))) (lent_same r x) (lent_same (with_lent x r) y))
      refl (refl, refl))
  begins_so r c sane a =
      let handle = handle_through (plan_of c) in
      inl (passes r (with_lent handle r) (OnReturn.Leave handle) _ (lent_same r handle) refl (refl, refl))
