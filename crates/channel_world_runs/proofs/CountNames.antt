-- How many strong handles live, after what calls do to the names.
use Rattle.std.specs.Prelude.{◌≡◌, ◌+◌, ◌&&◌, ◌∷◌}
use Rattle.channel_world_runs.proofs.Words.{arith, ℕ, nat_eq, Bool, true, false, inl, inr, cond, [], Option, None, Some, refl, sym, ap, ◌∙◌, subst, lookup, set_value, option_map_or, is_made, Reply, Returned, WaitList, Side, Directory, at, borrowed_by, with_spent, with_changed, without_name, HandleId, HandleKind, Waiter, Stream, written_back, installed, handed_over_by, is_strong, strong_lives, live_on, makes_strong, NameStatus, free, retired, no_stream_status, stream_status, status, status_by, Suits, poll_state_with, unused, used_more, used_less, borrowed_more, handed_over, with_handle, with_lent, with_given_back, with_borrowed, with_poll_state, OnReturn, HandleEntry, OperationEntry, PollState, Rests, Waits, IsPolled, NameTable, set_absent, decided}
use Rattle.channel_world_runs.proofs.RefusalLemmas.{and_true, and_false}
use Rattle.channel_world_runs.proofs.OwnerNames.{found, handle_entry_status, given_back_same}

-- one where it passes
abbrev pub bit : Bool → ℕ
bit b = cond b 1 0

-- ---- a directory

-- a value in the place of another
set_live : (side : Side) (n : ℕ) (d : Directory HandleEntry) (v x : Option HandleEntry) → lookup (nat_eq n) d ≡ Some x
    → live_on side (set_value (nat_eq n) d v) + bit (strong_lives side x) ≡ live_on side d + bit (strong_lives side v)
set_live side n [] v x e = absurd (let no : None ≡ Some x = e in cc)
set_live side n (f ∷ d) v x e = elim (decided (nat_eq n f.0)) [
  | inl t ↦ let same : f.1 ≡ x = cc (rw t at e) in let bits = ap (λ (y : Option HandleEntry). bit (strong_lives side y)) same in rw t (omega (arith, bits))
  | inr t ↦ let rest = set_live side n d v x (rw t at e) in rw t (omega (arith, rest))
]

-- what lived under a name lives no more
pub without_live : (side : Side) (n : ℕ) (d : Directory HandleEntry)
    → live_on side (without_name n d) + bit (strong_lives side (at n d)) ≡ live_on side d
without_live side n d = by (lookup (nat_eq n) d) refl where
  by : (o : Option (Option HandleEntry)) → lookup (nat_eq n) d ≡ o
      → live_on side (without_name n d) + bit (strong_lives side (option_map_or (λ (x : Option HandleEntry). x) o None)) ≡ live_on side d
  by None e = let same = ap (λ (l : Directory HandleEntry). live_on side l) (set_absent n d None e) in omega (arith, same)
  by (Some x) e = let same = set_live side n d None x e in omega (arith, same)

-- a name that is taken, and under which nothing lives yet
pub spent_live : (side : Side) (n : ℕ) (d : Directory HandleEntry) → live_on side (with_spent n d) ≡ live_on side d
spent_live side n d = omega arith

-- ---- what is vacant

abbrev IsVacant : NameStatus → Type 0
IsVacant retired = Unit {0}
IsVacant x = ⊥

none_vacant : (s : PollState) → IsVacant (no_stream_status s) → ⊥
none_vacant Rests h = h
none_vacant x h = h

not_vacant : (k : HandleKind) (s : PollState) → IsVacant (stream_status k s) → ⊥
not_vacant HandleKind.Receiver Rests h = h
not_vacant HandleKind.Receiver (Waits key) h = h
not_vacant HandleKind.Receiver (IsPolled brings) h = h
not_vacant x s h = none_vacant s h

is_vacant : (x : NameStatus) → x ≡ retired → IsVacant x
is_vacant x e = subst (λ (y : NameStatus). IsVacant y) (sym e) tt

-- what stands so was taken, and nothing lives there
vacant_is : (o : Option (Option HandleEntry)) → status_by handle_entry_status o ≡ retired
    → (x : Option HandleEntry) × (o ≡ Some x) × ((side : Side) → strong_lives side x ≡ false)
vacant_is None e = absurd (is_vacant free e)
vacant_is (Some None) e = (None, refl, λ side. refl)
vacant_is (Some (Some h)) e = absurd (not_vacant h.handle.kind h.poll_state (is_vacant (handle_entry_status h) e))

module _ {T : Type 0} where
  -- a handle that is changed is of the same kind
  pub handle_live : (side : Side) (change : HandleEntry → HandleEntry) (handle : HandleId) (r : NameTable T)
      → ((h : HandleEntry) → (change h).handle.kind ≡ h.handle.kind)
      → live_on side (with_handle change handle r).handles ≡ live_on side r.handles
  handle_live side change handle r keeps = by (at handle.0 r.handles) refl where
    by : (o : Option HandleEntry) → at handle.0 r.handles ≡ o
        → live_on side (option_map_or (λ (h : HandleEntry). with_changed handle.0 (change h) r.handles) o r.handles) ≡ live_on side r.handles
    by None e = refl
    by (Some h) e =
        let set = set_live side handle.0 r.handles (Some (change h)) (Some h) (found handle.0 r.handles h e) in
        let same : bit (is_strong side (change h).handle.kind) ≡ bit (is_strong side h.handle.kind) =
        ap (λ (k : HandleKind). bit (is_strong side k)) (keeps h) in
        omega (arith, set, same)

  pub lent_live : (side : Side) (handle : HandleId) (r : NameTable T) → live_on side (with_lent handle r).handles ≡ live_on side r.handles
  lent_live side handle r = handle_live side used_more handle r (λ h. refl)

  pub back_live : (side : Side) (handle : HandleId) (r : NameTable T)
      → live_on side (with_given_back handle r).handles ≡ live_on side r.handles
  back_live side handle r = handle_live side used_less handle r (λ h. refl)

  pub borrowed_live : (side : Side) (handle : HandleId) (r : NameTable T)
      → live_on side (with_borrowed handle r).handles ≡ live_on side r.handles
  borrowed_live side handle r = handle_live side borrowed_more handle r (λ h. refl)

  pub handed_over_live : (side : Side) (o : Option (OperationEntry T)) (r : NameTable T)
      → live_on side (handed_over_by o r).handles ≡ live_on side r.handles
  handed_over_live side None r = refl
  handed_over_live side (Some o) r = handle_live side handed_over (borrowed_by o.operation) r (λ h. refl)

  pub poll_state_live : (side : Side) (s : PollState) (handle : HandleId) (r : NameTable T)
      → live_on side (with_poll_state s handle r).handles ≡ live_on side r.handles
  poll_state_live side s handle r = handle_live side (λ (h : HandleEntry). record h { poll_state = s }) handle r (λ h. refl)

  -- ---- the end of a call

  pub installed_live : (side : Side) (new : HandleId) (kind : HandleKind) (y : Reply T) (r : NameTable T) → status r (Stream new) ≡ retired
      → live_on side (installed new kind y r).handles ≡ live_on side r.handles + bit (is_strong side kind && is_made (Some y))
  installed_live side new kind Reply.Made r e =
      let there = vacant_is (lookup (nat_eq new.0) r.handles) e in
      let set = set_live side new.0 r.handles (Some (unused kind)) there.0 there.1 in
      let none : bit (strong_lives side there.0) ≡ 0 = ap bit (there.2 side) in
      let all : bit (is_strong side kind && true) ≡ bit (is_strong side kind) = ap bit (and_true (is_strong side kind)) in
      omega (arith, set, none, all)
  installed_live side new kind y r e =
      let none : bit (is_strong side kind && false) ≡ 0 = ap bit (and_false (is_strong side kind)) in
      omega (arith, none)

  pub settled_live : (side : Side) (e : OnReturn T) (y : Reply T) (kept : Returned T) (wait : Option (WaitList × Waiter)) (r : NameTable T)
      → Suits (status r) e wait
      → live_on side (written_back e y kept r).handles ≡ live_on side r.handles + bit (makes_strong side e && is_made (Some y))
  settled_live side (OnReturn.Leave handle) y kept wait r f = let same = back_live side handle r in omega (arith, same)
  settled_live side (OnReturn.LeaveBoth a b) y kept wait r f =
      let first = back_live side a r in
      let second = back_live side b (with_given_back a r) in
      omega (arith, first, second)
  settled_live side (OnReturn.PollNext receiver) y kept wait r f =
      let first = poll_state_live side (poll_state_with kept.key) receiver r in
      let second = back_live side receiver (with_poll_state (poll_state_with kept.key) receiver r) in
      omega (arith, first, second)
  settled_live side (OnReturn.New from new kind) y kept wait r f =
      let back = back_live side from r in
      let made = installed_live side new kind y (with_given_back from r) (given_back_same r from (Stream new) ∙ f.0) in
      omega (arith, back, made)
  settled_live side x y kept wait r f = omega arith
