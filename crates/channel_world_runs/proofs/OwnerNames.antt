-- How names stand after what calls do to them.
use Rattle.std.specs.Prelude.{◌≡◌, ◌⊎◌}
use Rattle.channel_world_runs.proofs.Words.{arith, ℕ, nat_eq, Bool, true, false, cond, Option, None, Some, is_some, inl, inr, refl, sym, ap, ◌∙◌, subst, false_from_ne_true, nat_tests, nat_eq_equiv, lookup-set_value, set_absent, no_value, decided, lookup, set_value, option_map_or, Directory, at, borrowed_by, with_spent, with_changed, HandleId, OpId, Waiter, Op, Stream, with_operation, handed_over_by, operation_named, handle_named, NameStatus, retired, stream_status, status_by, operation_status, status, used_more, used_less, borrowed_more, handed_over, with_handle, with_lent, with_given_back, with_borrowed, HandleEntry, OperationEntry, NameTable}
pub use Rattle.channel_world_model.proofs.WaiterLemmas.{same_number}

pub own_number : (a : ℕ) → nat_eq a a ≡ true
own_number a = grind (arith, nat_tests)

pub differ : (a b : ℕ) → (a ≡ b → ⊥) → nat_eq a b ≡ false
differ a b f = false_from_ne_true (nat_eq a b) (λ e. f (same_number a b e))

pub number_or : (a b : ℕ) → (a ≡ b) ⊎ (a ≡ b → ⊥)
number_or a b = elim (decided (nat_eq a b)) [
  | inl e ↦ inl (same_number a b e)
  | inr e ↦ inr (λ h. cc (sym (own_number a) ∙ (ap (λ n. nat_eq a n) h ∙ e)))
]

op_named : (a b : OpId) → a.0 ≡ b.0 → Op a ≡ Op b
op_named a b e = ap (λ n. let w : Waiter = Op (record { 0 = n }) in w) e

stream_named : (a b : HandleId) → a.0 ≡ b.0 → Stream a ≡ Stream b
stream_named a b e = ap (λ n. let w : Waiter = Stream (record { 0 = n }) in w) e

pub waiter_or : (v w : Waiter) → (v ≡ w) ⊎ (v ≡ w → ⊥)
waiter_or (Op a) (Op b) = by (number_or a.0 b.0)
  where
    by : (a.0 ≡ b.0) ⊎ (a.0 ≡ b.0 → ⊥) → (Op a ≡ Op b) ⊎ (Op a ≡ Op b → ⊥)
    by (inl e) = inl (op_named a b e)
    by (inr f) = inr (λ e. f (ap (λ (w : Waiter). elim w [ Op x ↦ x.0 | Stream x ↦ x.0 ]) e))
waiter_or (Stream a) (Stream b) = by (number_or a.0 b.0)
  where
    by : (a.0 ≡ b.0) ⊎ (a.0 ≡ b.0 → ⊥) → (Stream a ≡ Stream b) ⊎ (Stream a ≡ Stream b → ⊥)
    by (inl e) = inl (stream_named a b e)
    by (inr f) = inr (λ e. f (ap (λ (w : Waiter). elim w [ Op x ↦ x.0 | Stream x ↦ x.0 ]) e))
waiter_or (Op a) (Stream b) = inr (λ e. absurd (cc e))
waiter_or (Stream a) (Op b) = inr (λ e. absurd (cc e))

-- ---- one directory

module _ {X : Type 0} (p : X → NameStatus) (d : Directory X) where
  abbrev pub seen : Directory X → ℕ → NameStatus
  seen e n = status_by p (lookup (nat_eq n) e)

  spent_at : (t : Bool) (n : ℕ) → status_by p (cond t (Some None) (lookup (nat_eq n) d)) ≡ (cond t retired (seen d n))
  spent_at true n = refl
  spent_at false n = refl

  pub spent_there : (n : ℕ) → seen (with_spent n d) n ≡ retired
  spent_there n = spent_at (nat_eq n n) n ∙ ap (λ t. cond t retired (seen d n)) (own_number n)

  pub spent_other : (n m : ℕ) → (m ≡ n → ⊥) → seen (with_spent n d) m ≡ seen d m
  spent_other n m f = spent_at (nat_eq m n) m ∙ ap (λ t. cond t retired (seen d m)) (differ m n f)

module _ {X : Type 0} where
  pub set_there : (n : ℕ) (es : Directory X) (v : Option X) → is_some (lookup (nat_eq n) es) ≡ true → lookup (nat_eq n) (set_value (nat_eq n) es v) ≡ Some v
  set_there n es v h =
      lookup-set_value nat_eq_equiv (nat_eq n) (λ x y t. nat_eq_equiv.congr n x y t) n v es h ∙ ap (λ t. cond t (Some v) (lookup (nat_eq n) es)) (own_number n)

  pub set_other : (n m : ℕ) (es : Directory X) (v : Option X) → (m ≡ n → ⊥) → lookup (nat_eq m) (set_value (nat_eq n) es v) ≡ lookup (nat_eq m) es
  set_other n m es v other = elim (decided (is_some (lookup (nat_eq n) es))) [
    | inl t ↦
        lookup-set_value nat_eq_equiv (nat_eq n) (λ x y u. nat_eq_equiv.congr n x y u) m v es t
        ∙ ap (λ b. cond b (Some v) (lookup (nat_eq m) es)) (differ n m (λ e. other (sym e)))
    | inr t ↦ ap (λ (d : Directory X). lookup (nat_eq m) d) (set_absent n es v (no_value n es t))
  ]

  -- what lives there was looked up
  pub found : (n : ℕ) (d : Directory X) (x : X) → at n d ≡ Some x → lookup (nat_eq n) d ≡ Some (Some x)
  found n d x e = by (lookup (nat_eq n) d) e
    where
      by : (o : Option (Option X)) → option_map_or (λ (y : Option X). y) o None ≡ Some x → o ≡ Some (Some x)
      by None h = absurd (let no : None ≡ Some x = h in cc)
      by (Some None) h = absurd (let no : None ≡ Some x = h in cc)
      by (Some (Some y)) h = ap (λ (z : Option X). Some z) h

  pub is_there : (o : Option (Option X)) (y : Option X) → o ≡ Some y → is_some o ≡ true
  is_there o y e = ap (λ (z : Option (Option X)). is_some z) e

-- ---- all names

-- this name stands so then, and any other as before
pub record Sets (p p' : Waiter → NameStatus) (w : Waiter) (x : NameStatus) : Type 0 where
  pub there : p' w ≡ x
  pub others : (v : Waiter) → (v ≡ w → ⊥) → p' v ≡ p v

abbrev pub Same : (Waiter → NameStatus) → (Waiter → NameStatus) → Type 0
Same p p' = (v : Waiter) → p' v ≡ p v

pub same_both : (p q r : Waiter → NameStatus) → Same p q → Same q r → Same p r
same_both p q r f g v = g v ∙ f v

pub sets_same : (p q r : Waiter → NameStatus) (w : Waiter) (x : NameStatus) → Sets p q w x → Same q r → Sets p r w x
sets_same p q r w x h f = record { there = f w ∙ h.there; others = λ v other. f v ∙ h.others v other }

pub same_sets : (p q r : Waiter → NameStatus) (w : Waiter) (x : NameStatus) → Same p q → Sets q r w x → Sets p r w x
same_sets p q r w x f h = record { there = h.there; others = λ v other. h.others v other ∙ f v }

abbrev pub handle_entry_status : HandleEntry → NameStatus
handle_entry_status h = stream_status h.handle.kind h.poll_state

module _ {T : Type 0} where
  abbrev pub op_status : OperationEntry T → NameStatus
  op_status o = operation_status o.operation o.poll_state

  -- ---- operations

  op_others : (r : NameTable T) (op : OpId) (d : Directory (OperationEntry T)) → ((n : ℕ) → (n ≡ op.0 → ⊥) → status_by op_status (lookup (nat_eq n) d) ≡ status_by op_status (lookup (nat_eq n) r.operations))
      → (v : Waiter) → (v ≡ Op op → ⊥) → status (record r { operations = d }) v ≡ status r v
  op_others r op d f (Op a) other = f a.0 (λ e. other (op_named a op e))
  op_others r op d f (Stream h) other = refl

  -- a value under the name of an operation
  pub op_set : (r : NameTable T) (op : OpId) (v : Option (OperationEntry T)) → is_some (lookup (nat_eq op.0) r.operations) ≡ true → Sets (status r) (status (record r { operations = set_value (nat_eq op.0) r.operations v })) (Op op) (status_by op_status (Some v))
  op_set r op v e =
      record {
        there = ap (λ o. status_by op_status o) (set_there op.0 r.operations v e);
        others = op_others r op (set_value (nat_eq op.0) r.operations v) (λ n other. ap (λ o. status_by op_status o) (set_other op.0 n r.operations v other));
      }

  pub op_spent : (r : NameTable T) (op : OpId) → Sets (status r) (status (operation_named op r)) (Op op) retired
  op_spent r op =
      record {
        there = spent_there op_status r.operations op.0;
        others = op_others r op (with_spent op.0 r.operations) (λ n other. spent_other op_status r.operations op.0 n other);
      }

  -- what lives there is changed
  pub op_changed : (r : NameTable T) (op : OpId) (change : OperationEntry T → OperationEntry T) (o : OperationEntry T) → at op.0 r.operations ≡ Some o → Sets (status r) (status (with_operation change op r)) (Op op) (op_status (change o))
  op_changed r op change o e =
      subst (λ (d : Directory (OperationEntry T)). Sets (status r) (status (record r { operations = d })) (Op op) (op_status (change o)))
      (sym (ap (λ (x : Option (OperationEntry T)). option_map_or (λ (y : OperationEntry T). with_changed op.0 (change y) r.operations) x r.operations) e))
      (op_set r op (Some (change o)) (is_there (lookup (nat_eq op.0) r.operations) (Some o) (found op.0 r.operations o e)))

  -- ---- handles

  handle_others : (r : NameTable T) (handle : HandleId) (d : Directory HandleEntry) → ((n : ℕ) → (n ≡ handle.0 → ⊥) → status_by handle_entry_status (lookup (nat_eq n) d) ≡ status_by handle_entry_status (lookup (nat_eq n) r.handles))
      → (v : Waiter) → (v ≡ Stream handle → ⊥) → status (record r { handles = d }) v ≡ status r v
  handle_others r handle d f (Op a) other = refl
  handle_others r handle d f (Stream h) other = f h.0 (λ e. other (stream_named h handle e))

  pub handle_set : (r : NameTable T) (handle : HandleId) (v : Option HandleEntry) → is_some (lookup (nat_eq handle.0) r.handles) ≡ true → Sets (status r) (status (record r { handles = set_value (nat_eq handle.0) r.handles v })) (Stream handle) (status_by handle_entry_status (Some v))
  handle_set r handle v e =
      record {
        there = ap (λ o. status_by handle_entry_status o) (set_there handle.0 r.handles v e);
        others = handle_others r handle (set_value (nat_eq handle.0) r.handles v) (λ n other. ap (λ o. status_by handle_entry_status o) (set_other handle.0 n r.handles v other));
      }

  pub handle_spent : (r : NameTable T) (handle : HandleId) → Sets (status r) (status (handle_named handle r)) (Stream handle) retired
  handle_spent r handle =
      record {
        there = spent_there handle_entry_status r.handles handle.0;
        others = handle_others r handle (with_spent handle.0 r.handles) (λ n other. spent_other handle_entry_status r.handles handle.0 n other);
      }

  pub handle_changed : (r : NameTable T) (handle : HandleId) (change : HandleEntry → HandleEntry) (h : HandleEntry) → at handle.0 r.handles ≡ Some h → Sets (status r) (status (with_handle change handle r)) (Stream handle) (handle_entry_status (change h))
  handle_changed r handle change h e =
      subst (λ (d : Directory HandleEntry). Sets (status r) (status (record r { handles = d })) (Stream handle) (handle_entry_status (change h)))
      (sym (ap (λ (x : Option HandleEntry). option_map_or (λ (y : HandleEntry). with_changed handle.0 (change y) r.handles) x r.handles) e))
      (handle_set r handle (Some (change h)) (is_there (lookup (nat_eq handle.0) r.handles) (Some h) (found handle.0 r.handles h e)))

  pub handle_none : (r : NameTable T) (handle : HandleId) (change : HandleEntry → HandleEntry) → at handle.0 r.handles ≡ None → with_handle change handle r ≡ r
  handle_none r handle change e =
      ap (λ (d : Directory HandleEntry). record r { handles = d }) (ap (λ (x : Option HandleEntry). option_map_or (λ (y : HandleEntry). with_changed handle.0 (change y) r.handles) x r.handles) e)

  -- a change of how many use it
  handle_kept : (r : NameTable T) (handle : HandleId) (change : HandleEntry → HandleEntry) → ((h : HandleEntry) → handle_entry_status (change h) ≡ handle_entry_status h) → Same (status r) (status (with_handle change handle r))
  handle_kept r handle change keep = by (at handle.0 r.handles) refl
    where
      by : (o : Option HandleEntry) → at handle.0 r.handles ≡ o → Same (status r) (status (with_handle change handle r))
      by None e v = ap (λ (x : NameTable T). status x v) (handle_none r handle change e)
      by (Some h) e v = one (waiter_or v (Stream handle)) (handle_changed r handle change h e)
        where
          one : (v ≡ Stream handle) ⊎ (v ≡ Stream handle → ⊥) → Sets (status r) (status (with_handle change handle r)) (Stream handle) (handle_entry_status (change h)) → status (with_handle change handle r) v ≡ status r v
          one (inl same) s =
              subst (λ (w : Waiter). status (with_handle change handle r) w ≡ status r w) (sym same)
              (s.there ∙ (keep h ∙ sym (ap (λ o. status_by handle_entry_status o) (found handle.0 r.handles h e))))
          one (inr other) s = s.others v other

  pub lent_same : (r : NameTable T) (handle : HandleId) → Same (status r) (status (with_lent handle r))
  lent_same r handle = handle_kept r handle used_more (λ h. refl)

  pub given_back_same : (r : NameTable T) (handle : HandleId) → Same (status r) (status (with_given_back handle r))
  given_back_same r handle = handle_kept r handle used_less (λ h. refl)

  pub borrowed_same : (r : NameTable T) (handle : HandleId) → Same (status r) (status (with_borrowed handle r))
  borrowed_same r handle = handle_kept r handle borrowed_more (λ h. refl)

  pub handed_over_same : (r : NameTable T) (o : Option (OperationEntry T)) → Same (status r) (status (handed_over_by o r))
  handed_over_same r None v = refl
  handed_over_same r (Some o) v = handle_kept r (borrowed_by o.operation) handed_over (λ h. refl) v
