-- The fields of a list and its two lists.
use Rattle.std.proofs.Common.{◌≡◌, ◌≢◌, ◌⊎◌, inl, inr, ℕ, zero, suc, ◌+◌, ◌*◌, ◌^◌, ◌<◌, ◌≤◌, Bool, true, false, List, [], ◌++◌, ◌∷◌, length, Option, Some, None, is_some, IsSome, IfSome, refl, sym, ap, subst, ◌∙◌, arith, append_assoc, length-append, take}
use Rattle.std.proofs.lemmas.List.{append-nil}
use Rattle.std.specs.Option.{option_to_list}
use Rattle.std.specs.Map.{lookup}
use Rattle.slab.specs.Slab.{Slab, get, ContainsKey, slab_len, with_value}
use Rattle.event_listener.specs.declared.node.Node.{Node}
use Rattle.event_listener.specs.declared.node.Ends.{Ends}
use Rattle.event_listener.specs.declared.node.State.{State}
use Rattle.event_listener.specs.declared.node.State.TheVariants.{Waiting, Told}
use Rattle.event_listener.specs.declared.list.List.TheInside as list
use Rattle.event_listener.specs.declared.key.Key.{Key}
use Rattle.event_listener.specs.Inside.{shown, IsSound, entries, waiting_after, waiting_before, told_after, told_before}
use Rattle.event_listener.specs.Lists.{ListView, Lists, kind_of, told_as, waits_as, without, listened_with, with_task, notified, tasks_of, same_key}
use Rattle.event_listener.specs.Nodes.{found, is_told}
use Rattle.event_listener.specs.Chain.{Beside, Chains, lists_at, entry, entry_at, Entry, Sound, Among, Distinct, Unlinks, Links_last, fresh_entry, first_or, last_or, after_of, before_of, node_after, node_before, told_piece, waiting_piece, pieces, AtEach, IsWaiting, IsStateOf}
use Rattle.event_listener.specs.Order.{IsInOrder}
use Rattle.event_listener.proofs.EntryLemmas.{same_key-self}
use Rattle.event_listener.proofs.WriteLemmas.{changes, kept_by_write, after-kept, before-kept}
use Rattle.event_listener.proofs.OrderLemmas.{in-order-listened, in-order-without, in-order-with_task, in-order-notified, in-order-at}
use Rattle.event_listener.proofs.ChainLemmas.{Linked-ends, Linked-split, Distinct-head, Distinct-tail, last_or-append}
use Rattle.event_listener.proofs.SoundLemmas.{found_entry, found-some, found-told, chain-is, kind-chained, beside-in, all-live, first-live, last-live, last-of-live, among-told, among-waiting, AtEach-append, AtEach-front, AtEach-back, Telling, telling-begun, telling-distinct, telling-more, telling-ended, Sound-leave-told, Sound-leave-waiting, Sound-insert, Sound-store, Apart-dead, lists-listened, lists-with_task, lists-told, lists-parts, length-told, length-waiting, lists-without, told_as-entry, waits_as-entry}

-- whether a found listener waits
pub is-waiting : (o : Option Bool) → (o ≡ Some false) ⊎ (o ≢ Some false)
is-waiting None = inr (λ q. absurd (cc))
is-waiting (Some true) = inr (λ q. absurd (cc))
is-waiting (Some false) = inl refl

-- the last of none, and of one
last-none : (front : List ℕ) → length front ≡ 0 → last_or None front ≡ None
last-none [] l = refl
last-none (k ∷ front) l = absurd (omega arith)

last-one : (front back : List ℕ) → length front ≡ 1 → first_or (front ++ back) None ≡ last_or None front
last-one [] back l = absurd (omega arith)
last-one (k ∷ []) back l = refl
last-one (k ∷ x ∷ front) back l = absurd (omega arith)

module _ {T W : Type 0} where
  pub found-entry : (o : Option (Node T W)) (serial : ℕ) → found o serial ≡ found_entry (entry o) serial
  found-entry None serial = refl
  found-entry (Some node) serial = refl

  pub lists-are : (a : list.Inside T W) (h : IsSound a) → (shown a).lists ≡ lists_at (entries a) (h.0 ++ h.1)
  lists-are a h = ap (lists_at (entries a)) (chain-is h.2.sound)

  pub kind-inside : (a : list.Inside T W) → IsSound a → (view : ListView T W) → shown a ≡ view → (key : Key) → kind_of view.lists key ≡ found_entry (entries a key.slot) key.serial
  kind-inside a h view e key =
      ap (λ (v : ListView T W). kind_of v.lists key) (sym e) ∙ ap (λ l. kind_of l key) (lists-are a h) ∙ kind-chained (entries a) (h.0 ++ h.1) h.2.sound.chains.distinct h.2.sound.covered key

  -- the entry of a listed key
  pub named : (a : list.Inside T W) → IsSound a → (view : ListView T W) → shown a ≡ view → (key : Key) → IsSome (kind_of view.lists key) → (e : Entry T W) × (entries a key.slot ≡ Some e) × (e.serial ≡ key.serial)
  named a h view v key known = found-some (entries a key.slot) key.serial (ap is_some (sym (kind-inside a h view v key)) ∙ known)

  pub live-present : (o : Option (Node T W)) → IsSome (entry o) → IsSome o
  live-present None h = absurd (cc)
  live-present (Some node) h = refl

  live-all : (slab : Slab (Node T W)) (o : Option ℕ) → IfSome o (λ x. IsSome (entry_at slab x)) → IfSome o (λ x. ContainsKey slab x)
  live-all slab None h = tt
  live-all slab (Some x) h = live-present (get slab x) h

  module _ (a : list.Inside T W) (h : IsSound a) (view : ListView T W) (v : shown a ≡ view) (key : Key) (known : IsSome (kind_of view.lists key)) where
    pub present : ContainsKey a.nodes.slab key.slot
    present = live-present (get a.nodes.slab key.slot) (ap is_some (named a h view v key known).1)

    state-of : (e : Entry T W) → entries a key.slot ≡ Some e → e.serial ≡ key.serial → (s : State T W) → s ≡ e.state → IsStateOf s (told_as view.lists key) (waits_as view.lists key)
    state-of e is serial s q =
        let l : view.lists ≡ lists_at (entries a) (h.0 ++ h.1) = ap (λ (w : ListView T W). w.lists) (sym v) ∙ lists-are a h in
        let c = h.2.sound in
        let piece : entries a key.slot ≡ Some (record { serial = key.serial; state = s }) = is ∙ ap Some (λ i. record { serial = serial i; state = sym q i }) in
        let t : told_as view.lists key ≡ lookup (same_key key) (told_piece key.slot (Some (record { serial = key.serial; state = s }))) =
        ap (λ w. told_as w key) l ∙ told_as-entry (entries a) (h.0 ++ h.1) c.chains.distinct c.covered key ∙ ap (λ o. lookup (same_key key) (told_piece key.slot o)) piece in
        let w : waits_as view.lists key ≡ lookup (same_key key) (waiting_piece key.slot (Some (record { serial = key.serial; state = s }))) =
        ap (λ w. waits_as w key) l ∙ waits_as-entry (entries a) (h.0 ++ h.1) c.chains.distinct c.covered key ∙ ap (λ o. lookup (same_key key) (waiting_piece key.slot o)) piece in
        by s t w
      where
        by : (s : State T W) → told_as view.lists key ≡ lookup (same_key key) (told_piece key.slot (Some (record { serial = key.serial; state = s }))) → waits_as view.lists key ≡ lookup (same_key key) (waiting_piece key.slot (Some (record { serial = key.serial; state = s }))) → IsStateOf s (told_as view.lists key) (waits_as view.lists key)
        by (Waiting task) t w = (t, w ∙ rw (same_key-self key) refl)
        by (Told additional tag) t w = (t ∙ rw (same_key-self key) refl, w)

    -- the list after the node of the key left
    pub record Left (b : list.Inside T W) (s : State T W) : Type 0 where
      pub sound : IsSound b
      pub lists : (shown b).lists ≡ without key view.lists
      pub state : IsStateOf s (told_as view.lists key) (waits_as view.lists key)
      pub room : (shown b).room ≡ (shown a).room + 1

    module _ (is : kind_of view.lists key ≡ Some true) where
      told-slot : Among key.slot h.0
      told-slot =
          let n = named a h view v key known in
          let f = ap (λ o. found_entry o key.serial) (sym n.1) ∙ sym (kind-inside a h view v key) ∙ is in
          among-told (entries a) h.0 h.1 key.slot n.0 h.2.sound.waits (h.2.sound.covered key.slot (ap is_some n.1)) n.1 (found-told n.0 key.serial true n.2 f)

      pub told-beside : Beside (told_after a) (told_before a) (entries a) key.slot
      told-beside = beside-in (told_after a) (told_before a) (entries a) h.0 h.2.sound.chains.told (Distinct-head h.0 h.1 h.2.sound.chains.distinct) (AtEach-front (λ x. IsSome (entries a x)) h.0 h.1 (all-live (entries a) h.0 h.1 h.2.sound.tolds h.2.sound.waits)) key.slot told-slot

      pub told-counted : 1 ≤ a.told_count
      told-counted = let m = told-slot in let l : length h.0 ≡ length m.0 + length (key.slot ∷ m.1) = ap length m.2 ∙ length-append m.0 (key.slot ∷ m.1) in omega (arith, h.2.sound.told_is)

      pub left-told : (b : list.Inside T W) (s : State T W) → b.waiting ≡ a.waiting → Unlinks (told_after a) (told_before a) (told_after b) (told_before b) key.slot → entries b key.slot ≡ None → ((x : ℕ) → x ≢ key.slot → entries b x ≡ entries a x) → IfSome (entries a key.slot) (λ e. s ≡ e.state) → slab_len b.nodes.slab + 1 ≡ slab_len a.nodes.slab → b.nodes.slab.capacity ≡ a.nodes.slab.capacity → b.told_count + 1 ≡ a.told_count → b.serials ≡ a.serials → Left b s
      left-told b s ends u gone others st len cap told serials =
          let n = named a h view v key known in
          let e = n.0 in
          let se : s ≡ e.state = subst (λ o. IfSome o (λ (x : Entry T W). s ≡ x.state)) n.1 st in
          let r = Sound-leave-told h.2.sound (told_after b) (told_before b) (waiting_after b) (waiting_before b) (entries b) key.slot gone others told-slot u (ap (λ (x : Ends). x.first) ends) (ap (λ (x : Ends). x.last) ends) (λ x. refl) (λ x. refl) (λ x. refl) (λ x. refl) (slab_len b.nodes.slab) b.told_count len told in
          let was : h.0 ++ h.1 ≡ r.0 ++ key.slot ∷ (r.1 ++ h.1) = ap (λ l. l ++ h.1) r.2 ∙ append_assoc r.0 (key.slot ∷ r.1) h.1 in
          let d : Distinct (r.0 ++ key.slot ∷ (r.1 ++ h.1)) = subst Distinct was h.2.sound.chains.distinct in
          let change : lists_at (entries b) ((r.0 ++ r.1) ++ h.1) ≡ without key (lists_at (entries a) (h.0 ++ h.1)) =
          ap (lists_at (entries b)) (append_assoc r.0 r.1 h.1)
          ∙ lists-without (entries a) (entries b) key e r.0 (r.1 ++ h.1) d n.1 n.2 others
          ∙ ap (λ l. without key (lists_at (entries a) l)) (sym was) in
          let sound : IsSound b = (
            r.0 ++ r.1,
            h.1,
            record {
              within = omega (arith, h.2.within);
              fits = omega (arith, h.2.fits);
              in_order = in-order-at (in-order-without (lists_at (entries a) (h.0 ++ h.1)) a.serials key h.2.in_order) change serials;
              sound = subst (λ x. Sound (told_after b) (told_before b) (waiting_after b) (waiting_before b) (entries b) (slab_len b.nodes.slab) b.told_count x (r.0 ++ r.1) h.1) (sym serials) r.3;
            },
          ) in
          record {
            sound = sound;
            lists = lists-are b sound ∙ change
                ∙ ap (without key) (sym (lists-are a h))
                ∙ ap (λ (w : ListView T W). without key w.lists) v;
            state = state-of e n.1 n.2 s se;
            room = omega (arith, h.2.within);
          }

    module _ (is : kind_of view.lists key ≡ Some false) where
      waiting-slot : Among key.slot h.1
      waiting-slot =
          let n = named a h view v key known in
          let f = ap (λ o. found_entry o key.serial) (sym n.1) ∙ sym (kind-inside a h view v key) ∙ is in
          among-waiting (entries a) h.0 h.1 key.slot n.0 h.2.sound.tolds (h.2.sound.covered key.slot (ap is_some n.1)) n.1 (found-told n.0 key.serial false n.2 f)

      pub waiting-beside : Beside (waiting_after a) (waiting_before a) (entries a) key.slot
      waiting-beside = beside-in (waiting_after a) (waiting_before a) (entries a) h.1 h.2.sound.chains.waiting (Distinct-tail h.0 h.1 h.2.sound.chains.distinct) (AtEach-back (λ x. IsSome (entries a x)) h.0 h.1 (all-live (entries a) h.0 h.1 h.2.sound.tolds h.2.sound.waits)) key.slot waiting-slot

      pub left-waiting : (b : list.Inside T W) (s : State T W) → b.told ≡ a.told → Unlinks (waiting_after a) (waiting_before a) (waiting_after b) (waiting_before b) key.slot → entries b key.slot ≡ None → ((x : ℕ) → x ≢ key.slot → entries b x ≡ entries a x) → IfSome (entries a key.slot) (λ e. s ≡ e.state) → slab_len b.nodes.slab + 1 ≡ slab_len a.nodes.slab → b.nodes.slab.capacity ≡ a.nodes.slab.capacity → b.told_count ≡ a.told_count → b.serials ≡ a.serials → Left b s
      left-waiting b s ends u gone others st len cap told serials =
          let n = named a h view v key known in
          let e = n.0 in
          let se : s ≡ e.state = subst (λ o. IfSome o (λ (x : Entry T W). s ≡ x.state)) n.1 st in
          let r = Sound-leave-waiting h.2.sound (told_after b) (told_before b) (waiting_after b) (waiting_before b) (entries b) key.slot gone others waiting-slot u (ap (λ (x : Ends). x.first) ends) (ap (λ (x : Ends). x.last) ends) (λ x. refl) (λ x. refl) (λ x. refl) (λ x. refl) (slab_len b.nodes.slab) len in
          let was : h.0 ++ h.1 ≡ (h.0 ++ r.0) ++ key.slot ∷ r.1 = ap (λ l. h.0 ++ l) r.2 ∙ sym (append_assoc h.0 r.0 (key.slot ∷ r.1)) in
          let d : Distinct ((h.0 ++ r.0) ++ key.slot ∷ r.1) = subst Distinct was h.2.sound.chains.distinct in
          let change : lists_at (entries b) (h.0 ++ (r.0 ++ r.1)) ≡ without key (lists_at (entries a) (h.0 ++ h.1)) =
          ap (lists_at (entries b)) (sym (append_assoc h.0 r.0 r.1))
          ∙ lists-without (entries a) (entries b) key e (h.0 ++ r.0) r.1 d n.1 n.2 others
          ∙ ap (λ l. without key (lists_at (entries a) l)) (sym was) in
          let sound : IsSound b = (
            h.0,
            r.0 ++ r.1,
            record {
              within = omega (arith, h.2.within);
              fits = omega (arith, h.2.fits);
              in_order = in-order-at (in-order-without (lists_at (entries a) (h.0 ++ h.1)) a.serials key h.2.in_order) change serials;
              sound = subst (λ (x : ℕ × ℕ). Sound (told_after b) (told_before b) (waiting_after b) (waiting_before b) (entries b) (slab_len b.nodes.slab) x.0 x.1 h.0 (r.0 ++ r.1)) (λ i. (sym told i, sym serials i)) r.3;
            },
          ) in
          record {
            sound = sound;
            lists = lists-are b sound ∙ change
                ∙ ap (without key) (sym (lists-are a h))
                ∙ ap (λ (w : ListView T W). without key w.lists) v;
            state = state-of e n.1 n.2 s se;
            room = omega (arith, h.2.within);
          }

  -- fields that hold the same nodes
  pub record Kept (a b : list.Inside T W) : Type 0 where
    pub sound : IsSound b
    pub lists : (shown b).lists ≡ (shown a).lists

  pub kept : (a b : list.Inside T W) → IsSound a → b.nodes.slab.slots ≡ a.nodes.slab.slots → b.told ≡ a.told → b.waiting ≡ a.waiting → b.told_count ≡ a.told_count → b.serials ≡ a.serials → slab_len b.nodes.slab ≤ b.nodes.slab.capacity → b.nodes.slab.capacity < 2 ^ 64 → Kept a b
  kept a b h s e c t n within fits =
      let of : List (Option (Node T W)) → Slab (Node T W) = λ l. record { slots = l; vacant_key = 0; capacity = 0 } in
      let sound : IsSound b = (
        h.0,
        h.1,
        record {
          within = within;
          fits = fits;
          in_order = in-order-at h.2.in_order (ap (λ (l : List (Option (Node T W))). lists_at (entry_at (of l)) (h.0 ++ h.1)) s) n;
          sound = subst (λ (x : List (Option (Node T W)) × Ends × Ends × ℕ × ℕ). Sound (after_of x.1 (of x.0)) (before_of x.1 (of x.0)) (after_of x.2 (of x.0)) (before_of x.2 (of x.0)) (entry_at (of x.0)) (slab_len (of x.0)) x.3 x.4 h.0 h.1)
              (λ i. (sym s i, sym e i, sym c i, sym t i, sym n i)) h.2.sound;
        },
      ) in
      record {
        sound = sound;
        lists = lists-are b sound ∙ ap (λ (l : List (Option (Node T W))). lists_at (entry_at (of l)) (h.0 ++ h.1)) s ∙ sym (lists-are a h);
      }

  -- fields after a look, which changes no node
  pub looked : (a b : list.Inside T W) → IsSound a → b.nodes.slab ≡ a.nodes.slab → b.told ≡ a.told → b.waiting ≡ a.waiting → b.told_count ≡ a.told_count → b.serials ≡ a.serials → Kept a b
  looked a b h s e w t n =
      kept a b h (ap (λ (x : Slab (Node T W)). x.slots) s) e w t n
      (subst (λ (x : Slab (Node T W)). slab_len x ≤ x.capacity) (sym s) h.2.within) (subst (λ (x : Slab (Node T W)). x.capacity < 2 ^ 64) (sym s) h.2.fits)

  waits-live : (a : list.Inside T W) (h : IsSound a) → AtEach (λ x. IsSome (entries a x)) h.1
  waits-live a h = AtEach-back (λ x. IsSome (entries a x)) h.0 h.1 (all-live (entries a) h.0 h.1 h.2.sound.tolds h.2.sound.waits)

  -- the last node is there
  pub last-present : (a : list.Inside T W) → IsSound a → IfSome (before_of a.waiting a.nodes.slab None) (λ k. ContainsKey a.nodes.slab k)
  last-present a h = live-all a.nodes.slab a.waiting.last (last-of-live (waiting_after a) (waiting_before a) (entries a) h.1 h.2.sound.chains.waiting (waits-live a h))

  pub record Inserted (a b : list.Inside T W) (view : ListView T W) (task : Option W) (key : Key) : Type 0 where
    pub sound : IsSound b
    pub lists : (shown b).lists ≡ listened_with task key view.lists
    pub unknown : kind_of view.lists key ≡ None

  pub inserted : (a b : list.Inside T W) (h : IsSound a) (view : ListView T W) (v : shown a ≡ view) (task : Option W) (at : ℕ) → entries a at ≡ None → Links_last (waiting_after a) (waiting_before a) (waiting_after b) (waiting_before b) at → entries b at ≡ Some (fresh_entry a.serials task) → ((x : ℕ) → x ≢ at → entries b x ≡ entries a x) → slab_len b.nodes.slab ≡ slab_len a.nodes.slab + 1 → slab_len b.nodes.slab ≤ b.nodes.slab.capacity → b.nodes.slab.capacity < 2 ^ 64 → b.told ≡ a.told → b.told_count ≡ a.told_count → b.serials ≡ a.serials + 1 → Inserted a b view task (record { slot = at; serial = a.serials })
  inserted a b h view v task at dead u made others len within fits ends told serials =
      let key : Key = record { slot = at; serial = a.serials } in
      let s = Sound-insert h.2.sound (told_after b) (told_before b) (waiting_after b) (waiting_before b) (entries b) (slab_len b.nodes.slab) b.serials at task dead u (ap (λ (x : Ends). x.first) ends) (ap (λ (x : Ends). x.last) ends) (λ x. refl) (λ x. refl) (λ x. refl) (λ x. refl) made others len serials in
      let change : lists_at (entries b) (h.0 ++ (h.1 ++ at ∷ [])) ≡ listened_with task key (lists_at (entries a) (h.0 ++ h.1)) =
      ap (lists_at (entries b)) (sym (append_assoc h.0 h.1 (at ∷ [])))
      ∙ lists-listened (entries a) (entries b) at a.serials task (h.0 ++ h.1) (Apart-dead (entries a) at (h.0 ++ h.1) (all-live (entries a) h.0 h.1 h.2.sound.tolds h.2.sound.waits) dead) made others in
      let sound : IsSound b = (
        h.0,
        h.1 ++ at ∷ [],
        record {
          within = within;
          fits = fits;
          in_order = in-order-at (in-order-listened (lists_at (entries a) (h.0 ++ h.1)) task key h.2.in_order) change serials;
          sound = subst (λ x. Sound (told_after b) (told_before b) (waiting_after b) (waiting_before b) (entries b) (slab_len b.nodes.slab) x b.serials h.0 (h.1 ++ at ∷ [])) (sym told) s;
        },
      ) in
      record {
        sound = sound;
        lists = lists-are b sound ∙ change
            ∙ ap (listened_with task key) (sym (lists-are a h))
            ∙ ap (λ (w : ListView T W). listened_with task key w.lists) v;
        unknown = kind-inside a h view v key ∙ ap (λ o. found_entry o a.serials) dead;
      }

  -- fields after one node got another state
  pub record Restated (a b : list.Inside T W) (k : ℕ) (state : State T W) : Type 0 where
    pub after : (ends : Ends) (x : Option ℕ) → after_of ends b.nodes.slab x ≡ after_of ends a.nodes.slab x
    pub before : (ends : Ends) (x : Option ℕ) → before_of ends b.nodes.slab x ≡ before_of ends a.nodes.slab x
    pub now : IfSome (entries a k) (λ e. entries b k ≡ Some (record e { state = state }))
    pub others : (x : ℕ) → x ≢ k → entries b x ≡ entries a x
    pub len : slab_len b.nodes.slab ≡ slab_len a.nodes.slab
    pub capacity : b.nodes.slab.capacity ≡ a.nodes.slab.capacity
    pub told : b.told ≡ a.told
    pub waiting : b.waiting ≡ a.waiting
    pub serials : b.serials ≡ a.serials

  restated-link : (e e' : Ends) (slab slab' : Slab (Node T W)) → e' ≡ e → ((ends : Ends) (x : Option ℕ) → after_of ends slab' x ≡ after_of ends slab x) → (x : Option ℕ) → after_of e' slab' x ≡ after_of e slab x
  restated-link e e' slab slab' q h x = ap (λ v. after_of v slab' x) q ∙ h e x

  restated-back : (e e' : Ends) (slab slab' : Slab (Node T W)) → e' ≡ e → ((ends : Ends) (x : Option ℕ) → before_of ends slab' x ≡ before_of ends slab x) → (x : Option ℕ) → before_of e' slab' x ≡ before_of e slab x
  restated-back e e' slab slab' q h x = ap (λ v. before_of v slab' x) q ∙ h e x

  waiting-state : (o : Option (Entry T W)) (e : Entry T W) → o ≡ Some e → IsWaiting o → (task : Option W) × (e.state ≡ Waiting task)
  waiting-state o e h w = of e.state (subst IsWaiting h w)
    where
      of : (s : State T W) → IsWaiting (Some (record { serial = e.serial; state = s })) → (task : Option W) × (s ≡ Waiting task)
      of (Waiting task) w = (task, refl)
      of (Told additional tag) w = absurd w

  not-told : (s : State T W) → is_told s ≡ false → (task : Option W) × (s ≡ Waiting task)
  not-told (Waiting task) h = (task, refl)
  not-told (Told additional tag) h = absurd (cc)

  pub record Stored (a b : list.Inside T W) (view : ListView T W) (key : Key) (task : W) : Type 0 where
    pub sound : IsSound b
    pub lists : (shown b).lists ≡ with_task key task view.lists

  pub stored : (a b : list.Inside T W) (h : IsSound a) (view : ListView T W) (v : shown a ≡ view) (key : Key) (task : W) → kind_of view.lists key ≡ Some false → Restated a b key.slot (Waiting (Some task)) → b.told_count ≡ a.told_count → Stored a b view key task
  stored a b h view v key task kind r told =
      let n = named a h view v key (ap is_some kind) in
      let e = n.0 in
      let now : entries b key.slot ≡ Some (record { serial = e.serial; state = Waiting (Some task) }) = subst (λ o. IfSome o (λ (x : Entry T W). entries b key.slot ≡ Some (record x { state = Waiting (Some task) }))) n.1 r.now in
      let fk : found_entry (Some e) key.serial ≡ Some false = ap (λ o. found_entry o key.serial) (sym n.1) ∙ sym (kind-inside a h view v key) ∙ kind in
      let old = not-told e.state (found-told e key.serial false n.2 fk) in
      let s = Sound-store h.2.sound (told_after b) (told_before b) (waiting_after b) (waiting_before b) (entries b) key.slot e (restated-link a.told b.told a.nodes.slab b.nodes.slab r.told r.after) (restated-back a.told b.told a.nodes.slab b.nodes.slab r.told r.before) (restated-link a.waiting b.waiting a.nodes.slab b.nodes.slab r.waiting r.after) (restated-back a.waiting b.waiting a.nodes.slab b.nodes.slab r.waiting r.before) n.1 old.0 old.1 (Some task) now r.others in
      let m = h.2.sound.covered key.slot (ap is_some n.1) in
      let d : Distinct (m.0 ++ key.slot ∷ m.1) = subst Distinct m.2 h.2.sound.chains.distinct in
      let change : lists_at (entries b) (h.0 ++ h.1) ≡ with_task key task (lists_at (entries a) (h.0 ++ h.1)) =
      ap (lists_at (entries b)) m.2
      ∙ lists-with_task (entries a) (entries b) key e task old.0 m.0 m.1 d n.1 n.2 old.1 now r.others
      ∙ ap (λ l. with_task key task (lists_at (entries a) l)) (sym m.2) in
      let sound : IsSound b = (
        h.0,
        h.1,
        record {
          within = omega (arith, h.2.within, r.len, r.capacity);
          fits = omega (arith, h.2.fits, r.capacity);
          in_order = in-order-at (in-order-with_task (lists_at (entries a) (h.0 ++ h.1)) a.serials key task h.2.in_order) change r.serials;
          sound = subst (λ (x : ℕ × ℕ × ℕ). Sound (told_after b) (told_before b) (waiting_after b) (waiting_before b) (entries b) x.0 x.1 x.2 h.0 h.1) (λ i. (sym r.len i, sym told i, sym r.serials i)) s;
        },
      ) in
      record {
        sound = sound;
        lists = lists-are b sound ∙ change
            ∙ ap (with_task key task) (sym (lists-are a h))
            ∙ ap (λ (w : ListView T W). with_task key task w.lists) v;
      }

  -- the same where the node of a waiting listener was written
  stored-at : (a b : list.Inside T W) (h : IsSound a) (view : ListView T W) (v : shown a ≡ view) (key : Key) (task : W) → kind_of view.lists key ≡ Some false → IfSome (get a.nodes.slab key.slot) (λ node. b.nodes.slab ≡ with_value a.nodes.slab key.slot (record node { state = Waiting (Some task) })) → slab_len b.nodes.slab ≡ slab_len a.nodes.slab → b.nodes.slab.capacity ≡ a.nodes.slab.capacity → b.told ≡ a.told → b.waiting ≡ a.waiting → b.told_count ≡ a.told_count → b.serials ≡ a.serials → Stored a b view key task
  stored-at a b h view v key task kind written len capacity told waiting count serials =
      let p = present a h view v key (ap is_some kind) in
      let change : Node T W → Node T W = λ node. record node { state = Waiting (Some task) } in
      let c = changes change a.nodes.slab b.nodes.slab key.slot p written in
      stored a b h view v key task kind
      (record {
        after = λ ends. after-kept ends a.nodes.slab b.nodes.slab (kept_by_write node_after change (λ _. refl) a.nodes.slab b.nodes.slab key.slot p written);
        before = λ ends. before-kept ends a.nodes.slab b.nodes.slab (kept_by_write node_before change (λ _. refl) a.nodes.slab b.nodes.slab key.slot p written);
        now = subst (λ o. IfSome (entry o) (λ (e : Entry T W). entry_at b.nodes.slab key.slot ≡ Some (record e { state = Waiting (Some task) }))) (sym c.was) (ap entry c.now);
        others = λ x ne. ap entry (c.others x ne);
        len = len;
        capacity = capacity;
        told = told;
        waiting = waiting;
        serials = serials;
      }) count

  -- the fields after a registration began, which writes the node of a waiting listener alone
  pub record Begun (b : list.Inside T W) (view : ListView T W) (key : Key) (task : W) (kind : Option Bool) : Type 0 where
    pub sound : IsSound b
    pub stored : kind ≡ Some false → (shown b).lists ≡ with_task key task view.lists
    pub kept : kind ≢ Some false → (shown b).lists ≡ view.lists

  pub begun : (a b : list.Inside T W) (h : IsSound a) (view : ListView T W) (v : shown a ≡ view) (key : Key) (task : W) (kind : Option Bool) → kind ≡ kind_of view.lists key → (kind ≡ Some false → IfSome (get a.nodes.slab key.slot) (λ node. b.nodes.slab ≡ with_value a.nodes.slab key.slot (record node { state = Waiting (Some task) }))) → (kind ≢ Some false → b.nodes.slab ≡ a.nodes.slab) → slab_len b.nodes.slab ≡ slab_len a.nodes.slab → b.nodes.slab.capacity ≡ a.nodes.slab.capacity → b.told ≡ a.told → b.waiting ≡ a.waiting → b.told_count ≡ a.told_count → b.serials ≡ a.serials → Begun b view key task kind
  begun a b h view v key task kind is written same len capacity told waiting count serials =
      elim (is-waiting kind) [
        | inl q ↦ (let s = stored-at a b h view v key task (sym is ∙ q) (written q) len capacity told waiting count serials in record { sound = s.sound; stored = λ _. s.lists; kept = λ ne. absurd (ne q) })
        | inr ne ↦ (let s = looked a b h (same ne) told waiting count serials in record { sound = s.sound; stored = λ q. absurd (ne q); kept = λ _. s.lists ∙ ap (λ (w : ListView T W). w.lists) v })
      ]

  -- the lists by their parts
  pub lists-by-parts : (a : list.Inside T W) (h : IsSound a) → (shown a).lists ≡ record { told = pieces (λ k. told_piece k (entries a k)) h.0; waiting = pieces (λ k. waiting_piece k (entries a k)) h.1 }
  lists-by-parts a h = lists-are a h ∙ lists-parts (entries a) h.0 h.1 h.2.sound.tolds h.2.sound.waits

  pub told-length : (a : list.Inside T W) (h : IsSound a) (view : ListView T W) → shown a ≡ view → length view.lists.told ≡ a.told_count
  told-length a h view v =
      ap (λ (w : ListView T W). length w.lists.told) (sym v) ∙ ap (λ (l : Lists T W). length l.told) (lists-by-parts a h)
      ∙ length-told (entries a) h.0 h.2.sound.tolds ∙ sym h.2.sound.told_is

  pub waiting-length : (a : list.Inside T W) (h : IsSound a) (view : ListView T W) → shown a ≡ view → length view.lists.waiting ≡ length h.1
  waiting-length a h view v =
      ap (λ (w : ListView T W). length w.lists.waiting) (sym v) ∙ ap (λ (l : Lists T W). length l.waiting) (lists-by-parts a h)
      ∙ length-waiting (entries a) h.1 h.2.sound.waits

  pub total-length : (a : list.Inside T W) (h : IsSound a) (view : ListView T W) → shown a ≡ view → slab_len a.nodes.slab ≡ length view.lists.told + length view.lists.waiting
  total-length a h view v =
      let l : length (h.0 ++ h.1) ≡ length h.0 + length h.1 = length-append h.0 h.1 in
      omega (arith, told-length a h view v, waiting-length a h view v, h.2.sound.count_is, h.2.sound.told_is)

  -- with someone waiting there is a first
  pub first-there : (a : list.Inside T W) (h : IsSound a) (view : ListView T W) → shown a ≡ view → 0 < length view.lists.waiting → ((x : ℕ) → a.waiting.first ≡ Some x → ⊥) → ⊥
  first-there a h view v some none =
      of h.1 (waiting-length a h view v) (λ x q. none x ((Linked-ends (waiting_after a) (waiting_before a) None h.1 None h.2.sound.chains.waiting).0 ∙ q))
    where
      of : (ws : List ℕ) → length view.lists.waiting ≡ length ws → ((x : ℕ) → first_or ws None ≡ Some x → ⊥) → ⊥
      of [] l c = omega arith
      of (x ∷ ws) l c = c x refl

  -- While a notification tells: so many have their new state, up to this last one, and the next one stands behind it. So many are
  -- to be told in all.
  pub record Underway (a : list.Inside T W) (count many : ℕ) (last next : Option ℕ) : Type 0 where
    pub ks : List ℕ
    pub front : List ℕ
    pub back : List ℕ
    pub within : slab_len a.nodes.slab ≤ a.nodes.slab.capacity
    pub fits : a.nodes.slab.capacity < 2 ^ 64
    pub telling : Telling (told_after a) (told_before a) (waiting_after a) (waiting_before a) (entries a) (slab_len a.nodes.slab) a.told_count a.serials ks front back
    pub count_is : length front ≡ count
    pub left : many ≤ count + length back
    pub last_is : last ≡ last_or None front
    pub next_is : next ≡ first_or back None

  -- the lists that a notification under way made
  abbrev pub under : {a : list.Inside T W} {count many : ℕ} {last next : Option ℕ} → Underway a count many last next → Lists T W
  under {a} u = lists_at (entries a) ((u.ks ++ u.front) ++ u.back)

  -- before the first is told
  pub underway : (a : list.Inside T W) (h : IsSound a) (view : ListView T W) → shown a ≡ view → (many : ℕ) → many ≤ length view.lists.waiting → (u : Underway a 0 many None a.waiting.first) × (under u ≡ view.lists)
  underway a h view v many le =
      let w = waiting-length a h view v in (
        record {
          ks = h.0;
          front = [];
          back = h.1;
          within = h.2.within;
          fits = h.2.fits;
          telling = telling-begun h.2.sound;
          count_is = refl;
          left = omega (arith, le, w);
          last_is = refl;
          next_is = (Linked-ends (waiting_after a) (waiting_before a) None h.1 None h.2.sound.chains.waiting).0;
        },
        ap (λ r. lists_at (entries a) (r ++ h.1)) (append-nil h.0) ∙ sym (lists-are a h) ∙ ap (λ (x : ListView T W). x.lists) v,
      )

  -- the next waiting node
  pub record Next (a : list.Inside T W) (back : List ℕ) (k : ℕ) : Type 0 where
    pub rest : List ℕ
    pub split : back ≡ k ∷ rest
    pub entry : Entry T W
    pub is : entries a k ≡ Some entry
    pub task : Option W
    pub was : entry.state ≡ Waiting task

  pub next-node : (a : list.Inside T W) (back : List ℕ) (k : ℕ) → AtEach (λ x. IsWaiting (entries a x)) back → Some k ≡ first_or back None → Next a back k
  next-node a [] k w q = absurd (cc)
  next-node a (x ∷ rest) k w q =
      let e : x ≡ k = cc in
      let here : IsWaiting (entries a k) = subst (λ v. IsWaiting (entries a v)) e w.0 in
      let en = entry-of (entries a k) here in
      let t = waiting-state (entries a k) en.0 en.1 here in
      record { rest = rest; split = ap (λ v. v ∷ rest) e; entry = en.0; is = en.1; task = t.0; was = t.1 }
    where
      entry-of : (o : Option (Entry T W)) → IsWaiting o → (e : Entry T W) × (o ≡ Some e)
      entry-of None w = absurd w
      entry-of (Some e) w = (e, refl)

  -- with more to tell there is a next one
  pub next-there : {a : list.Inside T W} {count many : ℕ} {last next : Option ℕ} → Underway a count many last next → count < many → ((x : ℕ) → next ≡ Some x → ⊥) → ⊥
  next-there {a} {count} {many} {last} {next} u lt none =
      of u.back u.left (λ x q. none x (u.next_is ∙ q))
    where
      of : (ws : List ℕ) → many ≤ count + length ws → ((x : ℕ) → first_or ws None ≡ Some x → ⊥) → ⊥
      of [] l c = omega arith
      of (x ∷ ws) l c = c x refl

  pub next-present : {a : list.Inside T W} {count many : ℕ} {last next : Option ℕ} (k : ℕ) → Underway a count many last next → next ≡ Some k → ContainsKey a.nodes.slab k
  next-present {a} k u q = live-present (get a.nodes.slab k) (ap is_some (next-node a u.back k u.telling.waits (sym q ∙ u.next_is)).is)

  -- the ends that a move of the run reaches are nodes
  pub run-live : {a : list.Inside T W} {count many : ℕ} {last next : Option ℕ} → Underway a count many last next → IfSome a.waiting.first (λ k. ContainsKey a.nodes.slab k) × IfSome last (λ k. ContainsKey a.nodes.slab k) × IfSome next (λ k. ContainsKey a.nodes.slab k) × IfSome a.told.last (λ k. ContainsKey a.nodes.slab k)
  run-live {a} {count} {many} {last} {next} u =
      let t = u.telling in
      let live : AtEach (λ x. IsSome (entries a x)) ((u.ks ++ u.front) ++ u.back) = all-live (entries a) (u.ks ++ u.front) u.back t.tolds t.waits in
      let told = AtEach-front (λ x. IsSome (entries a x)) (u.ks ++ u.front) u.back live in
      let ks = AtEach-front (λ x. IsSome (entries a x)) u.ks u.front told in
      let front = AtEach-back (λ x. IsSome (entries a x)) u.ks u.front told in
      let back = AtEach-back (λ x. IsSome (entries a x)) (u.ks ++ u.front) u.back live in
      let f = AtEach-append (λ x. IsSome (entries a x)) u.front u.back front back in (
        live-all a.nodes.slab a.waiting.first (subst (λ v. IfSome v (λ x. IsSome (entries a x))) (sym (Linked-ends (waiting_after a) (waiting_before a) None (u.front ++ u.back) None t.chains.waiting).0) (first-live (λ x. IsSome (entries a x)) (u.front ++ u.back) f)),
        live-all a.nodes.slab last (subst (λ v. IfSome v (λ x. IsSome (entries a x))) (sym u.last_is) (last-live (λ x. IsSome (entries a x)) None u.front tt front)),
        live-all a.nodes.slab next (subst (λ v. IfSome v (λ x. IsSome (entries a x))) (sym u.next_is) (first-live (λ x. IsSome (entries a x)) u.back back)),
        live-all a.nodes.slab a.told.last (last-of-live (told_after a) (told_before a) (entries a) u.ks t.chains.told ks),
      )

  -- one more was told in its place
  pub record More (a b : list.Inside T W) (count many : ℕ) (old : Lists T W) (k : ℕ) (next : Option ℕ) (additional : Bool) (tag : T) (s : State T W) : Type 0 where
    pub underway : Underway b (count + 1) many (Some k) next
    pub lists : under underway ≡ notified additional (tag ∷ []) old
    pub task : Option W
    pub was : s ≡ Waiting task
    pub wakes : option_to_list task ≡ tasks_of (take 1 old.waiting)

  pub told-more : {a : list.Inside T W} {count many : ℕ} {last next : Option ℕ} (u : Underway a count many last next) (b : list.Inside T W) (k : ℕ) (additional : Bool) (tag : T) (s : State T W) (after : Option ℕ) → next ≡ Some k → Restated a b k (Told additional tag) → after ≡ waiting_after a (Some k) → b.told_count ≡ a.told_count → IfSome (entries a k) (λ e. s ≡ e.state) → More a b count many (under u) k after additional tag s
  told-more {a} {count} {many} {last} {next} u b k additional tag s after q r af told st =
      let n = next-node a u.back k u.telling.waits (sym q ∙ u.next_is) in
      let now : entries b k ≡ Some (record { serial = n.entry.serial; state = Told additional tag }) = subst (λ o. IfSome o (λ (x : Entry T W). entries b k ≡ Some (record x { state = Told additional tag }))) n.is r.now in
      let t : Telling (told_after a) (told_before a) (waiting_after a) (waiting_before a) (entries a) (slab_len a.nodes.slab) a.told_count a.serials u.ks u.front (k ∷ n.rest) = subst (λ v. Telling (told_after a) (told_before a) (waiting_after a) (waiting_before a) (entries a) (slab_len a.nodes.slab) a.told_count a.serials u.ks u.front v) n.split u.telling in
      let m = telling-more t (told_after b) (told_before b) (waiting_after b) (waiting_before b) (entries b) n.entry (restated-link a.told b.told a.nodes.slab b.nodes.slab r.told r.after) (restated-back a.told b.told a.nodes.slab b.nodes.slab r.told r.before) (restated-link a.waiting b.waiting a.nodes.slab b.nodes.slab r.waiting r.after) (restated-back a.waiting b.waiting a.nodes.slab b.nodes.slab r.waiting r.before) n.is additional tag now r.others in
      let ea : entries a k ≡ Some (record { serial = n.entry.serial; state = Waiting n.task }) = n.is ∙ ap Some (λ i. record { serial = n.entry.serial; state = n.was i }) in
      let one : (u.ks ++ u.front) ++ k ∷ [] ≡ u.ks ++ (u.front ++ k ∷ []) = append_assoc u.ks u.front (k ∷ []) in
      let whole : under u ≡ lists_at (entries a) ((u.ks ++ u.front) ++ k ∷ n.rest) = ap (λ v. lists_at (entries a) ((u.ks ++ u.front) ++ v)) n.split in
      let parts = lists-parts (entries a) (u.ks ++ u.front) u.back u.telling.tolds u.telling.waits in
      let wl : (under u).waiting ≡ (record { slot = k; serial = n.entry.serial }, n.task) ∷ pieces (λ x. waiting_piece x (entries a x)) n.rest =
      ap (λ (x : Lists T W). x.waiting) parts ∙ ap (pieces (λ x. waiting_piece x (entries a x))) n.split ∙ ap (λ o. waiting_piece k o ++ pieces (λ x. waiting_piece x (entries a x)) n.rest) ea in
      let l1 : length (u.front ++ k ∷ []) ≡ length u.front + 1 = length-append u.front (k ∷ []) in
      let l2 : length u.back ≡ length (k ∷ n.rest) = ap length n.split in
      let se : s ≡ Waiting n.task = subst (λ o. IfSome o (λ (x : Entry T W). s ≡ x.state)) n.is st ∙ n.was in
      let cut = (Linked-split (waiting_after a) (waiting_before a) None u.front k n.rest None t.chains.waiting).1 in
      record {
        underway = record {
          ks = u.ks;
          front = u.front ++ k ∷ [];
          back = n.rest;
          within = omega (arith, u.within, r.len, r.capacity);
          fits = omega (arith, u.fits, r.capacity);
          telling = subst (λ (x : ℕ × ℕ × ℕ). Telling (told_after b) (told_before b) (waiting_after b) (waiting_before b) (entries b) x.0 x.1 x.2 u.ks (u.front ++ k ∷ []) n.rest) (λ i. (sym r.len i, sym told i, sym r.serials i)) m;
          count_is = omega (arith, u.count_is, l1);
          left = omega (arith, u.left, l2);
          last_is = sym (last_or-append None u.front (k ∷ []));
          next_is = af ∙ (Linked-ends (waiting_after a) (waiting_before a) (Some k) n.rest None cut).0;
        };
        lists = ap (λ v. lists_at (entries b) (v ++ n.rest)) (sym one)
            ∙ lists-told (entries a) (entries b) (u.ks ++ u.front) n.rest k n.entry.serial n.task additional tag (telling-distinct t) t.tolds t.waits ea now r.others
            ∙ ap (notified additional (tag ∷ [])) (sym whole);
        task = n.task;
        was = se;
        wakes = sym (append-nil (option_to_list n.task)) ∙ sym (ap (λ x. tasks_of (take 1 x)) wl);
      }

  -- so many more are counted as told
  pub told-fits : {a : list.Inside T W} {count many : ℕ} {last next : Option ℕ} → Underway a count many last next → a.told_count + count < 2 ^ 64
  told-fits {a} u =
      let l1 : length ((u.ks ++ u.front) ++ u.back) ≡ length (u.ks ++ u.front) + length u.back = length-append (u.ks ++ u.front) u.back in
      let l2 : length (u.ks ++ u.front) ≡ length u.ks + length u.front = length-append u.ks u.front in
      omega (arith, u.within, u.fits, u.telling.count_is, u.telling.told_is, u.count_is)

  -- A telling and a move together visit at most five others for each one: two for its state, and four for the links, or three
  -- where it is one node.
  pub run-cost : {a : list.Inside T W} {count many : ℕ} {last next : Option ℕ} → Underway a count many last next → (n n' v : ℕ) → (last ≡ None → n' ≡ n) → (a.waiting.first ≡ last → n' ≤ n + 3) → n' ≤ n + 4 → n ≤ v + 2 * count → n' ≤ v + 5 * count
  run-cost {a} {count} {many} {last} {next} u n n' v none one all sofar = of count refl
    where
      of : (c : ℕ) → count ≡ c → n' ≤ v + 5 * count
      of zero e = let l = last-none u.front (u.count_is ∙ e) in let q = none (u.last_is ∙ l) in omega (arith, q, sofar, e)
      of (suc zero) e =
          let l = last-one u.front u.back (u.count_is ∙ e) in
          let f = (Linked-ends (waiting_after a) (waiting_before a) None (u.front ++ u.back) None u.telling.chains.waiting).0 in
          let q = one (f ∙ l ∙ sym u.last_is) in
          omega (arith, q, sofar, e)
      of (suc (suc c)) e = omega (arith, all, sofar, e)

  -- all have moved
  pub record Ended (b : list.Inside T W) (view : ListView T W) (additional : Bool) (tags : List T) : Type 0 where
    pub sound : IsSound b
    pub lists : (shown b).lists ≡ notified additional tags view.lists

  pub ended : {a : list.Inside T W} {count many : ℕ} {last next : Option ℕ} (u : Underway a count many last next) (b : list.Inside T W) (view : ListView T W) → IsInOrder view.lists view.serials → (additional : Bool) (tags : List T) → under u ≡ notified additional tags view.lists → a.serials ≡ view.serials
      → ((ks front back : List ℕ) → last ≡ last_or None front → next ≡ first_or back None → Chains (told_after a) (told_before a) (waiting_after a) (waiting_before a) ks (front ++ back) → Chains (told_after b) (told_before b) (waiting_after b) (waiting_before b) (ks ++ front) back)
      → ((x : ℕ) → entries b x ≡ entries a x) → slab_len b.nodes.slab ≡ slab_len a.nodes.slab → b.nodes.slab.capacity ≡ a.nodes.slab.capacity → b.told_count ≡ a.told_count + count → b.serials ≡ a.serials → Ended b view additional tags
  ended {a} {count} {many} {last} {next} u b view order additional tags l given moves same len cap told serials =
      let chains = moves u.ks u.front u.back u.last_is u.next_is u.telling.chains in
      let counted : b.told_count ≡ a.told_count + length u.front = told ∙ ap (λ n. a.told_count + n) (sym u.count_is) in
      let change : lists_at (entries b) ((u.ks ++ u.front) ++ u.back) ≡ notified additional tags view.lists = (λ i. lists_at (λ x. same x i) ((u.ks ++ u.front) ++ u.back)) ∙ l in
      let sound : IsSound b = (
        u.ks ++ u.front,
        u.back,
        record {
          within = omega (arith, u.within, len, cap);
          fits = omega (arith, u.fits, cap);
          sound = telling-ended u.telling (told_after b) (told_before b) (waiting_after b) (waiting_before b) (entries b) chains same (slab_len b.nodes.slab) b.told_count b.serials len counted serials;
          in_order = in-order-at (in-order-notified view.lists view.serials additional tags order) change (serials ∙ given);
        },
      ) in
      record { sound = sound; lists = lists-are b sound ∙ change }

  pub empty-sound : (a : list.Inside T W) → a.nodes.slab.slots ≡ [] → a.nodes.slab.capacity ≡ 0 → a.told ≡ record { first = None; last = None } → a.waiting ≡ record { first = None; last = None } → a.told_count ≡ 0 → IsSound a
  empty-sound a s c e w t =
      let n : slab_len a.nodes.slab ≡ 0 = rw s refl in
      let gone : (k : ℕ) → entries a k ≡ None = λ k. rw s refl in (
        [],
        [],
        record {
          within = omega arith;
          fits = omega arith;
          in_order = (tt, tt);
          sound = record {
            chains = record {
              told = (ap (λ (x : Ends). x.first) e, ap (λ (x : Ends). x.last) e);
              waiting = (ap (λ (x : Ends). x.first) w, ap (λ (x : Ends). x.last) w);
              distinct = tt;
            };
            covered = λ k i. let z : is_some (entries a k) ≡ false = ap is_some (gone k) in absurd (cc);
            tolds = tt;
            waits = tt;
            count_is = sym n;
            told_is = t;
            fresh = λ k d h. let z : ◌≡◌ {A = Option (Entry T W)} None (Some d) = sym (gone k) ∙ h in absurd (cc);
          };
        },
      )

  pub in-order : (a : list.Inside T W) (h : IsSound a) (view : ListView T W) → shown a ≡ view → IsInOrder view.lists view.serials
  in-order a h view v = in-order-at h.2.in_order (ap (λ (w : ListView T W). w.lists) (sym v) ∙ lists-are a h) (ap (λ (w : ListView T W). w.serials) (sym v))
