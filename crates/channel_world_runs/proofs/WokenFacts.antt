-- Whom a step wakes: how many, and that the sink has their names in order.
use Rattle.std.specs.Prelude.{◌≡◌, ◌+◌, ◌≤◌, if◌then◌else◌, ◌∷◌, ◌++◌}
use Rattle.channel_world_runs.proofs.Words.{arith, ℕ, zero, suc, Bool, true, false, List, [], length, take, drop, vec_len, vec_capacity, Option, None, Some, refl, sym, ap, ◌∙◌, subst, append_assoc, append-nil, length-append, remove_entry, Notice, same_key, tasks_of, told_as, moved, passed_wakes, removed_wakes, without, Key, Channel, Listeners, listeners, told_more_wakes, ListenerRef, WaitList, Waiter, Telling, more_of, all_of, WokenBy, Hears, Sink}
use Rattle.event_listener.specs.Notices.{Woken}
use Rattle.channel_calls.proofs.Interface.{woken_firsts}

-- ---- the sink

-- all are heard in order, where there is room for all
pub all_heard : (a : Sink) (names : List Waiter) (b : Sink) → Woken Hears a names b → vec_len a.names + length names ≤ vec_capacity a.names → b.names.items ≡ a.names.items ++ names
all_heard a [] b h room = ap (λ (s : Sink). s.names.items) h ∙ sym (append-nil a.names.items)
all_heard a (w ∷ ws) b h room =
    let m = h.0 in
    let first = h.1 (omega (arith, room)) in
    let more : length m.names.items ≡ length (a.names.items ++ (w ∷ [])) = ap length first.0 in
    let one : length (a.names.items ++ (w ∷ [])) ≡ length a.names.items + 1 = one_more a.names.items w in
    let old : vec_len a.names ≡ length a.names.items = a.names.ok.0 in
    let new : vec_len m.names ≡ length m.names.items = m.names.ok.0 in
    all_heard m ws b h.2 (omega (arith, room, more, one, old, new, first.1)) ∙ (ap (λ (xs : List Waiter). xs ++ ws) first.0 ∙ append_assoc a.names.items (w ∷ []) ws) where
      one_more : (xs : List Waiter) (w : Waiter) → length (xs ++ (w ∷ [])) ≡ length xs + 1
      one_more [] w = omega arith
      one_more (x ∷ xs) w = let more = one_more xs w in omega (arith, more)

-- and the room stays
pub room_stays : (a : Sink) (names : List Waiter) (b : Sink) → Woken Hears a names b → vec_len a.names + length names ≤ vec_capacity a.names
    → vec_capacity a.names ≤ vec_capacity b.names
room_stays a [] b h room = subst (λ (s : Sink). vec_capacity a.names ≤ vec_capacity s.names) (sym h) (omega arith)
room_stays a (w ∷ ws) b h room =
    let m = h.0 in
    let first = h.1 (omega (arith, room)) in
    let kept = first.1 in
    let more : length m.names.items ≡ length (a.names.items ++ (w ∷ [])) = ap length first.0 in
    let one = length-append a.names.items (w ∷ []) in
    let old : vec_len a.names ≡ length a.names.items = a.names.ok.0 in
    let new : vec_len m.names ≡ length m.names.items = m.names.ok.0 in
    let on = room_stays m ws b h.2 (omega (arith, room, more, one, old, new, kept)) in
    omega (arith, kept, on)

-- what stands behind a list
pub drop_front : {A : Type 0} (xs ys : List A) → drop (length xs) (xs ++ ys) ≡ ys
drop_front [] ys = refl
drop_front (x ∷ xs) ys = drop_front xs ys

-- ---- how many

module _ {W : Type 0} where
  few_tasks : (xs : List (Key × Option W)) → length (tasks_of xs) ≤ length xs
  few_tasks [] = omega arith
  few_tasks ((key, None) ∷ xs) = omega (arith, few_tasks xs)
  few_tasks ((key, Some w) ∷ xs) = omega (arith, few_tasks xs)

  few_taken : (n : ℕ) (xs : List (Key × Option W)) → length (take n xs) ≤ length xs
  few_taken zero xs = omega arith
  few_taken (suc n) [] = omega arith
  few_taken (suc n) (x ∷ xs) = omega (arith, few_taken n xs)

  few_left : (key : Key) (xs : List (Key × Option W)) → length (remove_entry (same_key key) xs) ≤ length xs
  few_left key [] = omega arith
  few_left key (x ∷ xs) = one (few_left key xs) (same_key key x.0) where
    one : length (remove_entry (same_key key) xs) ≤ length xs → (b : Bool) → length (if b then xs else x ∷ remove_entry (same_key key) xs) ≤ suc (length xs)
    one fewer true = omega arith
    one fewer false = omega (arith, fewer)

  few_passed : (notice : Notice Unit) (l : Listeners W) → length (passed_wakes notice l) ≤ length l.waiting
  few_passed notice l = omega (arith, few_tasks (take (moved notice.additional 1 l) l.waiting), few_taken (moved notice.additional 1 l) l.waiting)

  few_more : (n : ℕ) (l : Listeners W) → length (told_more_wakes n l) ≤ length l.waiting
  few_more n l =
      let woken : length (told_more_wakes n l) ≡ length (tasks_of (take n l.waiting)) = ap (λ (ws : List W). length ws) (woken_firsts n l) in
      omega (arith, woken, few_tasks (take n l.waiting), few_taken n l.waiting)

  few_removed : (key : Key) (l : Listeners W) → length (removed_wakes key true l) ≤ length l.waiting
  few_removed key l = by (told_as l key) where
    by : (o : Option (Notice Unit)) → length {A = W} (elim o [ Some notice ↦ passed_wakes notice (without key l) | None ↦ [] ]) ≤ length l.waiting
    by None = omega arith
    by (Some notice) = omega (arith, few_passed notice (without key l), few_left key l.waiting)

-- no step wakes more than listen on the longest list
module _ {T W : Type 0} (n : ℕ) (c : Channel T W) (most : (line : WaitList) → length (listeners line c.wait_lists).waiting ≤ n) where
  pub few_woken : (ts : List Telling) (h : Option ListenerRef) (names : List W) → WokenBy ts h c names → length names ≤ n
  few_woken (more_of k line ∷ ts) h names e = let len = ap length e in omega (arith, len, few_more k (listeners line c.wait_lists), most line)
  few_woken (all_of line ∷ ts) h names e = let len = ap length e in omega (arith, len, few_tasks (listeners line c.wait_lists).waiting, most line)
  few_woken [] (Some h) names e = let len = ap length e in omega (arith, len, few_removed h.key (listeners h.line c.wait_lists), most h.line)
  few_woken [] None names e = let len = ap length e in omega (arith, len)
