-- What a section on a list does to the listeners on it, beside the one that the call has in hand.
use Rattle.std.specs.Prelude.{◌≡◌, ◌≤◌, if◌then◌else◌, ◌∷◌, ◌++◌, ◌⊎◌}
use Rattle.channel_world_runs.proofs.Words.{ℕ, zero, suc, Bool, true, false, cond, List, [], map, length, take, drop, Option, None, Some, is_some, not, inl, inr, refl, sym, ap, ◌∙◌, subst, arith, append_assoc, lookup, keys_of, keys-set_value, Notice, same_key, told_as, waits_as, kind_of, without, with_task, told_with, moved, notified, listened, passed, passed_wakes, registration, removed, removed_wakes, Key, Listeners, told_one, told_one_wakes, told_more, told_more_wakes, told_all, told_all_wakes, ListenerRef, WaitList, IsAmong, NoneTwice, keys}
use Rattle.channel_calls.specs.Parts.{waits}
use Rattle.channel_world_runs.proofs.OwnerLists.{among_left, among_right, among_of, Joined, none_parts, none_more, among_cut, Fewer, fewer_both, same_is, told_apart, same_or_not, entry_stays, key_stays, fewer_keys, key_gone, entry_set, value_now, among_tasks}

abbrev pub on : WaitList → Key → Option ListenerRef
on line key = Some (record { line = line; key = key })

-- whether the listener that the call had in hand is gone
abbrev pub IsGone : Option ListenerRef → Option ListenerRef → Option ListenerRef → Type 0
IsGone had has h = (had ≡ h) × (has ≡ None)

some_none : (o : Option ListenerRef) (h : ListenerRef) → o ≡ Some h → o ≡ None → ⊥
some_none o h e f = absurd (let never : Some h ≡ None = sym e ∙ f in cc)

pub told_both : (xs ys : List (Key × Notice Unit)) → keys_of (xs ++ ys) ≡ keys_of xs ++ keys_of ys
told_both [] ys = refl
told_both (x ∷ xs) ys = ap (λ (ks : List Key). x.0 ∷ ks) (told_both xs ys)

cut : {A : Type 0} (n : ℕ) (xs : List A) → take n xs ++ drop n xs ≡ xs
cut zero xs = refl
cut (suc n) [] = refl
cut (suc n) (x ∷ xs) = ap (λ ys. x ∷ ys) (cut n xs)

pub few : {A : Type 0} (n : ℕ) (xs : List A) → length (take n xs) ≤ n
few zero xs = omega arith
few (suc n) [] = omega arith
few (suc n) (x ∷ xs) = let h = few n xs in omega (arith, h)

pub one_tag : (m : ℕ) (u : Unit {0}) → m ≤ 1 → length (take m (u ∷ [])) ≡ m
one_tag (suc (suc m)) u h = absurd (omega (arith, h))
one_tag x u h = refl

abbrev pub units : {A : Type 0} → List A → List (Unit {0})
units xs = map (λ x. tt) xs

pub same_many : {A : Type 0} (xs : List A) → length xs ≤ length (units xs)
same_many [] = omega arith
same_many (x ∷ xs) = let h = same_many xs in omega (arith, h)

nothing_after : (ks : List Key) → ks ++ [] ≡ ks
nothing_after [] = refl
nothing_after (k ∷ ks) = ap (λ (l : List Key). k ∷ l) (nothing_after ks)

none_at : {X : Type 0} (key : Key) (t : Bool) (f : Key × X) (es : List (Key × X)) → same_key key f.0 ≡ t
    → (is_some (lookup (same_key key) es) ≡ false → IsAmong key (keys_of es) → ⊥)
    → is_some (cond t (Some f.1) (lookup (same_key key) es)) ≡ false → IsAmong key (keys_of (f ∷ es)) → ⊥
none_at key true f es same on g i = absurd (let never : true ≡ false = g in cc)
none_at key false f es same on g (inl i) = told_apart key f.0 same (sym i)
none_at key false f es same on g (inr i) = on g i

none_some : {X : Type 0} (key : Key) (es : List (Key × X)) → is_some (lookup (same_key key) es) ≡ false
    → IsAmong key (keys_of es) → ⊥
none_some key [] e h = h
none_some key (f ∷ es) e h = none_at key (same_key key f.0) f es refl (none_some key es) e h

key_is : (line : WaitList) (a b : Key) → on line a ≡ on line b → b ≡ a
key_is line a b e = sym (ap (λ (o : Option ListenerRef). elim o [ None ↦ a | Some h ↦ h.key ]) e)

pub kind_none : (a b : Bool) → (if a then Some true else (if b then Some false else None)) ≡ None → (a ≡ false) × (b ≡ false)
kind_none true b e = absurd (let no : Some true ≡ None = e in cc)
kind_none false true e = absurd (let no : Some false ≡ None = e in cc)
kind_none false false e = (refl, refl)

abbrev waits_by : Bool → Bool → Bool
waits_by a b = elim (if a then Some true else (if b then Some false else None)) [ Some told ↦ not told | None ↦ false ]

module _ {W : Type 0} where
  -- One list after a step that wakes these: nobody stands twice on it where none did; others stay, and wait for their tasks or
  -- wake them; none goes but the one in hand, none comes but the one that is in hand then.
  pub record Turned (line : WaitList) (l l' : Listeners W) (names : List W) (had has : Option ListenerRef) : Type 0 where
    pub once : NoneTwice (keys l) → NoneTwice (keys l')
    pub waiting : (key : Key) (w : W) → (had ≡ on line key → ⊥) → IsAmong (key, Some w) l.waiting
        → IsAmong (key, Some w) l'.waiting ⊎ IsAmong w names
    pub gone : (key : Key) → IsAmong key (keys l) → IsAmong key (keys l') ⊎ IsGone had has (on line key)
    pub come : NoneTwice (keys l) → (key : Key) → IsAmong key (keys l')
        → (IsAmong key (keys l) × (IsGone had has (on line key) → ⊥))
        ⊎ ((has ≡ on line key) × (had ≡ None) × (IsAmong key (keys l) → ⊥))
    pub there : (key : Key) → has ≡ on line key → had ≡ None → IsAmong key (keys l')
    pub fresh : (key : Key) → has ≡ on line key → had ≡ None → IsAmong key (keys l) → ⊥

  -- ---- lists with the same keys

  -- the same listeners are there still
  pub same_keys : (line : WaitList) (l l' : Listeners W) (names : List W) (had : Option ListenerRef) → keys l' ≡ keys l
      → ((key : Key) (w : W) → (had ≡ on line key → ⊥) → IsAmong (key, Some w) l.waiting → IsAmong (key, Some w) l'.waiting
      ⊎ IsAmong w names) → Turned line l l' names had had
  same_keys line l l' names had e f =
      record {
        once = λ h. subst (λ (ks : List Key). NoneTwice ks) (sym e) h;
        waiting = f;
        gone = λ key h. inl (subst (λ (ks : List Key). IsAmong key ks) (sym e) h);
        come = λ h key i. inl
            (subst (λ (ks : List Key). IsAmong key ks) e i, λ g. some_none had (record { line = line; key = key }) g.0 g.1);
        there = λ key h g. absurd (some_none had (record { line = line; key = key }) h g);
        fresh = λ key h g i. some_none had (record { line = line; key = key }) h g;
      }

  pub untouched : (line : WaitList) (l : Listeners W) (names : List W) (had : Option ListenerRef) → Turned line l l names had had
  untouched line l names had = same_keys line l l names had refl (λ key w other h. inl h)

  -- the listener in hand is on another list
  pub elsewhere : (line : WaitList) (l : Listeners W) (names : List W) (had has : Option ListenerRef) → ((key : Key) → had ≡ on line key → ⊥)
      → ((key : Key) → has ≡ on line key → ⊥) → Turned line l l names had has
  elsewhere line l names had has f g =
      record {
        once = λ h. h;
        waiting = λ key w other h. inl h;
        gone = λ key h. inl h;
        come = λ h key i. inl (i, λ e. f key e.0);
        there = λ key e n. absurd (g key e);
        fresh = λ key e n i. g key e;
      }

  -- ---- tellings

  pub told_keys : (additional : Bool) (ws : List (Key × Option W)) (tags : List Unit) → length ws ≤ length tags
      → keys_of (told_with additional ws tags) ≡ keys_of ws
  told_keys additional [] tags h = refl
  told_keys additional (w ∷ ws) [] h = absurd (omega (arith, h))
  told_keys additional (w ∷ ws) (t ∷ ts) h = ap (λ (ks : List Key). w.0 ∷ ks) (told_keys additional ws ts (omega (arith, h)))

  map_both : (xs ys : List (Key × Option W)) → keys_of (xs ++ ys) ≡ keys_of xs ++ keys_of ys
  map_both [] ys = refl
  map_both (x ∷ xs) ys = ap (λ (ks : List Key). x.0 ∷ ks) (map_both xs ys)

  notified_keys : (additional : Bool) (tags : List Unit) (l : Listeners W) → keys (notified additional tags l) ≡ keys l
  notified_keys additional tags l =
      let n = length tags in
      let first = take n l.waiting in
      let rest = drop n l.waiting in
      let told : keys_of (told_with additional first tags) ≡ keys_of first = told_keys additional first tags (few n l.waiting) in
      let all : keys_of first ++ keys_of rest ≡ keys_of l.waiting =
      sym (map_both first rest) ∙ ap (λ (ws : List (Key × Option W)). keys_of ws) (cut n l.waiting) in
      ap (λ (ks : List Key). ks ++ keys_of rest) (told_both l.told (told_with additional first tags))
      ∙ (append_assoc (keys_of l.told) (keys_of (told_with additional first tags)) (keys_of rest)
      ∙ (ap (λ (ks : List Key). keys_of l.told ++ (ks ++ keys_of rest)) told ∙ ap (λ (ks : List Key). keys_of l.told ++ ks) all))

  pub at_most_one : (additional : Bool) (l : Listeners W) → moved additional 1 l ≤ 1
  at_most_one true l = omega arith
  at_most_one false l = omega arith

  -- who waited waits still, or is woken
  passed_waiting : (n : Notice Unit) (l : Listeners W) (key : Key) (w : W) → IsAmong (key, Some w) l.waiting
      → IsAmong (key, Some w) (passed n l).waiting ⊎ IsAmong w (passed_wakes n l)
  passed_waiting n l key w h = by (among_cut m (key, Some w) l.waiting h)
    where
      m : ℕ
      m = moved n.additional 1 l

      tag : length (take m (n.tag ∷ [])) ≡ m
      tag = one_tag m n.tag (at_most_one n.additional l)

      by : IsAmong (key, Some w) (take m l.waiting) ⊎ IsAmong (key, Some w) (drop m l.waiting)
          → IsAmong (key, Some w) (passed n l).waiting ⊎ IsAmong w (passed_wakes n l)
      by (inl i) = inr (among_tasks key w (take m l.waiting) i)
      by (inr i) = inl (subst (λ (k : ℕ). IsAmong (key, Some w) (drop k l.waiting)) (sym tag) i)

  passed_keys : (n : Notice Unit) (l : Listeners W) → keys (passed n l) ≡ keys l
  passed_keys n l = notified_keys n.additional (take (moved n.additional 1 l) (n.tag ∷ [])) l

  pub one_told : (line : WaitList) (l : Listeners W) (had : Option ListenerRef) → Turned line l (told_one l) (told_one_wakes l) had had
  one_told line l had =
      let n : Notice Unit = record { additional = true; tag = tt } in
      same_keys line l (told_one l) (told_one_wakes l) had (passed_keys n l) (λ key w other h. passed_waiting n l key w h)

  -- several, one after another
  more_keys : (n : ℕ) (l : Listeners W) → keys (told_more n l) ≡ keys l
  more_keys zero l = refl
  more_keys (suc n) l = more_keys n (told_one l) ∙ passed_keys (record { additional = true; tag = tt }) l

  more_waiting : (n : ℕ) (l : Listeners W) (key : Key) (w : W) → IsAmong (key, Some w) l.waiting
      → IsAmong (key, Some w) (told_more n l).waiting ⊎ IsAmong w (told_more_wakes n l)
  more_waiting zero l key w h = inl h
  more_waiting (suc n) l key w h =
      first (λ i. more_waiting n (told_one l) key w i) (passed_waiting (record { additional = true; tag = tt }) l key w h)
    where
      rest : IsAmong (key, Some w) (told_more n (told_one l)).waiting ⊎ IsAmong w (told_more_wakes n (told_one l))
          → IsAmong (key, Some w) (told_more n (told_one l)).waiting ⊎ IsAmong w (told_one_wakes l ++ told_more_wakes n (told_one l))
      rest (inl i) = inl i
      rest (inr i) = inr (among_right w (told_one_wakes l) (told_more_wakes n (told_one l)) i)

      first : (IsAmong (key, Some w) (told_one l).waiting → IsAmong (key, Some w) (told_more n (told_one l)).waiting ⊎ IsAmong w (told_more_wakes n (told_one l)))
          → IsAmong (key, Some w) (told_one l).waiting ⊎ IsAmong w (told_one_wakes l)
          → IsAmong (key, Some w) (told_more n (told_one l)).waiting ⊎ IsAmong w (told_one_wakes l ++ told_more_wakes n (told_one l))
      first more (inl i) = rest (more i)
      first more (inr i) = inr (among_left w (told_one_wakes l) (told_more_wakes n (told_one l)) i)

  pub more_told : (line : WaitList) (n : ℕ) (l : Listeners W) (had : Option ListenerRef) → Turned line l (told_more n l) (told_more_wakes n l) had had
  more_told line n l had =
      same_keys line l (told_more n l) (told_more_wakes n l) had (more_keys n l) (λ key w other h. more_waiting n l key w h)

  pub all_told : (line : WaitList) (l : Listeners W) (had : Option ListenerRef) → Turned line l (told_all l) (told_all_wakes l) had had
  all_told line l had =
      let tags = units l.waiting in
      let told : keys_of (told_with false l.waiting tags) ≡ keys_of l.waiting =
      told_keys false l.waiting tags (same_many l.waiting) in
      same_keys line l (told_all l) (told_all_wakes l) had
      (nothing_after (keys_of (l.told ++ told_with false l.waiting tags))
      ∙ (told_both l.told (told_with false l.waiting tags) ∙ ap (λ (ks : List Key). keys_of l.told ++ ks) told))
      (λ key w other h. inr (among_tasks key w l.waiting h))

  -- ---- one leaves

  without_stays : (key k : Key) (l : Listeners W) → (k ≡ key → ⊥) → IsAmong k (keys l) → IsAmong k (keys (without key l))
  without_stays key k l other h = by (among_of k (keys_of l.told) (keys_of l.waiting) h)
    where
      by : IsAmong k (keys_of l.told) ⊎ IsAmong k (keys_of l.waiting) → IsAmong k (keys (without key l))
      by (inl i) = among_left k (keys_of (without key l).told) (keys_of (without key l).waiting) (key_stays key k l.told other i)
      by (inr i) =
          among_right k (keys_of (without key l).told) (keys_of (without key l).waiting) (key_stays key k l.waiting other i)

  without_fewer : (key : Key) (l : Listeners W) → Fewer (keys l) (keys (without key l))
  without_fewer key l = fewer_both (keys_of l.told) (keys_of (without key l).told) (keys_of l.waiting)
      (keys_of (without key l).waiting) (fewer_keys key l.told) (fewer_keys key l.waiting)

  without_gone : (key : Key) (l : Listeners W) → NoneTwice (keys l) → IsAmong key (keys (without key l)) → ⊥
  without_gone key l once h = by (among_of key (keys_of (without key l).told) (keys_of (without key l).waiting) h)
      (none_parts (keys_of l.told) (keys_of l.waiting) once)
    where
      by : IsAmong key (keys_of (without key l).told) ⊎ IsAmong key (keys_of (without key l).waiting)
          → Joined (keys_of l.told) (keys_of l.waiting) → ⊥
      by (inl i) j = key_gone key l.told j.left i
      by (inr i) j = key_gone key l.waiting j.right i

  -- the listener in hand has left, and others stay as they are here
  left : (line : WaitList) (key : Key) (l l' : Listeners W) (names : List W) → keys l' ≡ keys (without key l)
      → ((k : Key) (w : W) → (k ≡ key → ⊥) → IsAmong (k, Some w) l.waiting → IsAmong (k, Some w) l'.waiting ⊎ IsAmong w names)
      → Turned line l l' names (on line key) None
  left line key l l' names e f =
      record {
        once = λ h. subst (λ (ks : List Key). NoneTwice ks) (sym e) ((without_fewer key l).1 h);
        waiting = λ k w other h. f k w (λ (same : k ≡ key). other (ap (λ (x : Key). on line x) (sym same))) h;
        gone = λ k h. gone_or k h (same_or_not k key);
        come = λ h k i. let j = subst (λ (ks : List Key). IsAmong k ks) e i in
            inl (
              (without_fewer key l).0 k j,
              λ g. without_gone key l h (subst (λ (x : Key). IsAmong x (keys (without key l))) (key_is line key k g.0) j),
            );
        there = λ k h g. absurd (some_none None (record { line = line; key = k }) h refl);
        fresh = λ k h g i. some_none None (record { line = line; key = k }) h refl;
      }
    where
      gone_or : (k : Key) → IsAmong k (keys l) → (k ≡ key) ⊎ (k ≡ key → ⊥)
          → IsAmong k (keys l') ⊎ IsGone (on line key) None (on line k)
      gone_or k h (inl same) = inr (ap (λ (x : Key). on line x) (sym same), refl)
      gone_or k h (inr other) = inl (subst (λ (ks : List Key). IsAmong k ks) (sym e) (without_stays key k l other h))

  -- it was not there
  never : (line : WaitList) (key : Key) (l : Listeners W) (names : List W) → (IsAmong key (keys l) → ⊥)
      → Turned line l l names (on line key) None
  never line key l names f =
      record {
        once = λ h. h;
        waiting = λ k w other h. inl h;
        gone = λ k h. inl h;
        come = λ h k i. inl (i, λ g. f (subst (λ (x : Key). IsAmong x (keys l)) (key_is line key k g.0) i));
        there = λ k h g. absurd (some_none None (record { line = line; key = k }) h refl);
        fresh = λ k h g i. some_none None (record { line = line; key = k }) h refl;
      }

  unlisted : (key : Key) (l : Listeners W) → is_some (told_as l key) ≡ false → is_some (waits_as l key) ≡ false
      → IsAmong key (keys l) → ⊥
  unlisted key l e f h = by (among_of key (keys_of l.told) (keys_of l.waiting) h)
    where
      by : IsAmong key (keys_of l.told) ⊎ IsAmong key (keys_of l.waiting) → ⊥
      by (inl i) = none_some key l.told e i
      by (inr i) = none_some key l.waiting f i

  abbrev pub removed_as : Option (Notice Unit) → Bool → Key → Listeners W → Listeners W
  removed_as o b key l = elim o
      [ Some notice ↦ (if true then passed notice (without key l) else without key l) | None ↦ (if b then without key l else l) ]

  abbrev pub removed_names : Option (Notice Unit) → Key → Listeners W → List W
  removed_names o key l = elim o [ Some notice ↦ (if true then passed_wakes notice (without key l) else []) | None ↦ [] ]

  removing : (line : WaitList) (key : Key) (l : Listeners W) (o : Option (Notice Unit)) (b : Bool) → told_as l key ≡ o
      → is_some (waits_as l key) ≡ b → Turned line l (removed_as o b key l) (removed_names o key l) (on line key) None
  removing line key l (Some n) b e f =
      left line key l (passed n (without key l)) (passed_wakes n (without key l)) (passed_keys n (without key l))
      (λ k w other h. passed_waiting n (without key l) k w (entry_stays key (k, Some w) l.waiting other h))
  removing line key l None true e f =
      left line key l (without key l) [] refl (λ k w other h. inl (entry_stays key (k, Some w) l.waiting other h))
  removing line key l None false e f = never line key l [] (unlisted key l (ap (λ (o : Option (Notice Unit)). is_some o) e) f)

  pub one_removed : (line : WaitList) (key : Key) (l : Listeners W)
      → Turned line l (removed key true l) (removed_wakes key true l) (on line key) None
  one_removed line key l = removing line key l (told_as l key) (is_some (waits_as l key)) refl refl

  -- ---- one comes

  pub one_listens : (line : WaitList) (key : Key) (l : Listeners W) → kind_of l key ≡ None
      → Turned line l (listened key l) [] None (on line key)
  one_listens line key l e =
      let more : keys (listened key l) ≡ keys l ++ key ∷ [] = ap (λ (ks : List Key). keys_of l.told ++ ks)
      (map_both l.waiting ((key, None) ∷ [])) ∙ sym (append_assoc (keys_of l.told) (keys_of l.waiting) (key ∷ [])) in
      let kinds = kind_none (is_some (told_as l key)) (is_some (waits_as l key)) e in
      let new = unlisted key l kinds.0 kinds.1 in
      record {
        once = λ h. subst (λ (ks : List Key). NoneTwice ks) (sym more) (none_more key (keys l) new h);
        waiting = λ k w other h. inl (among_left (k, Some w) l.waiting ((key, None) ∷ []) h);
        gone = λ k h. inl (subst (λ (ks : List Key). IsAmong k ks) (sym more) (among_left k (keys l) (key ∷ []) h));
        come = λ h k i. come_or k new (among_of k (keys l) (key ∷ []) (subst (λ (ks : List Key). IsAmong k ks) more i));
        there = λ k h g. subst (λ (x : Key). IsAmong x (keys (listened key l))) (sym (key_is line key k h))
            (subst (λ (ks : List Key). IsAmong key ks) (sym more) (among_right key (keys l) (key ∷ []) (inl refl)));
        fresh = λ k h g i. new (subst (λ (x : Key). IsAmong x (keys l)) (key_is line key k h) i);
      }
    where
      come_or : (k : Key) → (IsAmong key (keys l) → ⊥) → IsAmong k (keys l) ⊎ IsAmong k (key ∷ [])
          → (IsAmong k (keys l) × (IsGone None (on line key) (on line k) → ⊥))
          ⊎ ((on line key ≡ on line k) × (let no : Option ListenerRef = None in no ≡ None) × (IsAmong k (keys l) → ⊥))
      come_or k new (inl i) = inl (i, λ g. some_none None (record { line = line; key = k }) g.0 refl)
      come_or k new (inr (inl i)) =
          inr (ap (λ (x : Key). on line x) i, refl, λ h. new (subst (λ (x : Key). IsAmong x (keys l)) (sym i) h))
      come_or k new (inr (inr i)) = absurd i

  -- ---- one asks

  abbrev registered_as : Bool → Bool → Key → W → Listeners W → Listeners W
  registered_as a b key task l = if a then without key l else (if b then with_task key task l else l)

  -- it waits still, and its task is this
  pub record StillWaits (line : WaitList) (key : Key) (task : W) (l l' : Listeners W) : Type 0 where
    pub list : Turned line l l' [] (on line key) (on line key)
    pub task_now : IsAmong (key, Some task) l'.waiting

  some_at : (key : Key) (t : Bool) (f : Key × Option W) (es : List (Key × Option W)) → same_key key f.0 ≡ t
      → (is_some (lookup (same_key key) es) ≡ true → IsAmong key (keys_of es))
      → is_some (cond t (Some f.1) (lookup (same_key key) es)) ≡ true → IsAmong key (keys_of (f ∷ es))
  some_at key true f es same on g = inl (sym (same_is key f.0 same))
  some_at key false f es same on g = inr (on g)

  among_some : (key : Key) (es : List (Key × Option W)) → is_some (lookup (same_key key) es) ≡ true → IsAmong key (keys_of es)
  among_some key [] e = absurd (let no : false ≡ true = e in cc)
  among_some key (f ∷ es) e = some_at key (same_key key f.0) f es refl (among_some key es) e

  -- what comes of it, where it waits and where it doesn't
  abbrev pub Asked : WaitList → Key → W → Listeners W → Listeners W → Bool → Type 0
  Asked line key task l l' true = StillWaits line key task l l'
  Asked line key task l l' false = Turned line l l' [] (on line key) None

  asking : (line : WaitList) (key : Key) (task : W) (l : Listeners W) (a b : Bool) → is_some (told_as l key) ≡ a
      → is_some (waits_as l key) ≡ b → Asked line key task l (registered_as a b key task l) (waits_by a b)
  asking line key task l true b e f =
      left line key l (without key l) [] refl (λ k w other h. inl (entry_stays key (k, Some w) l.waiting other h))
  asking line key task l false true e f =
      record {
        list = same_keys line l (with_task key task l) [] (on line key)
            (ap (λ (ks : List Key). keys_of l.told ++ ks) (keys-set_value (same_key key) l.waiting (Some task)))
            (λ k w other h. inl
            (entry_set key (Some task) (k, Some w) l.waiting
            (λ (same : k ≡ key). other (ap (λ (x : Key). on line x) (sym same))) h));
        task_now = value_now key (Some task) l.waiting (among_some key l.waiting f);
      }
  asking line key task l false false e f = never line key l [] (unlisted key l e f)

  pub one_asks : (line : WaitList) (key : Key) (task : W) (l : Listeners W)
      → Asked line key task l (registration key task l) (waits key l)
  one_asks line key task l = asking line key task l (is_some (told_as l key)) (is_some (waits_as l key)) refl refl
