-- Who is told on a list, and whom its listeners wake, after what a step does there.
use Rattle.std.specs.Prelude.{◌≡◌, ◌≤◌, if◌then◌else◌, ◌∷◌, ◌++◌, ◌⊎◌}
use Rattle.channel_world_runs.proofs.Lemmas.{ℕ, zero, suc, Bool, true, false, cond, List, [], length, take, drop, Option, None, Some, is_some, inl, inr, refl, sym, ap, ◌∙◌, subst, arith, remove_entry, set_value, keys_of, Notice, same_key, tasks_of, told_as, waits_as, told_with, unlisted as without, with_task, moved, passed, passed_wakes, listened, registration, removed, removed_wakes, Key, Listeners, told_one, told_one_wakes, told_more, told_more_wakes, told_all, told_all_wakes, ListenerRef, WaitList, IsAmong, on, few, one_tag, units, same_many, at_most_one, removed_as, removed_names, same_is, key_stays, among_of}

module _ {A : Type 0} where
  pub among_take : (n : ℕ) (x : A) (xs : List A) → IsAmong x (take n xs) → IsAmong x xs
  among_take zero x xs h = absurd h
  among_take (suc n) x [] h = h
  among_take (suc n) x (y ∷ xs) (inl h) = inl h
  among_take (suc n) x (y ∷ xs) (inr h) = inr (among_take n x xs h)

  among_drop : (n : ℕ) (x : A) (xs : List A) → IsAmong x (drop n xs) → IsAmong x xs
  among_drop zero x xs h = h
  among_drop (suc n) x [] h = h
  among_drop (suc n) x (y ∷ xs) h = inr (among_drop n x xs h)

module _ {X : Type 0} where
  pub key_of_entry : (e : Key × X) (es : List (Key × X)) → IsAmong e es → IsAmong e.0 (keys_of es)
  key_of_entry e [] i = i
  key_of_entry e (f ∷ es) (inl h) = inl (ap (λ (x : Key × X). x.0) h)
  key_of_entry e (f ∷ es) (inr i) = inr (key_of_entry e es i)

  keys_left : (k : Key) (xs ys : List (Key × X)) → IsAmong k (keys_of xs) → IsAmong k (keys_of (xs ++ ys))
  keys_left k [] ys h = absurd h
  keys_left k (x ∷ xs) ys (inl h) = inl h
  keys_left k (x ∷ xs) ys (inr h) = inr (keys_left k xs ys h)

  keys_right : (k : Key) (xs ys : List (Key × X)) → IsAmong k (keys_of ys) → IsAmong k (keys_of (xs ++ ys))
  keys_right k [] ys h = h
  keys_right k (x ∷ xs) ys h = inr (keys_right k xs ys h)

  -- no entry comes where one leaves
  cut_back : (t : Bool) (e f : Key × X) (es fs : List (Key × X)) → (IsAmong e fs → IsAmong e es)
      → IsAmong e (cond t es (f ∷ fs)) → IsAmong e (f ∷ es)
  cut_back true e f es fs on h = inr h
  cut_back false e f es fs on (inl h) = inl h
  cut_back false e f es fs on (inr h) = inr (on h)

  pub entry_back : (key : Key) (e : Key × X) (es : List (Key × X)) → IsAmong e (remove_entry (same_key key) es) → IsAmong e es
  entry_back key e [] h = h
  entry_back key e (f ∷ es) h = cut_back (same_key key f.0) e f es (remove_entry (same_key key) es) (entry_back key e es) h

  -- an entry whose value is set
  set_back_at : (t : Bool) (key : Key) (x : X) (e f : Key × X) (es fs : List (Key × X)) → same_key key f.0 ≡ t
      → (IsAmong e fs → IsAmong e es ⊎ ((key ≡ e.0) × (x ≡ e.1)))
      → IsAmong e (cond t ((f.0, x) ∷ es) (f ∷ fs)) → IsAmong e (f ∷ es) ⊎ ((key ≡ e.0) × (x ≡ e.1))
  set_back_at true key x e f es fs same on (inl h) =
      inr (same_is key f.0 same ∙ ap (λ (y : Key × X). y.0) h, ap (λ (y : Key × X). y.1) h)
  set_back_at true key x e f es fs same on (inr h) = inl (inr h)
  set_back_at false key x e f es fs same on (inl h) = inl (inl h)
  set_back_at false key x e f es fs same on (inr h) = deeper (on h)
    where
      deeper : IsAmong e es ⊎ ((key ≡ e.0) × (x ≡ e.1)) → IsAmong e (f ∷ es) ⊎ ((key ≡ e.0) × (x ≡ e.1))
      deeper (inl i) = inl (inr i)
      deeper (inr i) = inr i

  set_back : (key : Key) (x : X) (e : Key × X) (es : List (Key × X)) → IsAmong e (set_value (same_key key) es x)
      → IsAmong e es ⊎ ((key ≡ e.0) × (x ≡ e.1))
  set_back key x e [] h = inl h
  set_back key x e (f ∷ es) h =
      set_back_at (same_key key f.0) key x e f es (set_value (same_key key) es x) refl (set_back key x e es) h

module _ {W : Type 0} where
  -- each that is woken waited
  pub waited : (w : W) (ws : List (Key × Option W)) → IsAmong w (tasks_of ws) → (key : Key) × IsAmong (key, Some w) ws
  waited w [] h = absurd h
  waited w ((k, None) ∷ ws) h = let more = waited w ws h in (more.0, inr more.1)
  waited w ((k, Some v) ∷ ws) (inl h) = (k, inl (ap (λ (x : W). let e : Key × Option W = (k, Some x) in e) h))
  waited w ((k, Some v) ∷ ws) (inr h) = let more = waited w ws h in (more.0, inr more.1)

  told_keys : (additional : Bool) (k : Key) (ws : List (Key × Option W)) (tags : List Unit) → length ws ≤ length tags
      → IsAmong k (keys_of ws) → IsAmong k (keys_of (told_with additional ws tags))
  told_keys additional k [] tags h i = absurd i
  told_keys additional k (w ∷ ws) [] h i = absurd (omega (arith, h))
  told_keys additional k (w ∷ ws) (t ∷ ts) h (inl i) = inl i
  told_keys additional k (w ∷ ws) (t ∷ ts) h (inr i) = inr (told_keys additional k ws ts (omega (arith, h)) i)

  -- One list after a step that wakes these, with this listener in hand, that may be to wake this task: those that were told are
  -- told still, but for the one in hand; a listener that waits waited for the same, or is the one in hand, and waits for its
  -- task; each that is woken waited, and is told.
  pub record Tells (line : WaitList) (l l' : Listeners W) (names : List W) (had : Option ListenerRef) (task : Option W) : Type 0 where
    pub told : (key : Key) → (had ≡ on line key → ⊥) → IsAmong key (keys_of l.told) → IsAmong key (keys_of l'.told)
    pub tasks : (key : Key) (w : W) → IsAmong (key, Some w) l'.waiting
        → IsAmong (key, Some w) l.waiting ⊎ ((had ≡ on line key) × (task ≡ Some w))
    pub woken : (w : W) → IsAmong w names → (key : Key) × IsAmong (key, Some w) l.waiting × IsAmong key (keys_of l'.told)

  pub same_list : (line : WaitList) (l : Listeners W) (had : Option ListenerRef) (task : Option W) → Tells line l l [] had task
  same_list line l had task = record { told = λ key other h. h; tasks = λ key w h. inl h; woken = λ w h. absurd h }

  abbrev tags : Notice Unit → Listeners W → List (Unit {0})
  tags n l = take (moved n.additional 1 l) (n.tag ∷ [])

  abbrev new : Notice Unit → Listeners W → List (Key × Notice Unit)
  new n l = told_with n.additional (take (length (tags n l)) l.waiting) (tags n l)

  abbrev all_tags : Listeners W → List (Unit {0})
  all_tags l = units l.waiting

  abbrev all_new : Listeners W → List (Key × Notice Unit)
  all_new l = told_with false l.waiting (all_tags l)

  module _ (line : WaitList) (had : Option ListenerRef) (task : Option W) where
    pub passes : (n : Notice Unit) (l : Listeners W) → Tells line l (passed n l) (passed_wakes n l) had task
    passes n l = record {
      told = λ key other h. keys_left key l.told (new n l) h;
      tasks = λ key w h. inl
          (among_drop (length (tags n l)) (key, Some w) l.waiting h);
      woken = woken;
    }
      where
        many : length (tags n l) ≡ moved n.additional 1 l
        many = one_tag (moved n.additional 1 l) n.tag (at_most_one n.additional l)

        woken : (w : W) → IsAmong w (passed_wakes n l)
            → (key : Key) × IsAmong (key, Some w) l.waiting × IsAmong key (keys_of (passed n l).told)
        woken w h =
            let who = waited w (take (moved n.additional 1 l) l.waiting) h in
            let first = subst (λ (k : ℕ). IsAmong (who.0, Some w) (take k l.waiting)) (sym many) who.1 in (
              who.0,
              among_take (moved n.additional 1 l) (who.0, Some w) l.waiting who.1,
              keys_right who.0 l.told (new n l) (told_keys n.additional who.0 (take (length (tags n l)) l.waiting) (tags n l)
                  (few (length (tags n l)) l.waiting)
                  (key_of_entry (who.0, Some w) (take (length (tags n l)) l.waiting) first)),
            )

    -- several, one after another: each that was told is told still
    still_told : (n : ℕ) (l : Listeners W) (key : Key) → IsAmong key (keys_of l.told) → IsAmong key (keys_of (told_more n l).told)
    still_told zero l key h = h
    still_told (suc n) l key h = still_told n (told_one l) key (keys_left key l.told (new (record { additional = true; tag = tt }) l) h)

    pub more_pass : (n : ℕ) (l : Listeners W) → Tells line l (told_more n l) (told_more_wakes n l) had task
    more_pass zero l = same_list line l had task
    more_pass (suc n) l =
        let rest = more_pass n (told_one l) in
        record {
          told = λ key other h. still_told (suc n) l key h;
          tasks = λ key w h. tasks key w (rest.tasks key w h);
          woken = λ w h. woken rest w (among_of w (told_one_wakes l) (told_more_wakes n (told_one l)) h);
        }
      where
        one : Tells line l (told_one l) (told_one_wakes l) had task
        one = passes (record { additional = true; tag = tt }) l

        back : (key : Key) (w : W) → IsAmong (key, Some w) (told_one l).waiting → IsAmong (key, Some w) l.waiting
        back key w h = among_drop (length (tags (record { additional = true; tag = tt }) l)) (key, Some w) l.waiting h

        tasks : (key : Key) (w : W) → IsAmong (key, Some w) (told_one l).waiting ⊎ ((had ≡ on line key) × (task ≡ Some w))
            → IsAmong (key, Some w) l.waiting ⊎ ((had ≡ on line key) × (task ≡ Some w))
        tasks key w (inl h) = one.tasks key w h
        tasks key w (inr h) = inr h

        woken : Tells line (told_one l) (told_more n (told_one l)) (told_more_wakes n (told_one l)) had task
            → (w : W) → IsAmong w (told_one_wakes l) ⊎ IsAmong w (told_more_wakes n (told_one l))
            → (key : Key) × IsAmong (key, Some w) l.waiting × IsAmong key (keys_of (told_more n (told_one l)).told)
        woken rest w (inl h) = let who = one.woken w h in (who.0, who.1, still_told n (told_one l) who.0 who.2)
        woken rest w (inr h) = let who = rest.woken w h in (who.0, back who.0 w who.1, who.2)

    pub all_pass : (l : Listeners W) → Tells line l (told_all l) (told_all_wakes l) had task
    all_pass l =
        record { told = λ key other h. keys_left key l.told (all_new l) h; tasks = λ key w h. absurd h; woken = woken }
      where
        woken : (w : W) → IsAmong w (told_all_wakes l)
            → (key : Key) × IsAmong (key, Some w) l.waiting × IsAmong key (keys_of (told_all l).told)
        woken w h =
            let who = waited w l.waiting h in (
              who.0,
              who.1,
              keys_right who.0 l.told (all_new l)
                  (told_keys false who.0 l.waiting (all_tags l) (same_many l.waiting)
                  (key_of_entry (who.0, Some w) l.waiting who.1)),
            )

  -- the listener in hand leaves
  goes : (line : WaitList) (key : Key) (l : Listeners W) (task : Option W) → Tells line l (without key l) [] (on line key) task
  goes line key l task =
      record {
        told = λ k other h. key_stays key k l.told (λ same. other (ap (λ (x : Key). on line x) (sym same))) h;
        tasks = λ k w h. inl (entry_back key (k, Some w) l.waiting h);
        woken = λ w h. absurd h;
      }

  -- one after the other
  both : (line : WaitList) (l l' l'' : Listeners W) (names : List W) (had : Option ListenerRef) → Tells line l l' [] had None
      → Tells line l' l'' names had None → Tells line l l'' names had None
  both line l l' l'' names had f g = record {
    told = λ key other h. g.told key other (f.told key other h);
    tasks = tasks;
    woken = λ w h. woken w (g.woken w h);
  }
    where
      back : (key : Key) (w : W)
          → IsAmong (key, Some w) l.waiting ⊎ ((had ≡ on line key) × (let none : Option W = None in none ≡ Some w))
          → IsAmong (key, Some w) l.waiting
      back key w (inl h) = h
      back key w (inr h) = absurd (let no : None ≡ Some w = h.1 in cc)

      tasks : (key : Key) (w : W) → IsAmong (key, Some w) l''.waiting
          → IsAmong (key, Some w) l.waiting ⊎ ((had ≡ on line key) × (let none : Option W = None in none ≡ Some w))
      tasks key w h = by (g.tasks key w h)
        where
          by : IsAmong (key, Some w) l'.waiting ⊎ ((had ≡ on line key) × (let none : Option W = None in none ≡ Some w))
              → IsAmong (key, Some w) l.waiting ⊎ ((had ≡ on line key) × (let none : Option W = None in none ≡ Some w))
          by (inl i) = f.tasks key w i
          by (inr i) = inr i

      woken : (w : W) → (key : Key) × IsAmong (key, Some w) l'.waiting × IsAmong key (keys_of l''.told)
          → (key : Key) × IsAmong (key, Some w) l.waiting × IsAmong key (keys_of l''.told)
      woken w h = (h.0, back h.0 w (f.tasks h.0 w h.1), h.2)

  removing : (line : WaitList) (key : Key) (l : Listeners W) (o : Option (Notice Unit)) (b : Bool)
      → Tells line l (removed_as o b key l) (removed_names o key l) (on line key) None
  removing line key l (Some n) b = both line l (without key l) (passed n (without key l)) (passed_wakes n (without key l))
      (on line key) (goes line key l None) (passes line (on line key) None n (without key l))
  removing line key l None true = goes line key l None
  removing line key l None false = same_list line l (on line key) None

  pub leaves_list : (line : WaitList) (key : Key) (l : Listeners W)
      → Tells line l (removed key true l) (removed_wakes key true l) (on line key) None
  leaves_list line key l = removing line key l (told_as l key) (is_some (waits_as l key))

  -- one comes in, and waits for nobody yet
  pub comes_in : (line : WaitList) (key : Key) (l : Listeners W) (task : Option W) → Tells line l (listened key l) [] None task
  comes_in line key l task = record {
    told = λ k other h. h;
    tasks = λ k w h. by k w
        (among_of (k, Some w) l.waiting ((key, None) ∷ []) h);
    woken = λ w h. absurd h;
  }
    where
      by : (k : Key) (w : W) → IsAmong (k, Some w) l.waiting ⊎ IsAmong {A = Key × Option W} (k, Some w) ((key, None) ∷ []) →
          IsAmong (k, Some w) l.waiting ⊎ ((let none : Option ListenerRef = None in none ≡ on line k) × (task ≡ Some w))
      by k w (inl h) = inl h
      by k w (inr (inl h)) = absurd (let no : None ≡ Some w = ap (λ (x : Key × Option W). x.1) h in cc)
      by k w (inr (inr h)) = absurd h

  registering : (line : WaitList) (key : Key) (task : W) (l : Listeners W) (a b : Bool)
      → Tells line l (if a then without key l else (if b then with_task key task l else l)) [] (on line key) (Some task)
  registering line key task l true b = goes line key l (Some task)
  registering line key task l false true = record {
    told = λ k other h. h;
    tasks = λ k w h. by k w
        (set_back key (Some task) (k, Some w) l.waiting h);
    woken = λ w h. absurd h;
  }
    where
      by : (k : Key) (w : W) → IsAmong (k, Some w) l.waiting ⊎ ((key ≡ k) × (Some task ≡ Some w))
          → IsAmong (k, Some w) l.waiting ⊎ ((on line key ≡ on line k) × (Some task ≡ Some w))
      by k w (inl h) = inl h
      by k w (inr h) = inr (ap (λ (x : Key). on line x) h.0, h.1)
  registering line key task l false false = same_list line l (on line key) (Some task)

  pub registers_on : (line : WaitList) (key : Key) (task : W) (l : Listeners W)
      → Tells line l (registration key task l) [] (on line key) (Some task)
  registers_on line key task l = registering line key task l (is_some (told_as l key)) (is_some (waits_as l key))
