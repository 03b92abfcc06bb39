-- Other tasks put for those of a channel's lists: each deed does to them what it did, with these tasks.
use Rattle.std.proofs.Common.{◌≡◌, ℕ, zero, suc, ◌+◌, ◌-◌, Bool, true, false, not, if◌then◌else◌, List, [], ◌∷◌, ◌++◌, map, Option, None, Some, Result, Ok, Err, option_map, refl, sym, ap, subst, ◌∙◌}
use Rattle.std.proofs.lemmas.List.{map-append}
use Rattle.channel_steps.proofs.every_run.Words.{Notice, kind_of, listened, registration, removed, removed_wakes, told_with, Woken, Key, ListenError, Deed, stepped, inserted, registered, taken_off, told, counted, lowered, raised, Done, Does, Parts, Listeners, WaitLists, with_wait_lists, listeners, with_listeners, count, with_count, is_raised, told_one, told_one_wakes, told_more, told_more_wakes, told_all, told_all_wakes, told_whom, told_as_wakes, waits, WaitList, Sends, Whom, One, More, All, Side, Senders, Receivers, woken_by, OnList, Registers, WakesSo, WakesFor, listeners_by, wait_lists_by, parts_by, deed_by}
use Rattle.channel_steps.proofs.every_run.TaskLists.{by, told_by, tasks_by, kind_by, listened_by, registration_by, passed_by, passed_wakes_by, removed_by, removed_wakes_by}

module _ {W V : Type 0} (put : W → V) where
  -- ---- a list

  -- what is done to one list, and whom it wakes, whatever the tasks are

  pub one_alike : (l : Listeners W) → told_one (listeners_by put l) ≡ listeners_by put (told_one l)
  one_alike l = passed_by put (record { additional = true; tag = tt }) l

  pub one_wakes : (l : Listeners W) → told_one_wakes (listeners_by put l) ≡ map put (told_one_wakes l)
  one_wakes l = passed_wakes_by put (record { additional = true; tag = tt }) l

  pub more_alike : (n : ℕ) (l : Listeners W) → told_more n (listeners_by put l) ≡ listeners_by put (told_more n l)
  more_alike zero l = refl
  more_alike (suc n) l = ap (λ (x : Listeners V). told_more n x) (one_alike l) ∙ more_alike n (told_one l)

  pub more_wakes : (n : ℕ) (l : Listeners W) → told_more_wakes n (listeners_by put l) ≡ map put (told_more_wakes n l)
  more_wakes zero l = refl
  more_wakes (suc n) l =
      ap (λ (x : List V). x ++ told_more_wakes n (told_one (listeners_by put l))) (one_wakes l)
      ∙ ap (λ (x : Listeners V). map put (told_one_wakes l) ++ told_more_wakes n x) (one_alike l)
      ∙ ap (λ (x : List V). map put (told_one_wakes l) ++ x) (more_wakes n (told_one l))
      ∙ sym (map-append put (told_one_wakes l) (told_more_wakes n (told_one l)))

  tags_alike : (es : List (Key × Option W)) → ◌≡◌ {0} {A = List (Unit {0})} (map (λ w. tt) (by put es)) (map (λ w. tt) es)
  tags_alike [] = refl
  tags_alike (e ∷ es) = ap (λ (xs : List (Unit {0})). tt ∷ xs) (tags_alike es)

  pub all_alike : (l : Listeners W) → told_all (listeners_by put l) ≡ listeners_by put (told_all l)
  all_alike l =
      ap (λ (tags : List Unit). record { told = l.told ++ told_with false (by put l.waiting) tags; waiting = [] }) (tags_alike l.waiting)
      ∙ ap (λ (xs : List (Key × Notice Unit)). record { told = l.told ++ xs; waiting = [] }) (told_by put false l.waiting (map (λ w. tt) l.waiting))

  pub all_wakes : (l : Listeners W) → told_all_wakes (listeners_by put l) ≡ map put (told_all_wakes l)
  all_wakes l = tasks_by put l.waiting

  pub telling_alike : (telling : Whom) (l : Listeners W) → told_whom telling (listeners_by put l) ≡ listeners_by put (told_whom telling l)
  telling_alike One l = one_alike l
  telling_alike (More n) l = more_alike n l
  telling_alike All l = all_alike l

  pub telling_wakes : (telling : Whom) (l : Listeners W) → told_as_wakes telling (listeners_by put l) ≡ map put (told_as_wakes telling l)
  telling_wakes One l = one_wakes l
  telling_wakes (More n) l = more_wakes n l
  telling_wakes All l = all_wakes l

  -- ---- all lists

  pub list_of : (line : WaitList) (a : WaitLists W) → listeners line (wait_lists_by put a) ≡ listeners_by put (listeners line a)
  list_of Sends a = refl
  list_of line a = refl

  with_list : (line : WaitList) (l : Listeners W) (a : WaitLists W) → with_listeners line (listeners_by put l) (wait_lists_by put a) ≡ wait_lists_by put (with_listeners line l a)
  with_list Sends l a = refl
  with_list line l a = refl

  count_of : (side : Side) (a : WaitLists W) → count side (wait_lists_by put a) ≡ count side a
  count_of Senders a = refl
  count_of Receivers a = refl

  with_number : (side : Side) (n : ℕ) (a : WaitLists W) → with_count side n (wait_lists_by put a) ≡ wait_lists_by put (with_count side n a)
  with_number Senders n a = refl
  with_number Receivers n a = refl

  is_raised_alike : (side : Side) (n : ℕ) (a : WaitLists W) → is_raised side n (wait_lists_by put a) ≡ is_raised side n a
  is_raised_alike Senders n a = refl
  is_raised_alike Receivers n a = refl

  -- ---- who is woken

  module _ {S : Type 0} where
    pub wakes_so : (wakes : S → W → S → Type 0) (s : S) (names : List W) (t : S) → Woken wakes s names t → Woken (WakesSo put wakes) s (map put names) t
    wakes_so wakes s [] t e = e
    wakes_so wakes s (w ∷ ws) t (m, h, more) = (m, (w, refl, h), wakes_so wakes m ws t more)

    pub wakes_for : (wakes : S → V → S → Type 0) (s : S) (names : List W) (t : S) → Woken wakes s (map put names) t → Woken (WakesFor put wakes) s names t
    wakes_for wakes s [] t e = e
    wakes_for wakes s (w ∷ ws) t (m, h, more) = (m, h, wakes_for wakes m ws t more)

module _ {T W V : Type 0} (put : W → V) where
  -- ---- the parts

  abbrev seen : Parts T W → Parts T V
  seen p = parts_by put p

  abbrev with_line : WaitList → Listeners W → Parts T W → Parts T W
  with_line line l p = with_wait_lists (with_listeners line l p.wait_lists) p

  -- one list is another one
  on_list : (line : WaitList) (here : Listeners W → Listeners W) (there : Listeners V → Listeners V) (alike : (l : Listeners W) → there (listeners_by put l) ≡ listeners_by put (here l)) (p : Parts T W)
      → with_wait_lists (with_listeners line (there (listeners line (wait_lists_by put p.wait_lists))) (wait_lists_by put p.wait_lists)) (seen p) ≡ seen (with_line line (here (listeners line p.wait_lists)) p)
  on_list line here there alike p =
      let a = p.wait_lists in
      let one : there (listeners line (wait_lists_by put a)) ≡ listeners_by put (here (listeners line a)) = ap there (list_of put line a) ∙ alike (listeners line a) in
      ap (λ (x : WaitLists V). with_wait_lists x (seen p))
      (ap (λ (l : Listeners V). with_listeners line l (wait_lists_by put a)) one ∙ with_list put line (here (listeners line a)) a)

  whom : (line : WaitList) (here : Listeners W → List W) (there : Listeners V → List V) (alike : (l : Listeners W) → there (listeners_by put l) ≡ map put (here l)) (p : Parts T W)
      → there (listeners line (wait_lists_by put p.wait_lists)) ≡ map put (here (listeners line p.wait_lists))
  whom line here there alike p = ap there (list_of put line p.wait_lists) ∙ alike (listeners line p.wait_lists)

  kind_so : (line : WaitList) (key : Key) (p : Parts T W) → kind_of (listeners line (wait_lists_by put p.wait_lists)) key ≡ kind_of (listeners line p.wait_lists) key
  kind_so line key p = ap (λ (l : Listeners V). kind_of l key) (list_of put line p.wait_lists) ∙ kind_by put key (listeners line p.wait_lists)

  waits_so : (line : WaitList) (key : Key) (p : Parts T W) → waits key (listeners line (wait_lists_by put p.wait_lists)) ≡ waits key (listeners line p.wait_lists)
  waits_so line key p = ap (λ (l : Listeners V). waits key l) (list_of put line p.wait_lists) ∙ ap (λ (o : Option Bool). elim o [ Some was ↦ not was | None ↦ false ]) (kind_by put key (listeners line p.wait_lists))

  -- ---- what a deed does, with others put for the tasks

  list_so : (line : WaitList) (here : Listeners W → Listeners W) (there : Listeners V → Listeners V) (alike : (l : Listeners W) → there (listeners_by put l) ≡ listeners_by put (here l)) (p q : Parts T W)
      → OnList line (here (listeners line p.wait_lists)) p q → OnList line (there (listeners line (wait_lists_by put p.wait_lists))) (seen p) (seen q)
  list_so line here there alike p q is = ap seen is ∙ sym (on_list line here there alike p)

  told_so : (line : WaitList) (here : Listeners W → List W) (there : Listeners V → List V) (alike : (l : Listeners W) → there (listeners_by put l) ≡ map put (here l)) (p : Parts T W) (names : List W)
      → names ≡ here (listeners line p.wait_lists) → map put names ≡ there (listeners line (wait_lists_by put p.wait_lists))
  told_so line here there alike p names is = ap (λ (x : List W). map put x) is ∙ sym (whom line here there alike p)

  registers_so : (line : WaitList) (key : Key) (task : W) (r : Option W) (p : Parts T W) → Registers (listeners line p.wait_lists) key task r
      → Registers (listeners line (wait_lists_by put p.wait_lists)) key (put task) (option_map put r)
  registers_so line key task None p h = waits_so line key p ∙ h
  registers_so line key task (Some w) p (is, h) = (ap put is, waits_so line key p ∙ h)

  number_so : (side : Side) (n : ℕ) (p q : Parts T W) → q ≡ with_wait_lists (with_count side n p.wait_lists) p → seen q ≡ with_wait_lists (with_count side n (wait_lists_by put p.wait_lists)) (seen p)
  number_so side n p q is = ap seen is ∙ ap (λ (a : WaitLists V). with_wait_lists a (seen p)) (sym (with_number put side n p.wait_lists))

  raised_so : (side : Side) (n : ℕ) (b : Bool) (p q : Parts T W) → q ≡ (if b then with_wait_lists (with_count side n p.wait_lists) p else p)
      → seen q ≡ (if b then with_wait_lists (with_count side n (wait_lists_by put p.wait_lists)) (seen p) else seen p)
  raised_so side n true p q is = number_so side n p q is
  raised_so side n false p q is = ap seen is

  pub does_so : (d : Deed T W) (p q : Parts T W) → Does d p q → Does (deed_by put d) (seen p) (seen q)
  does_so (stepped call after r) p q (h, same) = (h, ap (λ (a : WaitLists W). wait_lists_by put a) same)
  does_so (inserted line (Ok key)) p q (none, is) = (kind_so line key p ∙ none, list_so line (listened key) (listened key) (listened_by put key) p q is)
  does_so (inserted line (Err e)) p q is = ap seen is
  does_so (registered line key task r) p q (how, is) = (registers_so line key task r p how, list_so line (registration key task) (registration key (put task)) (registration_by put key task) p q is)
  does_so (taken_off line key names) p q (whom, is) =
      (told_so line (removed_wakes key true) (removed_wakes key true) (removed_wakes_by put key) p names whom, list_so line (removed key true) (removed key true) (removed_by put key) p q is)
  does_so (told line telling names) p q (whom, is) =
      (told_so line (told_as_wakes telling) (told_as_wakes telling) (telling_wakes put telling) p names whom, list_so line (told_whom telling) (told_whom telling) (telling_alike put telling) p q is)
  does_so (counted side n) p q (is, same) = (is ∙ sym (count_of put side p.wait_lists), ap seen same)
  does_so (lowered side n) p q (is, now) = (is ∙ sym (count_of put side p.wait_lists), number_so side (n - 1) p q now)
  does_so (raised side n b) p q (is, now) = (is ∙ sym (is_raised_alike put side n p.wait_lists), raised_so side (n + 1) b p q now)

  whom_woke : (d : Deed T W) → woken_by (deed_by put d) ≡ map put (woken_by d)
  whom_woke (taken_off line key names) = refl
  whom_woke _ = refl

  module _ {S : Type 0} (wakes : S → W → S → Type 0) where
    pub done_so : (d : Deed T W) (p q : Parts T W × S) → Done Does wakes d p q → Done Does (WakesSo put wakes) (deed_by put d) (seen p.0, p.1) (seen q.0, q.1)
    done_so d p q (h, woke) =
        (does_so d p.0 q.0 h, subst (λ (names : List V). Woken (WakesSo put wakes) p.1 names q.1) (sym (whom_woke d)) (wakes_so put wakes p.1 (woken_by d) q.1 woke))

  -- ---- what a deed did, for which these tasks were put

  -- a listing, with these woken
  pub record ToldBefore (line : WaitList) (here : Listeners W → Listeners W) (woke : Listeners W → List W) (p : Parts T W) (names : List V) (q : Parts T V) : Type 0 where
    pub names_before : List W
    pub were : map put names_before ≡ names
    pub parts : Parts T W
    pub left : seen parts ≡ q
    pub told : names_before ≡ woke (listeners line p.wait_lists)
    pub on_it : OnList line (here (listeners line p.wait_lists)) p parts

  pub told_before : (line : WaitList) (here : Listeners W → Listeners W) (there : Listeners V → Listeners V) (alike : (l : Listeners W) → there (listeners_by put l) ≡ listeners_by put (here l))
      (woke : Listeners W → List W) (woken : Listeners V → List V) (woke_alike : (l : Listeners W) → woken (listeners_by put l) ≡ map put (woke l))
      (p : Parts T W) (names : List V) (q : Parts T V)
      → names ≡ woken (listeners line (wait_lists_by put p.wait_lists)) → OnList line (there (listeners line (wait_lists_by put p.wait_lists))) (seen p) q → ToldBefore line here woke p names q
  told_before line here there alike woke woken woke_alike p names q tells is =
      record {
        names_before = woke (listeners line p.wait_lists);
        were = sym (tells ∙ whom line woke woken woke_alike p);
        parts = with_line line (here (listeners line p.wait_lists)) p;
        left = sym (is ∙ on_list line here there alike p);
        told = refl;
        on_it = refl;
      }

  -- a listener that came
  pub inserted_before : (line : WaitList) (r : Result Key ListenError) (p : Parts T W) (q : Parts T V) → Does (inserted line r) (seen p) q → (x : Parts T W) × (seen x ≡ q) × Does (inserted line r) p x
  inserted_before line (Ok key) p q (none, is) =
      (with_line line (listened key (listeners line p.wait_lists)) p, sym (is ∙ on_list line (listened key) (listened key) (listened_by put key) p), (sym (kind_so line key p) ∙ none, refl))
  inserted_before line (Err e) p q is = (p, sym is, refl)

  -- a task that came to a listener: that of a told one comes back
  pub registered_before : (line : WaitList) (key : Key) (task : W) (r : Option V) (p : Parts T W) (q : Parts T V) → Does (registered line key (put task) r) (seen p) q
      → (o : Option W) × (option_map put o ≡ r) × (x : Parts T W) × (seen x ≡ q) × Does (registered line key task o) p x
  registered_before line key task None p q (how, is) = (
    None,
    refl,
    with_line line (registration key task (listeners line p.wait_lists)) p,
    sym (is ∙ on_list line (registration key task) (registration key (put task)) (registration_by put key task) p),
    (sym (waits_so line key p) ∙ how, refl),
  )
  registered_before line key task (Some v) p q ((same, how), is) = (
    Some task,
    ap (λ (x : V). Some x) (sym same),
    with_line line (registration key task (listeners line p.wait_lists)) p,
    sym (is ∙ on_list line (registration key task) (registration key (put task)) (registration_by put key task) p),
    ((refl, sym (waits_so line key p) ∙ how), refl),
  )

  -- a count
  pub counted_before : (side : Side) (n : ℕ) (p : Parts T W) (q : Parts T V) → Does (counted side n) (seen p) q → (x : Parts T W) × (seen x ≡ q) × Does (counted side n) p x
  counted_before side n p q (is, same) = (p, sym same, (is ∙ count_of put side p.wait_lists, refl))

  pub lowered_before : (side : Side) (n : ℕ) (p : Parts T W) (q : Parts T V) → Does (lowered side n) (seen p) q → (x : Parts T W) × (seen x ≡ q) × Does (lowered side n) p x
  lowered_before side n p q (is, now) =
      let x = with_wait_lists (with_count side (n - 1) p.wait_lists) p in
      (x, number_so side (n - 1) p x refl ∙ sym now, (is ∙ count_of put side p.wait_lists, refl))

  pub raised_before : (side : Side) (n : ℕ) (b : Bool) (p : Parts T W) (q : Parts T V) → Does (raised side n b) (seen p) q → (x : Parts T W) × (seen x ≡ q) × Does (raised side n b) p x
  raised_before side n b p q (is, now) =
      let x = if b then with_wait_lists (with_count side (n + 1) p.wait_lists) p else p in
      (x, raised_so side (n + 1) b p x refl ∙ sym now, (is ∙ is_raised_alike put side n p.wait_lists, refl))

  -- a step of the queue
  pub stepped_before : (p : Parts T W) (q : Parts T V) → q.wait_lists ≡ wait_lists_by put p.wait_lists → seen (record { cells = q.cells; wait_lists = p.wait_lists }) ≡ q
  stepped_before p q same = ap (λ (a : WaitLists V). record { cells = q.cells; wait_lists = a }) (sym same)
