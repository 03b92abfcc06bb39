-- Other tasks put for those of a list: each call does to it what it did, and wakes whom it woke.
use Rattle.std.proofs.Common.{◌≡◌, ℕ, min, ◌-◌, Bool, true, false, cond, if◌then◌else◌, List, [], ◌∷◌, ◌++◌, map, length, take, drop, Option, None, Some, is_some, option_map, refl, sym, ap, ◌∙◌}
use Rattle.std.proofs.lemmas.List.{map-append, length-map, take-map, drop-map}
use Rattle.std.specs.Map.{lookup, remove_entry, set_value}
use Rattle.channel_steps.proofs.every_run.Words.{Notice, told_as, waits_as, kind_of, same_key, listened, without, with_task, told_with, moved, passed, registration, removed, removed_wakes, Key, Lists, notified, passed_wakes, tasks_of, listener_by}

module _ {W V : Type 0} (put : W → V) where
  -- ---- a list of waiting listeners

  abbrev pub by : List (Key × Option W) → List (Key × Option V)
  by es = map (listener_by put) es

  is_some_by : (o : Option (Option W)) → is_some (option_map (option_map put) o) ≡ is_some o
  is_some_by None = refl
  is_some_by (Some w) = refl

  pub tasks_by : (es : List (Key × Option W)) → tasks_of (by es) ≡ map put (tasks_of es)
  tasks_by [] = refl
  tasks_by ((k, None) ∷ es) = tasks_by es
  tasks_by ((k, Some w) ∷ es) = ap (λ (vs : List V). put w ∷ vs) (tasks_by es)

  module _ (test : Key → Bool) where
    lookup_by : (es : List (Key × Option W)) → lookup test (by es) ≡ option_map (option_map put) (lookup test es)
    lookup_by [] = refl
    lookup_by (e ∷ es) = at (lookup_by es) (test e.0) where
      at : lookup test (by es) ≡ option_map (option_map put) (lookup test es)
          → (b : Bool) → cond b (Some (option_map put e.1)) (lookup test (by es)) ≡ option_map (option_map put) (cond b (Some e.1) (lookup test es))
      at more true = refl
      at more false = more

    remove_by : (es : List (Key × Option W)) → remove_entry test (by es) ≡ by (remove_entry test es)
    remove_by [] = refl
    remove_by (e ∷ es) = at (remove_by es) (test e.0) where
      at : remove_entry test (by es) ≡ by (remove_entry test es)
          → (b : Bool) → cond b (by es) (listener_by put e ∷ remove_entry test (by es)) ≡ by (cond b es (e ∷ remove_entry test es))
      at more true = refl
      at more false = ap (λ (xs : List (Key × Option V)). listener_by put e ∷ xs) more

    set_by : (es : List (Key × Option W)) (w : W) → set_value test (by es) (Some (put w)) ≡ by (set_value test es (Some w))
    set_by [] w = refl
    set_by (e ∷ es) w = at (set_by es w) (test e.0) where
      at : set_value test (by es) (Some (put w)) ≡ by (set_value test es (Some w))
          → (b : Bool) → cond b ((e.0, Some (put w)) ∷ by es) (listener_by put e ∷ set_value test (by es) (Some (put w))) ≡ by (cond b ((e.0, Some w) ∷ es) (e ∷ set_value test es (Some w)))
      at more true = refl
      at more false = ap (λ (xs : List (Key × Option V)). listener_by put e ∷ xs) more

  module _ {A : Type 0} where
    pub told_by : (additional : Bool) (es : List (Key × Option W)) (tags : List A) → told_with additional (by es) tags ≡ told_with additional es tags
    told_by additional [] tags = refl
    told_by additional (e ∷ es) [] = refl
    told_by additional (e ∷ es) (t ∷ ts) = ap (λ (xs : List (Key × Notice A)). (e.0, record { additional = additional; tag = t }) ∷ xs) (told_by additional es ts)

    -- ---- the two lists

    abbrev pub lists_by : Lists A W → Lists A V
    lists_by l = record { told = l.told; waiting = by l.waiting }

    pub waits_by : (key : Key) (l : Lists A W) → is_some (waits_as (lists_by l) key) ≡ is_some (waits_as l key)
    waits_by key l = ap (λ (o : Option (Option V)). is_some o) (lookup_by (same_key key) l.waiting) ∙ is_some_by (waits_as l key)

    pub kind_by : (key : Key) (l : Lists A W) → kind_of (lists_by l) key ≡ kind_of l key
    kind_by key l = ap (λ (b : Bool). if is_some (told_as l key) then Some true else (if b then Some false else None)) (waits_by key l)

    pub listened_by : (key : Key) (l : Lists A W) → listened key (lists_by l) ≡ lists_by (listened key l)
    listened_by key l = ap (λ (es : List (Key × Option V)). record { told = l.told; waiting = es }) (sym (map-append (listener_by put) l.waiting ((key, None) ∷ [])))

    pub without_by : (key : Key) (l : Lists A W) → without key (lists_by l) ≡ lists_by (without key l)
    without_by key l =
        ap (λ (es : List (Key × Option V)). record { told = remove_entry (same_key key) l.told; waiting = es }) (remove_by (same_key key) l.waiting)

    pub task_by : (key : Key) (w : W) (l : Lists A W) → with_task key (put w) (lists_by l) ≡ lists_by (with_task key w l)
    task_by key w l = ap (λ (es : List (Key × Option V)). record { told = l.told; waiting = es }) (set_by (same_key key) l.waiting w)

    pub registration_by : (key : Key) (w : W) (l : Lists A W) → registration key (put w) (lists_by l) ≡ lists_by (registration key w l)
    registration_by key w l =
        ap (λ (b : Bool). if is_some (told_as l key) then without key (lists_by l) else (if b then with_task key (put w) (lists_by l) else lists_by l)) (waits_by key l)
        ∙ at (is_some (told_as l key)) (is_some (waits_as l key))
      where
        at : (a b : Bool) → (if a then without key (lists_by l) else (if b then with_task key (put w) (lists_by l) else lists_by l))
            ≡ lists_by (if a then without key l else (if b then with_task key w l else l))
        at true b = without_by key l
        at false true = task_by key w l
        at false false = refl

    pub moved_by : (additional : Bool) (n : ℕ) (l : Lists A W) → moved additional n (lists_by l) ≡ moved additional n l
    moved_by additional n l = ap (λ (k : ℕ). min (if additional then n else n - length l.told) k) (length-map l.waiting (listener_by put))

    pub notified_by : (additional : Bool) (tags : List A) (l : Lists A W) → notified additional tags (lists_by l) ≡ lists_by (notified additional tags l)
    notified_by additional tags l =
        let n = length tags in
        ap (λ (es : List (Key × Option V)). record { told = l.told ++ told_with additional es tags; waiting = drop n (by l.waiting) }) (take-map (listener_by put) n l.waiting)
        ∙ ap (λ (xs : List (Key × Notice A)). record { told = l.told ++ xs; waiting = drop n (by l.waiting) }) (told_by additional (take n l.waiting) tags)
        ∙ ap (λ (es : List (Key × Option V)). record { told = l.told ++ told_with additional (take n l.waiting) tags; waiting = es }) (drop-map (listener_by put) n l.waiting)

    pub passed_by : (notice : Notice A) (l : Lists A W) → passed notice (lists_by l) ≡ lists_by (passed notice l)
    passed_by notice l =
        ap (λ (k : ℕ). notified notice.additional (take k (notice.tag ∷ [])) (lists_by l)) (moved_by notice.additional 1 l)
        ∙ notified_by notice.additional (take (moved notice.additional 1 l) (notice.tag ∷ [])) l

    pub passed_wakes_by : (notice : Notice A) (l : Lists A W) → passed_wakes notice (lists_by l) ≡ map put (passed_wakes notice l)
    passed_wakes_by notice l =
        ap (λ (k : ℕ). tasks_of (take k (by l.waiting))) (moved_by notice.additional 1 l)
        ∙ ap (λ (es : List (Key × Option V)). tasks_of es) (take-map (listener_by put) (moved notice.additional 1 l) l.waiting)
        ∙ tasks_by (take (moved notice.additional 1 l) l.waiting)

    pub removed_by : (key : Key) (l : Lists A W) → removed key true (lists_by l) ≡ lists_by (removed key true l)
    removed_by key l =
        ap (λ (b : Bool). elim (told_as l key) [ Some notice ↦ passed notice (without key (lists_by l)) | None ↦ (if b then without key (lists_by l) else lists_by l) ]) (waits_by key l)
        ∙ at (told_as l key) (is_some (waits_as l key))
      where
        at : (o : Option (Notice A)) (b : Bool) → elim o [ Some notice ↦ passed notice (without key (lists_by l)) | None ↦ (if b then without key (lists_by l) else lists_by l) ]
            ≡ lists_by (elim o [ Some notice ↦ passed notice (without key l) | None ↦ (if b then without key l else l) ])
        at (Some notice) b = ap (λ (x : Lists A V). passed notice x) (without_by key l) ∙ passed_by notice (without key l)
        at None true = without_by key l
        at None false = refl

    pub removed_wakes_by : (key : Key) (l : Lists A W) → removed_wakes key true (lists_by l) ≡ map put (removed_wakes key true l)
    removed_wakes_by key l = at (told_as l key) where
      at : (o : Option (Notice A)) → elim o [ Some notice ↦ passed_wakes notice (without key (lists_by l)) | None ↦ [] ]
          ≡ map put (elim o [ Some notice ↦ passed_wakes notice (without key l) | None ↦ [] ])
      at (Some notice) = ap (λ (x : Lists A V). passed_wakes notice x) (without_by key l) ∙ passed_wakes_by notice (without key l)
      at None = refl
