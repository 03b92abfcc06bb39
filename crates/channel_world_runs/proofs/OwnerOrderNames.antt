-- Names in the order of waking: which have a place, which were woken, and that none was woken twice.
use Rattle.std.specs.Prelude.{◌≡◌, ◌||◌, if◌then◌else◌, ◌∷◌, ◌++◌, ◌⊎◌}
use Rattle.channel_world_runs.proofs.Words.{Bool, true, false, List, [], Option, None, Some, inl, inr, refl, sym, ap, ◌∙◌, subst, Key, same_waiter, is_among, without_waiter, Waiter, Op, Stream, or_right, decided, left_among, none_left, same_refl, same_sound, or_true, is_name_pending, WakeOrder, placed, without_place, all_woken, kept_place, order_settled, IsAmong, NoneTwice, subject, NameTable, OnReturn}
use Rattle.channel_world_runs.proofs.OwnerLists.{among_left, among_right, among_of, none_more}
use Rattle.channel_world_runs.proofs.OwnerNames.{waiter_or}

-- the test and what it tests
pub among_is : (w : Waiter) (ws : List Waiter) → is_among w ws ≡ true → IsAmong w ws
among_is w [] e = absurd (let no : false ≡ true = e in cc)
among_is w (v ∷ ws) e = by (or_true (same_waiter w v) (is_among w ws) e) (among_is w ws)
  where
    by : (same_waiter w v ≡ true) ⊎ (is_among w ws ≡ true) → (is_among w ws ≡ true → IsAmong w ws) → IsAmong w (v ∷ ws)
    by (inl same) on = inl (sym (same_sound w v same))
    by (inr more) on = inr (on more)

pub is_there : (w : Waiter) (ws : List Waiter) → IsAmong w ws → is_among w ws ≡ true
is_there w [] i = absurd i
is_there w (v ∷ ws) (inl e) =
    ap (λ (b : Bool). b || is_among w ws) (ap (λ (x : Waiter). same_waiter w x) e ∙ same_refl w)
is_there w (v ∷ ws) (inr i) = or_right (same_waiter w v) (is_among w ws) (is_there w ws i)

-- ---- one is taken out

pub was_among : (w v : Waiter) (ws : List Waiter) → IsAmong v (without_waiter w ws) → IsAmong v ws
was_among w v ws i = among_is v ws (left_among w v ws (is_there v (without_waiter w ws) i)).0

pub is_out : (w : Waiter) (ws : List Waiter) → IsAmong w (without_waiter w ws) → ⊥
is_out w ws i = cc (sym (none_left w ws) ∙ is_there w (without_waiter w ws) i)

pub stays_among : (w v : Waiter) (ws : List Waiter) → (v ≡ w → ⊥) → IsAmong v ws → IsAmong v (without_waiter w ws)
stays_among w v [] other i = i
stays_among w v (x ∷ ws) other i = elim (decided (same_waiter w x)) [
  | inl t ↦ rw t (elim i [ inl same ↦ absurd (other (sym same ∙ sym (same_sound w x t))) | inr j ↦ stays_among w v ws other j ])
  | inr t ↦ rw t (elim i [ inl same ↦ inl same | inr j ↦ inr (stays_among w v ws other j) ])
]

pub once_without : (w : Waiter) (ws : List Waiter) → NoneTwice ws → NoneTwice (without_waiter w ws)
once_without w [] h = h
once_without w (x ∷ ws) h = elim (decided (same_waiter w x)) [
  | inl t ↦ rw t (once_without w ws h.1)
  | inr t ↦ rw t (λ i. h.0 (was_among w x ws i), once_without w ws h.1)
]

-- ---- one comes last

pub in_last : (w v : Waiter) (ws : List Waiter) → IsAmong v ws → IsAmong v (without_waiter w ws ++ w ∷ [])
in_last w v ws i = by (waiter_or v w)
  where
    by : (v ≡ w) ⊎ (v ≡ w → ⊥) → IsAmong v (without_waiter w ws ++ w ∷ [])
    by (inl same) = among_right v (without_waiter w ws) (w ∷ []) (inl (sym same))
    by (inr other) = among_left v (without_waiter w ws) (w ∷ []) (stays_among w v ws other i)

once_last : (w : Waiter) (ws : List Waiter) → NoneTwice ws → NoneTwice (without_waiter w ws ++ w ∷ [])
once_last w ws h = none_more w (without_waiter w ws) (is_out w ws) (once_without w ws h)

-- ---- wakes, by whether each is pending and has a place

abbrev pub next : Bool → Bool → Waiter → WakeOrder → WakeOrder
next p b w o =
    if p then (if b then record { places = without_waiter w o.places ++ w ∷ []; woken = without_waiter w o.woken ++ w ∷ [] } else o) else o

next_places : (p b : Bool) (w v : Waiter) (o : WakeOrder) → IsAmong v o.places → IsAmong v (next p b w o).places
next_places true true w v o i = in_last w v o.places i
next_places true false w v o i = i
next_places false b w v o i = i

next_stays : (p b : Bool) (w v : Waiter) (o : WakeOrder) → IsAmong v o.woken → IsAmong v (next p b w o).woken
next_stays true true w v o i = in_last w v o.woken i
next_stays true false w v o i = i
next_stays false b w v o i = i

next_comes : (p b : Bool) (w v : Waiter) (o : WakeOrder) → IsAmong v (next p b w o).woken → IsAmong v o.woken ⊎ ((w ≡ v) × (p ≡ true))
next_comes true true w v o i = by (among_of v (without_waiter w o.woken) (w ∷ []) i)
  where
    by : IsAmong v (without_waiter w o.woken) ⊎ IsAmong v (w ∷ []) → IsAmong v o.woken ⊎ ((w ≡ v) × (true ≡ true))
    by (inl j) = inl (was_among w v o.woken j)
    by (inr (inl e)) = inr (e, refl)
    by (inr (inr j)) = absurd j
next_comes true false w v o i = inl i
next_comes false b w v o i = inl i

next_there : (p b : Bool) (w : Waiter) (o : WakeOrder) → p ≡ true → b ≡ true → IsAmong w (next p b w o).woken
next_there true true w o e f = among_right w (without_waiter w o.woken) (w ∷ []) (inl refl)
next_there true false w o e f = absurd (let no : false ≡ true = f in cc)
next_there false b w o e f = absurd (let no : false ≡ true = e in cc)

next_once : (p b : Bool) (w : Waiter) (o : WakeOrder) → NoneTwice o.woken → NoneTwice (next p b w o).woken
next_once true true w o h = once_last w o.woken h
next_once true false w o h = h
next_once false b w o h = h

module _ {T : Type 0} (r : NameTable T) where
  abbrev woke : Waiter → WakeOrder → WakeOrder
  woke w o = next (is_name_pending r w) (is_among w o.places) w o

  -- each that has a place keeps it, and each that was woken stays so
  pub all_placed : (names : List Waiter) (v : Waiter) (o : WakeOrder) → IsAmong v o.places → IsAmong v (all_woken r names o).places
  all_placed [] v o i = i
  all_placed (n ∷ names) v o i = all_placed names v (woke n o) (next_places (is_name_pending r n) (is_among n o.places) n v o i)

  pub all_stay : (names : List Waiter) (v : Waiter) (o : WakeOrder) → IsAmong v o.woken → IsAmong v (all_woken r names o).woken
  all_stay [] v o i = i
  all_stay (n ∷ names) v o i = all_stay names v (woke n o) (next_stays (is_name_pending r n) (is_among n o.places) n v o i)

  -- each that comes is named and pending,
  pub all_come : (names : List Waiter) (v : Waiter) (o : WakeOrder) → IsAmong v (all_woken r names o).woken
      → IsAmong v o.woken ⊎ (IsAmong v names × (is_name_pending r v ≡ true))
  all_come [] v o i = inl i
  all_come (n ∷ names) v o i = by (all_come names v (woke n o) i)
    where
      first : IsAmong v o.woken ⊎ ((n ≡ v) × (is_name_pending r n ≡ true)) → IsAmong v o.woken ⊎ (IsAmong v (n ∷ names) × (is_name_pending r v ≡ true))
      first (inl j) = inl j
      first (inr (e, p)) = inr (inl e, subst (λ (x : Waiter). is_name_pending r x ≡ true) e p)

      by : IsAmong v (woke n o).woken ⊎ (IsAmong v names × (is_name_pending r v ≡ true))
          → IsAmong v o.woken ⊎ (IsAmong v (n ∷ names) × (is_name_pending r v ≡ true))
      by (inl j) = first (next_comes (is_name_pending r n) (is_among n o.places) n v o j)
      by (inr (j, p)) = inr (inr j, p)

  -- and each that is named, pending and has a place comes
  pub all_there : (names : List Waiter) (v : Waiter) (o : WakeOrder) → IsAmong v names → is_name_pending r v ≡ true → IsAmong v o.places
      → IsAmong v (all_woken r names o).woken
  all_there [] v o i p k = absurd i
  all_there (n ∷ names) v o (inl same) p k =
      let pends : is_name_pending r n ≡ true = ap (is_name_pending r) same ∙ p in
      let place = is_there n o.places (subst (λ (x : Waiter). IsAmong x o.places) (sym same) k) in
      all_stay names v (woke n o)
      (subst (λ (x : Waiter). IsAmong x (woke n o).woken) same (next_there (is_name_pending r n) (is_among n o.places) n o pends place))
  all_there (n ∷ names) v o (inr i) p k =
      all_there names v (woke n o) i p (next_places (is_name_pending r n) (is_among n o.places) n v o k)

  pub all_once : (names : List Waiter) (o : WakeOrder) → NoneTwice o.woken → NoneTwice (all_woken r names o).woken
  all_once [] o h = h
  all_once (n ∷ names) o h = all_once names (woke n o) (next_once (is_name_pending r n) (is_among n o.places) n o h)

-- ---- after a call that ends

kept_places : (key : Option Key) (w v : Waiter) (o : WakeOrder) → (v ≡ w → ⊥) → IsAmong v o.places → IsAmong v (kept_place w key o).places
kept_places None w v o other i = stays_among w v o.places other i
kept_places (Some key) w v o other i = i

kept_woken : (key : Option Key) (w v : Waiter) (o : WakeOrder) → (v ≡ w → ⊥) → IsAmong v o.woken → IsAmong v (kept_place w key o).woken
kept_woken None w v o other i = stays_among w v o.woken other i
kept_woken (Some key) w v o other i = i

kept_back : (key : Option Key) (w v : Waiter) (o : WakeOrder) → IsAmong v (kept_place w key o).woken → IsAmong v o.woken
kept_back None w v o i = was_among w v o.woken i
kept_back (Some key) w v o i = i

kept_once : (key : Option Key) (w : Waiter) (o : WakeOrder) → NoneTwice o.woken → NoneTwice (kept_place w key o).woken
kept_once None w o h = once_without w o.woken h
kept_once (Some key) w o h = h

apart_from : (v w : Waiter) → (let o : Option Waiter = Some w in o ≡ Some v → ⊥) → v ≡ w → ⊥
apart_from v w other same = other (ap (λ (x : Waiter). let o : Option Waiter = Some x in o) (sym same))

module _ {T : Type 0} where
  pub settled_places : (e : OnReturn T) (key : Option Key) (v : Waiter) (o : WakeOrder) → (subject e ≡ Some v → ⊥) → IsAmong v o.places
      → IsAmong v (order_settled e key o).places
  settled_places (OnReturn.Poll op) key v o other i = kept_places key (Op op) v o (apart_from v (Op op) other) i
  settled_places (OnReturn.PollNext receiver) key v o other i = kept_places key (Stream receiver) v o (apart_from v (Stream receiver) other) i
  settled_places e key v o other i = i

  -- with a listener left, each that has a place keeps it
  pub settled_keeps : (e : OnReturn T) (key : Key) (v : Waiter) (o : WakeOrder) → IsAmong v o.places → IsAmong v (order_settled e (Some key) o).places
  settled_keeps (OnReturn.Poll op) key v o i = i
  settled_keeps (OnReturn.PollNext receiver) key v o i = i
  settled_keeps e key v o i = i

  pub settled_woken : (e : OnReturn T) (key : Option Key) (v : Waiter) (o : WakeOrder) → (subject e ≡ Some v → ⊥) → IsAmong v o.woken
      → IsAmong v (order_settled e key o).woken
  settled_woken (OnReturn.Poll op) key v o other i = kept_woken key (Op op) v o (apart_from v (Op op) other) i
  settled_woken (OnReturn.PollNext receiver) key v o other i = kept_woken key (Stream receiver) v o (apart_from v (Stream receiver) other) i
  settled_woken e key v o other i = i

  pub settled_back : (e : OnReturn T) (key : Option Key) (v : Waiter) (o : WakeOrder) → IsAmong v (order_settled e key o).woken → IsAmong v o.woken
  settled_back (OnReturn.Poll op) key v o i = kept_back key (Op op) v o i
  settled_back (OnReturn.PollNext receiver) key v o i = kept_back key (Stream receiver) v o i
  settled_back e key v o i = i

  pub settled_once : (e : OnReturn T) (key : Option Key) (o : WakeOrder) → NoneTwice o.woken → NoneTwice (order_settled e key o).woken
  settled_once (OnReturn.Poll op) key o h = kept_once key (Op op) o h
  settled_once (OnReturn.PollNext receiver) key o h = kept_once key (Stream receiver) o h
  settled_once e key o h = h

-- ---- as a call begins

-- what becomes of the order for any other than this name
pub record Begins (w : Waiter) (o o' : WakeOrder) : Type 0 where
  pub places : (v : Waiter) → (v ≡ w → ⊥) → IsAmong v o.places → IsAmong v o'.places
  pub stays : (v : Waiter) → (v ≡ w → ⊥) → IsAmong v o.woken → IsAmong v o'.woken
  pub back : (v : Waiter) → IsAmong v o'.woken → IsAmong v o.woken
  pub once : NoneTwice o.woken → NoneTwice o'.woken

pub begins_same : (w : Waiter) (o : WakeOrder) → Begins w o o
begins_same w o = record { places = λ v other i. i; stays = λ v other i. i; back = λ v i. i; once = λ h. h }

pub begins_placed : (w : Waiter) (o : WakeOrder) → Begins w o (placed w o)
begins_placed w o = record {
  places = λ v other i. inr (stays_among w v o.places other i);
  stays = λ v other i. stays_among w v o.woken other i;
  back = λ v i. was_among w v o.woken i;
  once = λ h. once_without w o.woken h;
}

pub begins_removed : (w : Waiter) (o : WakeOrder) → Begins w o (without_place w o)
begins_removed w o = record {
  places = λ v other i. stays_among w v o.places other i;
  stays = λ v other i. stays_among w v o.woken other i;
  back = λ v i. was_among w v o.woken i;
  once = λ h. once_without w o.woken h;
}
