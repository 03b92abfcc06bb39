-- What keeps everybody awake, whatever the names are: how many messages and free places there are, and who waits.
use Rattle.std.specs.Prelude.{◌≡◌, ◌⊎◌, ◌≤◌, ◌+◌, ◌-◌, ◌∷◌, ◌++◌, if◌then◌else◌}
use Rattle.channel_world_model.proofs.Words.{zero, suc, arith, ℕ, List, [], length, take, drop, Bool, true, false, cond, Option, None, Some, IsSome, refl, sym, ap, subst, ◌∙◌, inl, inr, filter, Waiting, same_waiter, is_among, untold, told_by, after_news, after_rooms, without_waiter, gone, passed_on, at_end, standing, Kind, Enough, times_in, Placed, Awake, same_line, is_line, count_of, free_places, Waiter, WaitList, Sends, Receives, Streams, Closings, News, Nothing, Message, Room, Closing, NextIn, or_right, decided, or_true}
use Rattle.channel_world_model.proofs.Counting.{count_gone, count_news, one_if, count_end, count_append, count_without, count_without_other, times_self, among_counts, absent_counts, among_append, among_drop, among_take, among_self}
use Rattle.channel_world_model.proofs.WaiterLemmas.{same_sound, left_among, untold_gone}

-- ---- lines

pub line_sound : (a b : WaitList) → same_line a b ≡ true → a ≡ b
line_sound Sends Sends e = refl
line_sound Receives Receives e = refl
line_sound Streams Streams e = refl
line_sound Closings Closings e = refl
line_sound a b e = cc e

pub line_refl : (a : WaitList) → same_line a a ≡ true
line_refl Sends = refl
line_refl a = refl

pub enough_less : (k : Kind) (line : WaitList) (m n : ℕ) (l : Waiting) → m ≤ n → Enough k line n l → Enough k line m l
enough_less k line m n l le (inl e) = inl e
enough_less k line m n l le (inr h) = inr (omega (arith, le, h))

-- ---- news

-- what news leave of a line
abbrev Shrinks : List Waiter → List Waiter → Type 0
Shrinks before after = (after ≡ before) ⊎ ((after ≡ drop 1 before) ⊎ (after ≡ []))

next_shrinks : (told line : WaitList) (l : Waiting) → Shrinks (untold line l) (untold line (after_news (NextIn told) l))
next_shrinks Sends Sends l = inr (inl refl)
next_shrinks Receives Receives l = inr (inl refl)
next_shrinks Streams Streams l = inr (inl refl)
next_shrinks Closings Closings l = inr (inl refl)
next_shrinks told line l = inl refl

shrinks : (news : News) (line : WaitList) (l : Waiting) → Shrinks (untold line l) (untold line (after_news news l))
shrinks Message Receives l = inr (inl refl)
shrinks Message Streams l = inr (inr refl)
shrinks Room Sends l = inr (inl refl)
shrinks Closing Sends l = inr (inr refl)
shrinks Closing line l = inr (inr refl)
shrinks (NextIn told) line l = next_shrinks told line l
shrinks Nothing Sends l = inl refl
shrinks news line l = inl refl

among_shrunk : (w : Waiter) (before after : List Waiter) → Shrinks before after → is_among w after ≡ true → is_among w before ≡ true
among_shrunk w before after (inl e) h = subst (λ (xs : List Waiter). is_among w xs ≡ true) e h
among_shrunk w before after (inr (inl e)) h = among_drop w before (subst (λ (xs : List Waiter). is_among w xs ≡ true) e h)
among_shrunk w before after (inr (inr e)) h = cc (subst (λ (xs : List Waiter). is_among w xs ≡ true) e h)

empty_shrunk : (before after : List Waiter) → Shrinks before after → before ≡ [] → after ≡ []
empty_shrunk before after (inl e) h = e ∙ h
empty_shrunk before after (inr (inl e)) h = e ∙ ap (λ (xs : List Waiter). drop 1 xs) h
empty_shrunk before after (inr (inr e)) h = e

pub empty_news : (news : News) (line : WaitList) (l : Waiting) → untold line l ≡ [] → untold line (after_news news l) ≡ []
empty_news news line l e = empty_shrunk (untold line l) (untold line (after_news news l)) (shrinks news line l) e

-- those told stood untold
pub told_stood : (news : News) (w : Waiter) (l : Waiting) → is_among w (told_by news l) ≡ true → (line : WaitList) × (is_among w (untold line l) ≡ true)
told_stood Nothing w l e = cc e
told_stood Message w l e = elim (among_append w (take 1 l.receives) l.streams e) [
  | inl t ↦ (Receives, among_take w l.receives t)
  | inr t ↦ (Streams, t)
]
told_stood Room w l e = (Sends, among_take w l.sends e)
told_stood Closing w l e = elim (among_append w (l.sends ++ l.receives ++ l.streams) l.closings e) [
  | inr t ↦ (Closings, t)
  | inl t ↦ elim (among_append w (l.sends ++ l.receives) l.streams t) [
    | inr u ↦ (Streams, u)
    | inl u ↦ elim (among_append w l.sends l.receives u) [
      | inl v ↦ (Sends, v)
      | inr v ↦ (Receives, v)
    ]
  ]
]
told_stood (NextIn line) w l e = (line, among_take w (untold line l) e)

-- a name stands as often after news as before
pub times_news : (news : News) (w : Waiter) (l : Waiting) → times_in w (after_news news l) ≡ times_in w l
times_news news w l = count_news (same_waiter w) news l

some_kind : (o : Option WaitList) (line : WaitList) → o ≡ Some line → IsSome o
some_kind None line e = cc e
some_kind (Some other) line e = refl

pub placed_news : (k : Kind) (news : News) (l : Waiting) → Placed k l → Placed k (after_news news l)
placed_news k news l p = record {
  lines = λ line w e. p.lines line w (among_shrunk w (untold line l) (untold line (after_news news l)) (shrinks news line l) e);
  wakes = λ w e. elim (among_append w l.woken (told_by news l) e) [
    | inl t ↦ p.wakes w t
    | inr t ↦ let stood = told_stood news w l t in some_kind (k w) stood.0 (p.lines stood.0 w stood.1)
  ];
  once = λ w. omega (arith, times_news news w l, p.once w);
}

pub enough_news : (k : Kind) (news : News) (line : WaitList) (n : ℕ) (l : Waiting) → Enough k line n l → Enough k line n (after_news news l)
enough_news k news line n l (inl e) = inl (empty_news news line l e)
enough_news k news line n l (inr h) = inr (omega (arith, h, count_append (λ (w : Waiter). is_line line (k w)) l.woken (told_by news l)))

-- the first of a line is one of it
first_counts : (k : Kind) (line : WaitList) (xs : List Waiter) → ((w : Waiter) → is_among w xs ≡ true → k w ≡ Some line) → (xs ≡ []) ⊎ (count_of k line (take 1 xs) ≡ 1)
first_counts k line [] h = inl refl
first_counts k line (x ∷ xs) h = inr (rw (h x (among_self x xs)) (rw (line_refl line) refl))

-- where the first of a line is told, one more of it is woken
pub gain_message : (k : Kind) (n m : ℕ) (l : Waiting) → Placed k l → m ≤ n + 1 → Enough k Receives n l → Enough k Receives m (after_news Message l)
gain_message k n m l p le (inl e) = inl (empty_news Message Receives l e)
gain_message k n m l p le (inr h) = elim (first_counts k Receives l.receives (p.lines Receives)) [
  | inl e ↦ inl (empty_news Message Receives l e)
  | inr one ↦ inr (omega (
    arith,
    le,
    h,
    one,
    count_append (λ (w : Waiter). is_line Receives (k w)) l.woken (take 1 l.receives ++ l.streams),
    count_append (λ (w : Waiter). is_line Receives (k w)) (take 1 l.receives) l.streams,
  ))
]

pub gain_room : (k : Kind) (n m : ℕ) (l : Waiting) → Placed k l → m ≤ n + 1 → Enough k Sends n l → Enough k Sends m (after_news Room l)
gain_room k n m l p le (inl e) = inl (empty_news Room Sends l e)
gain_room k n m l p le (inr h) = elim (first_counts k Sends l.sends (p.lines Sends)) [
  | inl e ↦ inl (empty_news Room Sends l e)
  | inr one ↦ inr (omega (arith, le, h, one, count_append (λ (w : Waiter). is_line Sends (k w)) l.woken (take 1 l.sends)))
]

pub gain_next : (k : Kind) (line : WaitList) (n m : ℕ) (l : Waiting) → Placed k l → m ≤ n + 1 → Enough k line n l → Enough k line m (after_news (NextIn line) l)
gain_next k line n m l p le (inl e) = inl (empty_news (NextIn line) line l e)
gain_next k line n m l p le (inr h) = elim (first_counts k line (untold line l) (p.lines line)) [
  | inl e ↦ inl (empty_news (NextIn line) line l e)
  | inr one ↦ inr (omega (arith, le, h, one, count_append (λ (w : Waiter). is_line line (k w)) l.woken (take 1 (untold line l))))
]

-- ---- one that is gone

pub empty_gone : (line : WaitList) (w : Waiter) (l : Waiting) → untold line l ≡ [] → untold line (gone w l) ≡ []
empty_gone line w l e = untold_gone line w l ∙ ap (λ (xs : List Waiter). without_waiter w xs) e

pub times_gone : (v w : Waiter) (l : Waiting) → times_in v (gone w l) ≤ times_in v l
times_gone v w l = count_gone (same_waiter v) w l

pub times_gone_self : (w : Waiter) (l : Waiting) → times_in w (gone w l) ≡ 0
times_gone_self w l = omega (arith, times_self w l.sends, times_self w l.receives, times_self w l.streams, times_self w l.closings, times_self w l.woken)

pub placed_gone : (k : Kind) (w : Waiter) (l : Waiting) → Placed k l → Placed k (gone w l)
placed_gone k w l p = record {
  lines = λ line v e. p.lines line v (left_among w v (untold line l) (subst (λ (xs : List Waiter). is_among v xs ≡ true) (untold_gone line w l) e)).0;
  wakes = λ v e. p.wakes v (left_among w v l.woken e).0;
  once = λ v. omega (arith, times_gone v w l, p.once v);
}

-- one of another line
gone_other : (k : Kind) (line : WaitList) (w : Waiter) (n : ℕ) (l : Waiting) → is_line line (k w) ≡ false → Enough k line n l → Enough k line n (gone w l)
gone_other k line w n l off (inl e) = inl (empty_gone line w l e)
gone_other k line w n l off (inr h) = inr (omega (arith, h, count_without_other (λ (v : Waiter). is_line line (k v)) w off l.woken))

-- one that isn't woken
gone_unwoken : (k : Kind) (line : WaitList) (w : Waiter) (n : ℕ) (l : Waiting) → is_among w l.woken ≡ false → Enough k line n l → Enough k line n (gone w l)
gone_unwoken k line w n l off (inl e) = inl (empty_gone line w l e)
gone_unwoken k line w n l off (inr h) = inr (omega (arith, h, count_without (λ (v : Waiter). is_line line (k v)) w l.woken, absent_counts w l.woken off))

-- anybody: at most one fewer is woken
gone_one : (k : Kind) (line : WaitList) (w : Waiter) (n : ℕ) (l : Waiting) → Placed k l → Enough k line n l → Enough k line (n - 1) (gone w l)
gone_one k line w n l p (inl e) = inl (empty_gone line w l e)
gone_one k line w n l p (inr h) = inr (omega (arith, h, count_without (λ (v : Waiter). is_line line (k v)) w l.woken, p.once w))

-- ---- one that leaves and passes on what it was told

abbrev pub leave : WaitList → Waiter → Waiting → Waiting
leave line w l = after_news (passed_on line w l) (gone w l)

-- one of this line: a woken one wakes the next in its place
leave_same : (k : Kind) (line : WaitList) (w : Waiter) (n : ℕ) (l : Waiting) (news : News) → news ≡ (if is_among w l.woken then NextIn line else Nothing)
    → Placed k l → Enough k line n l → Enough k line n (after_news news (gone w l))
leave_same k line w n l news e p h = elim (decided (is_among w l.woken)) [
  | inl t ↦ rw (e, t) (gain_next k line (n - 1) n (gone w l) (placed_gone k w l p) (omega arith) (gone_one k line w n l p h))
  | inr t ↦ rw (e, t) (enough_news k Nothing line n (gone w l) (gone_unwoken k line w n l t h))
]

leave_other : (k : Kind) (own line : WaitList) (w : Waiter) (n : ℕ) (l : Waiting) → k w ≡ Some own → same_line line own ≡ false → Enough k line n l → Enough k line n (leave own w l)
leave_other k own line w n l e off h =
    let other : is_line line (k w) ≡ false = rw e off in
    enough_news k (passed_on own w l) line n (gone w l) (gone_other k line w n l other h)

leave_receives : (k : Kind) (own : WaitList) (w : Waiter) (n : ℕ) (l : Waiting) → k w ≡ Some own → Placed k l → Enough k Receives n l → Enough k Receives n (leave own w l)
leave_receives k Receives w n l e p h = leave_same k Receives w n l (passed_on Receives w l) refl p h
leave_receives k own w n l e p h = leave_other k own Receives w n l e refl h

leave_sends : (k : Kind) (own : WaitList) (w : Waiter) (n : ℕ) (l : Waiting) → k w ≡ Some own → Placed k l → Enough k Sends n l → Enough k Sends n (leave own w l)
leave_sends k Sends w n l e p h = leave_same k Sends w n l (passed_on Sends w l) refl p h
leave_sends k own w n l e p h = leave_other k own Sends w n l e refl h

empty_leave : (own line : WaitList) (w : Waiter) (l : Waiting) → untold line l ≡ [] → untold line (leave own w l) ≡ []
empty_leave own line w l e = empty_news (passed_on own w l) line (gone w l) (empty_gone line w l e)

keep_streams : (n : ℕ) (before after : List Waiter) → (before ≡ [] → after ≡ []) → (before ≡ []) ⊎ (n ≡ 0) → (after ≡ []) ⊎ (n ≡ 0)
keep_streams n before after h (inl e) = inl (h e)
keep_streams n before after h (inr e) = inr e

-- ---- one that stands at the end of its line

untold_end : (own line : WaitList) (w : Waiter) (l : Waiting) → ((line ≡ own) × (untold line (at_end own w l) ≡ untold own (gone w l) ++ w ∷ [])) ⊎ (untold line (at_end own w l) ≡ untold line (gone w l))
untold_end Sends Sends w l = inl (refl, refl)
untold_end Receives Receives w l = inl (refl, refl)
untold_end Streams Streams w l = inl (refl, refl)
untold_end Closings Closings w l = inl (refl, refl)
untold_end own line w l = inr refl

among_one : (v w : Waiter) → is_among v (w ∷ []) ≡ true → v ≡ w
among_one v w e = elim (or_true (same_waiter v w) false e) [
  | inl t ↦ same_sound v w t
  | inr t ↦ cc t
]

lines_end : (k : Kind) (own line : WaitList) (w v : Waiter) (l : Waiting) → k w ≡ Some own → Placed k l → is_among v (untold line (at_end own w l)) ≡ true → k v ≡ Some line
lines_end k own line w v l e p h = elim (untold_end own line w l) [
  | inr same ↦ (placed_gone k w l p).lines line v (subst (λ (xs : List Waiter). is_among v xs ≡ true) same h)
  | inl here ↦ elim (among_append v (untold own (gone w l)) (w ∷ []) (subst (λ (xs : List Waiter). is_among v xs ≡ true) here.1 h)) [
    | inl t ↦ (placed_gone k w l p).lines own v t ∙ ap (λ (x : WaitList). Some x) (sym here.0)
    | inr t ↦ ap (λ (x : Waiter). k x) (among_one v w t) ∙ (e ∙ ap (λ (x : WaitList). Some x) (sym here.0))
  ]
]

once_end : (own : WaitList) (v w : Waiter) (l : Waiting) → times_in v l ≤ 1 → times_in v (at_end own w l) ≤ 1
once_end own v w l h = elim (decided (same_waiter v w)) [
  | inl t ↦
      let one : one_if (same_waiter v w) ≡ 1 = rw t refl in
      let zero_now : times_in v (gone w l) ≡ 0 = subst (λ (x : Waiter). times_in x (gone w l) ≡ 0) (sym (same_sound v w t)) (times_gone_self w l) in
      omega (arith, count_end (same_waiter v) own w l, one, zero_now)
  | inr t ↦
      let none : one_if (same_waiter v w) ≡ 0 = rw t refl in
      omega (arith, count_end (same_waiter v) own w l, none, times_gone v w l, h)
]

pub woken_end : (own : WaitList) (w : Waiter) (l : Waiting) → (at_end own w l).woken ≡ (gone w l).woken
woken_end Sends w l = refl
woken_end own w l = refl

placed_end : (k : Kind) (own : WaitList) (w : Waiter) (l : Waiting) → k w ≡ Some own → Placed k l → Placed k (at_end own w l)
placed_end k own w l e p = record {
  lines = λ line v h. lines_end k own line w v l e p h;
  wakes = λ v h. (placed_gone k w l p).wakes v (subst (λ (xs : List Waiter). is_among v xs ≡ true) (woken_end own w l) h);
  once = λ v. once_end own v w l (p.once v);
}

chosen_same : (b : Bool) (x : Waiter) (ys zs : List Waiter) → length ys ≡ length zs → length (cond b (x ∷ ys) ys) ≡ length (cond b (x ∷ zs) zs)
chosen_same true x ys zs h = omega (arith, h)
chosen_same false x ys zs h = h

-- ---- the changes of a channel

module _ (k : Kind) (capacity : Option ℕ) where
  pub awake_leave : (closed : Bool) (n : ℕ) (own : WaitList) (w : Waiter) (l : Waiting) → k w ≡ Some own → Awake k capacity closed n l → Awake k capacity closed n (leave own w l)
  awake_leave closed n own w l e a = record {
    placed = placed_news k (passed_on own w l) (gone w l) (placed_gone k w l a.placed);
    receives = leave_receives k own w n l e a.placed a.receives;
    sends = λ o. leave_sends k own w (free_places capacity n) l e a.placed (a.sends o);
    unbounded = λ o. empty_leave own Sends w l (a.unbounded o);
    streams = keep_streams n l.streams (leave own w l).streams (empty_leave own Streams w l) a.streams;
    opened = λ o line. empty_leave own line w l (a.opened o line);
  }

  -- one that belongs to no line leaves nothing behind
  pub awake_leave_spent : (closed : Bool) (n : ℕ) (own : WaitList) (w : Waiter) (l : Waiting) → k w ≡ None → Awake k capacity closed n l → Awake k capacity closed n (leave own w l)
  awake_leave_spent closed n own w l e a = record {
    placed = placed_news k (passed_on own w l) (gone w l) (placed_gone k w l a.placed);
    receives = enough_news k (passed_on own w l) Receives n (gone w l) (gone_other k Receives w n l (rw e refl) a.receives);
    sends = λ o. enough_news k (passed_on own w l) Sends (free_places capacity n) (gone w l) (gone_other k Sends w (free_places capacity n) l (rw e refl) (a.sends o));
    unbounded = λ o. empty_leave own Sends w l (a.unbounded o);
    streams = keep_streams n l.streams (leave own w l).streams (empty_leave own Streams w l) a.streams;
    opened = λ o line. empty_leave own line w l (a.opened o line);
  }

  -- nothing is told
  pub awake_nothing : (closed : Bool) (n : ℕ) (l : Waiting) → Awake k capacity closed n l → Awake k capacity closed n (after_news Nothing l)
  awake_nothing closed n l a = record {
    placed = placed_news k Nothing l a.placed;
    receives = enough_news k Nothing Receives n l a.receives;
    sends = λ o. enough_news k Nothing Sends (free_places capacity n) l (a.sends o);
    unbounded = a.unbounded;
    streams = a.streams;
    opened = λ o line. empty_news Nothing line l (a.opened o line);
  }

  fewer : (o : Option ℕ) (m n : ℕ) → m ≤ n → free_places o n ≤ free_places o m
  fewer None m n h = omega arith
  fewer (Some c) m n h = omega (arith, h)

  one_fewer : (o : Option ℕ) (m n : ℕ) → n ≤ m + 1 → free_places o m ≤ free_places o n + 1
  one_fewer None m n h = omega arith
  one_fewer (Some c) m n h = omega (arith, h)

  -- a message came, perhaps in the place of an older one
  pub awake_message : (closed : Bool) (n m : ℕ) (l : Waiting) → n ≤ m → m ≤ n + 1 → Awake k capacity closed n l → Awake k capacity closed m (after_news Message l)
  awake_message closed n m l up le a = record {
    placed = placed_news k Message l a.placed;
    receives = gain_message k n m l a.placed le a.receives;
    sends = λ o. enough_less k Sends (free_places capacity m) (free_places capacity n) (after_news Message l) (fewer capacity n m up) (enough_news k Message Sends (free_places capacity n) l (a.sends o));
    unbounded = a.unbounded;
    streams = inl refl;
    opened = λ o line. empty_news Message line l (a.opened o line);
  }

  less_streams : (n m : ℕ) (ws : List Waiter) → n ≡ m + 1 → (ws ≡ []) ⊎ (n ≡ 0) → (ws ≡ []) ⊎ (m ≡ 0)
  less_streams n m ws e (inl h) = inl h
  less_streams n m ws e (inr h) = absurd (omega (arith, e, h))

  -- a message was taken
  pub awake_room : (closed : Bool) (n m : ℕ) (l : Waiting) → n ≡ m + 1 → Awake k capacity closed n l → Awake k capacity closed m (after_news Room l)
  awake_room closed n m l e a = record {
    placed = placed_news k Room l a.placed;
    receives = enough_less k Receives m n (after_news Room l) (omega (arith, e)) (enough_news k Room Receives n l a.receives);
    sends = λ o. gain_room k (free_places capacity n) (free_places capacity m) l a.placed (one_fewer capacity m n (omega (arith, e))) (a.sends o);
    unbounded = λ o. empty_news Room Sends l (a.unbounded o);
    streams = less_streams n m l.streams e a.streams;
    opened = λ o line. empty_news Room line l (a.opened o line);
  }

  -- several were, at once
  pub awake_rooms : (closed : Bool) (i n m : ℕ) (l : Waiting) → n ≡ m + i → Awake k capacity closed n l → Awake k capacity closed m (after_rooms i l)
  awake_rooms closed zero n m l e a = let same : n ≡ m = omega (arith, e) in subst (λ (j : ℕ). Awake k capacity closed j l) same a
  awake_rooms closed (suc i) n m l e a =
      awake_rooms closed i (m + i) m (after_news Room l) refl (awake_room closed n (m + i) l (omega (arith, e)) a)

  all_empty : (line : WaitList) (l : Waiting) → untold line (after_news Closing l) ≡ []
  all_empty Sends l = refl
  all_empty line l = refl

  -- the channel was closed
  pub awake_closing : (closed : Bool) (n : ℕ) (l : Waiting) → Awake k capacity closed n l → Awake k capacity true n (after_news Closing l)
  awake_closing closed n l a = record {
    placed = placed_news k Closing l a.placed;
    receives = inl refl;
    sends = λ o. inl refl;
    unbounded = λ o. refl;
    streams = inl refl;
    opened = λ o line. all_empty line l;
  }

  -- when one of this line may stand, or be out of it, without a notification being passed on
  abbrev pub Idle : WaitList → ℕ → Type 0
  Idle Sends n = (free_places capacity n ≡ 0) × (capacity ≡ None → ⊥)
  Idle Receives n = n ≡ 0
  Idle Streams n = n ≡ 0
  Idle Closings n = Unit {0}

  gone_receives : (own : WaitList) (w : Waiter) (n : ℕ) (l : Waiting) → k w ≡ Some own → Idle own n → Enough k Receives n l → Enough k Receives n (gone w l)
  gone_receives Receives w n l e i h = inr (omega (arith, i))
  gone_receives own w n l e i h = gone_other k Receives w n l (rw e refl) h

  gone_sends : (own : WaitList) (w : Waiter) (n : ℕ) (l : Waiting) → k w ≡ Some own → Idle own n → Enough k Sends (free_places capacity n) l → Enough k Sends (free_places capacity n) (gone w l)
  gone_sends Sends w n l e i h = let zero_free = i.0 in inr (omega (arith, zero_free))
  gone_sends own w n l e i h = gone_other k Sends w (free_places capacity n) l (rw e refl) h

  pub awake_gone : (closed : Bool) (n : ℕ) (own : WaitList) (w : Waiter) (l : Waiting) → k w ≡ Some own → Idle own n → Awake k capacity closed n l → Awake k capacity closed n (gone w l)
  awake_gone closed n own w l e i a = record {
    placed = placed_gone k w l a.placed;
    receives = gone_receives own w n l e i a.receives;
    sends = λ o. gone_sends own w n l e i (a.sends o);
    unbounded = λ o. empty_gone Sends w l (a.unbounded o);
    streams = keep_streams n l.streams (gone w l).streams (empty_gone Streams w l) a.streams;
    opened = λ o line. empty_gone line w l (a.opened o line);
  }

  -- a stream that is gone counts for nobody but streams
  pub awake_without_stream : (closed : Bool) (n : ℕ) (w : Waiter) (l : Waiting) → k w ≡ Some Streams → Awake k capacity closed n l → Awake k capacity closed n (gone w l)
  awake_without_stream closed n w l e a = record {
    placed = placed_gone k w l a.placed;
    receives = gone_other k Receives w n l (rw e refl) a.receives;
    sends = λ o. gone_other k Sends w (free_places capacity n) l (rw e refl) (a.sends o);
    unbounded = λ o. empty_gone Sends w l (a.unbounded o);
    streams = keep_streams n l.streams (gone w l).streams (empty_gone Streams w l) a.streams;
    opened = λ o line. empty_gone line w l (a.opened o line);
  }

  -- one that stands at the end of its line, of an open channel
  end_receives : (own : WaitList) (w : Waiter) (n : ℕ) (l : Waiting) → k w ≡ Some own → Idle own n → Enough k Receives n l → Enough k Receives n (at_end own w l)
  end_receives Receives w n l e i h = inr (omega (arith, i))
  end_receives own w n l e i h = gone_receives own w n l e i h

  end_sends : (own : WaitList) (w : Waiter) (n : ℕ) (l : Waiting) → k w ≡ Some own → Idle own n → Enough k Sends (free_places capacity n) l → Enough k Sends (free_places capacity n) (at_end own w l)
  end_sends Sends w n l e i h = let zero_free = i.0 in inr (omega (arith, zero_free))
  end_sends own w n l e i h = gone_sends own w n l e i h

  end_unbounded : (own : WaitList) (w : Waiter) (n : ℕ) (l : Waiting) → Idle own n → (capacity ≡ None → l.sends ≡ []) → capacity ≡ None → (at_end own w l).sends ≡ []
  end_unbounded Sends w n l i h o = absurd (i.1 o)
  end_unbounded own w n l i h o = empty_gone Sends w l (h o)

  end_streams : (own : WaitList) (w : Waiter) (n : ℕ) (l : Waiting) → Idle own n → (l.streams ≡ []) ⊎ (n ≡ 0) → ((at_end own w l).streams ≡ []) ⊎ (n ≡ 0)
  end_streams Receives w n l i h = inr i
  end_streams Streams w n l i h = inr i
  end_streams own w n l i h = keep_streams n l.streams (gone w l).streams (empty_gone Streams w l) h

  not_open : {A : Type 0} → false ≡ true → A
  not_open e = cc e

  pub awake_end : (n : ℕ) (own : WaitList) (w : Waiter) (l : Waiting) → k w ≡ Some own → Idle own n → Awake k capacity false n l → Awake k capacity false n (at_end own w l)
  awake_end n own w l e i a = record {
    placed = placed_end k own w l e a.placed;
    receives = end_receives own w n l e i a.receives;
    sends = λ o. end_sends own w n l e i (a.sends o);
    unbounded = end_unbounded own w n l i a.unbounded;
    streams = end_streams own w n l i a.streams;
    opened = λ o line. not_open o;
  }

  pub awake_standing : (n : ℕ) (own : WaitList) (w : Waiter) (l : Waiting) → k w ≡ Some own → Idle own n → Awake k capacity false n l → Awake k capacity false n (standing own w l)
  awake_standing n own w l e i a = elim (decided (is_among w (untold own l))) [
    | inl t ↦ rw t a
    | inr t ↦ rw t (awake_end n own w l e i a)
  ]

-- ---- other names for the same lines

-- a name that stands belongs to a line
pub stands : (k : Kind) (w : Waiter) (l : Waiting) → Placed k l → 1 ≤ times_in w l → IsSome (k w)
stands k w l p h = elim (decided (is_among w l.woken)) [
  | inl t ↦ p.wakes w t
  | inr a ↦ elim (decided (is_among w l.sends)) [
    | inl t ↦ some_kind (k w) Sends (p.lines Sends w t)
    | inr b ↦ elim (decided (is_among w l.receives)) [
      | inl t ↦ some_kind (k w) Receives (p.lines Receives w t)
      | inr c ↦ elim (decided (is_among w l.streams)) [
        | inl t ↦ some_kind (k w) Streams (p.lines Streams w t)
        | inr d ↦ elim (decided (is_among w l.closings)) [
          | inl t ↦ some_kind (k w) Closings (p.lines Closings w t)
          | inr f ↦ absurd (omega (arith, h, absent_counts w l.woken a, absent_counts w l.sends b, absent_counts w l.receives c, absent_counts w l.streams d, absent_counts w l.closings f))
        ]
      ]
    ]
  ]
]

count_same : (p q : Waiter → Bool) (xs : List Waiter) → ((x : Waiter) → is_among x xs ≡ true → p x ≡ q x) → length (filter p xs) ≡ length (filter q xs)
count_same p q [] h = refl
count_same p q (x ∷ xs) h =
    rw (h x (among_self x xs)) (chosen_same (q x) x (filter p xs) (filter q xs) (count_same p q xs (λ y e. h y (or_right (same_waiter y x) (is_among y xs) e))))

among_times : (line : WaitList) (w : Waiter) (l : Waiting) → is_among w (untold line l) ≡ true → 1 ≤ times_in w l
among_times Sends w l e = omega (arith, among_counts w l.sends e)
among_times line w l e = omega (arith, among_counts w (untold line l) e)

enough_renamed : (k k' : Kind) (line : WaitList) (n : ℕ) (l : Waiting) → ((w : Waiter) → 1 ≤ times_in w l → k' w ≡ k w) → Enough k line n l → Enough k' line n l
enough_renamed k k' line n l same (inl e) = inl e
enough_renamed k k' line n l same (inr h) =
    inr (omega (
      arith,
      h,
      count_same (λ (w : Waiter). is_line line (k' w)) (λ (w : Waiter). is_line line (k w)) l.woken
          (λ w e. ap (λ (o : Option WaitList). is_line line o) (same w (omega (arith, among_counts w l.woken e)))),
    ))

pub awake_renamed : (k k' : Kind) (capacity : Option ℕ) (closed : Bool) (n : ℕ) (l : Waiting) → ((w : Waiter) → 1 ≤ times_in w l → k' w ≡ k w) → Awake k capacity closed n l → Awake k' capacity closed n l
awake_renamed k k' capacity closed n l same a = record {
  placed = record {
    lines = λ line w e. same w (among_times line w l e) ∙ a.placed.lines line w e;
    wakes = λ w e. subst (λ (o : Option WaitList). IsSome o) (sym (same w (omega (arith, among_counts w l.woken e)))) (a.placed.wakes w e);
    once = a.placed.once;
  };
  receives = enough_renamed k k' Receives n l same a.receives;
  sends = λ o. enough_renamed k k' Sends (free_places capacity n) l same (a.sends o);
  unbounded = a.unbounded;
  streams = a.streams;
  opened = a.opened;
}

-- one that left stands nowhere
pub left_nowhere : (own : WaitList) (w : Waiter) (l : Waiting) → times_in w (leave own w l) ≡ 0
left_nowhere own w l = times_news (passed_on own w l) w (gone w l) ∙ times_gone_self w l
