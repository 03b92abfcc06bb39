-- The numbers that a world tells, with no call under way, are those of its state.
use Rattle.std.specs.Prelude.{◌⊎◌, ◌++◌, ◌≡◌, ◌+◌, ◌≤◌, ◌∷◌}
use Rattle.channel_world.proofs.Words.{same_number}
use Rattle.std.specs.List.{IsDistinct}
use Rattle.channel_world.proofs.Lemmas.{option_map_or, Some, is_some, ap, length-append, Key, WaitList, Sends, Receives, Streams, Closings, times_in, Waiting, untold, pending_count, State, Op, Stream, among_append, count_append, or_true, same_sound, AreApart, name_state_of, IsQuiet, Stands, stands_pending, how_many, operation_stands, stream_stands, key_of, held_of, WorldInvariant, NameState, WorldState, HandleEntry, OperationEntry, PollState, NameTable, none_under_way, among_is, waits_pending, AreUntold, state_at, IsWorld, RestIsAWorld, Configuration, MessagesAtRest, PendingAtRest, WokenAtRest, at_rest, no_longer, view_of, at_rest_is, AllByRecursion, count_by, keys_of, arith, ℕ, nat_eq, Bool, true, false, cond, List, [], length, Option, None, inl, inr, refl, sym, ◌∙◌, subst, one_if, count_first, among_counts, decided, times, same_waiter, is_among, Directory, at, Waiter}

-- ---- the names that a directory has

-- ---- a directory

one_more : (b : Bool) (w : Waiter) (ws : List Waiter) → length (cond b (w ∷ ws) ws) ≡ one_if b + length ws
one_more true w ws = omega arith
one_more false w ws = omega arith

module _ {X : Type 0} (test : Option X → Bool) (name : ℕ → Waiter) where
  -- the names of what passes
  abbrev pub named : Directory X → List Waiter
  named [] = []
  named (e ∷ es) = cond (test e.1) (name e.0 ∷ named es) (named es)

  pub named_many : (es : Directory X) → length (named es) ≡ count_by (λ e. test e.1) es
  named_many [] = refl
  named_many (e ∷ es) =
      let rest = named_many es in
      let first = count_first (λ (f : ℕ × Option X). test f.1) e es in
      let mine = one_more (test e.1) (name e.0) (named es) in
      omega (arith, rest, first, mine)

  -- a name that no entry has stands nowhere among them
  pub none_named : (w : Waiter) → ((n : ℕ) → same_waiter w (name n) ≡ false) → (es : Directory X) → times w (named es) ≡ 0
  none_named w other [] = refl
  none_named w other (e ∷ es) = elim (decided (test e.1)) [
    | inl t ↦ rw t (rw (other e.0) (none_named w other es))
    | inr f ↦ rw f (none_named w other es)
  ]

  module _ (same : (m n : ℕ) → same_waiter (name m) (name n) ≡ nat_eq m n) (nothing : test None ≡ false) where
    -- what is looked up and passes stands there
    pub named_there : (n : ℕ) (es : Directory X) → test (at n es) ≡ true → 1 ≤ times (name n) (named es)
    named_there n [] h = absurd (let no : false ≡ true = sym nothing ∙ h in cc)
    named_there n (e ∷ es) h = elim (decided (nat_eq n e.0)) [
      | inl t ↦
          let passes : test e.1 ≡ true = rw t at h in
          rw passes (rw (same n e.0 ∙ t) (omega arith))
      | inr f ↦
          let more = named_there n es (rw f at h) in
          elim (decided (test e.1)) [
            | inl t ↦ rw t (rw (same n e.0 ∙ f) more)
            | inr g ↦ rw g more
          ]
    ]

    none_behind : (n : ℕ) (es : Directory X) → AllByRecursion (λ m. nat_eq n m ≡ false) (keys_of es) → times (name n) (named es) ≡ 0
    none_behind n [] h = refl
    none_behind n (e ∷ es) h = elim (decided (test e.1)) [
      | inl t ↦ rw t (rw (same n e.0 ∙ h.0) (none_behind n es h.1))
      | inr f ↦ rw f (none_behind n es h.1)
    ]

    -- where no name stands twice in the directory, none stands twice among them,
    pub named_once : (n : ℕ) (es : Directory X) → IsDistinct nat_eq (keys_of es) → times (name n) (named es) ≤ 1
    unfolding IsDistinct
    named_once n [] d = omega arith
    named_once n (e ∷ es) d = elim (decided (nat_eq n e.0)) [
      | inl t ↦
          let apart = subst (λ (m : ℕ). AllByRecursion (λ k. nat_eq m k ≡ false) (keys_of es)) (sym (same_number n e.0 t)) d.0 in
          let none = none_behind n es apart in
          elim (decided (test e.1)) [
            | inl p ↦ rw p (rw (same n e.0 ∙ t) (omega (arith, none)))
            | inr f ↦ rw f (omega (arith, none))
          ]
      | inr f ↦
          let more = named_once n es d.1 in
          elim (decided (test e.1)) [
            | inl p ↦ rw p (rw (same n e.0 ∙ f) more)
            | inr g ↦ rw g more
          ]
    ]

    -- and each is looked up, and passes
    pub named_so : (n : ℕ) (es : Directory X) → IsDistinct nat_eq (keys_of es) → is_among (name n) (named es) ≡ true
        → test (at n es) ≡ true
    unfolding IsDistinct
    named_so n [] d i = absurd (let no : false ≡ true = i in cc)
    named_so n (e ∷ es) d i = elim (decided (nat_eq n e.0)) [
      | inl t ↦
          let apart = subst (λ (m : ℕ). AllByRecursion (λ k. nat_eq m k ≡ false) (keys_of es)) (sym (same_number n e.0 t)) d.0 in
          let none = none_behind n es apart in
          elim (decided (test e.1)) [
            | inl p ↦ rw t p
            | inr f ↦ absurd (let there = among_counts (name n) (named es) (rw f at i) in omega (arith, none, there))
          ]
      | inr f ↦ rw f (named_so n es d.1 (behind f))
    ]
      where
        behind : nat_eq n e.0 ≡ false → is_among (name n) (named es) ≡ true
        behind f = elim (decided (test e.1)) [
          | inl p ↦ let both = rw p at i in rw (same n e.0 ∙ f) at both
          | inr g ↦ rw g at i
        ]

abbrev op_name : ℕ → Waiter
op_name n = Op (record { 0 = n })

abbrev stream_name : ℕ → Waiter
stream_name n = Stream (record { 0 = n })

-- ---- how those stand who live under the names

module _ {T : Type 0} (test : PollState → Bool) (r : NameTable T) where
  -- whether what lives under the name stands so
  abbrev pub stands_so : Waiter → Bool
  stands_so (Op op) = operation_stands test (at op.0 r.operations)
  stands_so (Stream handle) = stream_stands test (at handle.0 r.handles)

  abbrev operations_so : List Waiter
  operations_so = named (operation_stands test) op_name r.operations

  abbrev streams_so : List Waiter
  streams_so = named (stream_stands test) stream_name r.handles

  abbrev pub all_so : List Waiter
  all_so = operations_so ++ streams_so

  pub so_many : length all_so ≡ how_many test r
  so_many =
      let both = length-append operations_so streams_so in
      let first = named_many (operation_stands test) op_name r.operations in
      let second = named_many (stream_stands test) stream_name r.handles in
      omega (arith, both, first, second)

  so_split : (w : Waiter) → times w all_so ≡ times w operations_so + times w streams_so
  so_split w = count_append (same_waiter w) operations_so streams_so

  pub so_there : (w : Waiter) → stands_so w ≡ true → 1 ≤ times w all_so
  so_there (Op op) e =
      let split = so_split (Op op) in
      let there = named_there (operation_stands test) op_name (λ m n. refl) refl op.0 r.operations e in
      omega (arith, split, there)
  so_there (Stream handle) e =
      let split = so_split (Stream handle) in
      let there = named_there (stream_stands test) stream_name (λ m n. refl) refl handle.0 r.handles e in
      omega (arith, split, there)

  so_once : AreApart r → (w : Waiter) → times w all_so ≤ 1
  so_once apart (Op op) =
      let split = so_split (Op op) in
      let one = named_once (operation_stands test) op_name (λ m n. refl) refl op.0 r.operations apart.operations in
      let none = none_named (stream_stands test) stream_name (Op op) (λ n. refl) r.handles in
      omega (arith, split, one, none)
  so_once apart (Stream handle) =
      let split = so_split (Stream handle) in
      let one = named_once (stream_stands test) stream_name (λ m n. refl) refl handle.0 r.handles apart.handles in
      let none = none_named (operation_stands test) op_name (Stream handle) (λ n. refl) r.operations in
      omega (arith, split, one, none)

  so_stands : AreApart r → (w : Waiter) → is_among w all_so ≡ true → stands_so w ≡ true
  so_stands apart (Op op) i = by (among_append (Op op) operations_so streams_so i)
    where
      by : (is_among (Op op) operations_so ≡ true) ⊎ (is_among (Op op) streams_so ≡ true) → stands_so (Op op) ≡ true
      by (inl k) = named_so (operation_stands test) op_name (λ m n. refl) refl op.0 r.operations apart.operations k
      by (inr k) =
          let none = none_named (stream_stands test) stream_name (Op op) (λ n. refl) r.handles in
          let there = among_counts (Op op) streams_so k in
          absurd (omega (arith, none, there))
  so_stands apart (Stream handle) i = by (among_append (Stream handle) operations_so streams_so i)
    where
      by : (is_among (Stream handle) operations_so ≡ true) ⊎ (is_among (Stream handle) streams_so ≡ true)
          → stands_so (Stream handle) ≡ true
      by (inl k) =
          let none = none_named (operation_stands test) op_name (Stream handle) (λ n. refl) r.operations in
          let there = among_counts (Stream handle) operations_so k in
          absurd (omega (arith, none, there))
      by (inr k) = named_so (stream_stands test) stream_name (λ m n. refl) refl handle.0 r.handles apart.handles k

  -- a list of just those that stand so, none of them twice, is as long as they are many
  counted_so : AreApart r → (ws : List Waiter) → ((w : Waiter) → times w ws ≤ 1)
      → ((w : Waiter) → is_among w ws ≡ true → stands_so w ≡ true) → ((w : Waiter) → stands_so w ≡ true → 1 ≤ times w ws)
      → how_many test r ≡ length ws
  counted_so apart ws once so there =
      let most = no_longer all_so ws (so_once apart) (λ w i. there w (so_stands apart w i)) in
      let least = no_longer ws all_so once (λ w i. so_there w (so w i)) in
      let many = so_many in
      omega (arith, most, least, many)

-- ---- who is pending holds a listener

some_so : {X : Type 0} (o : Option X) → is_some o ≡ true → (x : X) × (o ≡ Some x)
some_so None e = absurd (let no : false ≡ true = e in cc)
some_so (Some x) e = (x, refl)

module _ {T : Type 0} (r : NameTable T) where
  pub pending_holds : (w : Waiter) → stands_so stands_pending r w ≡ is_some (held_of r w)
  pending_holds (Op op) = by (at op.0 r.operations)
    where
      by : (o : Option (OperationEntry T)) → operation_stands stands_pending o ≡ is_some (option_map_or (λ (x : OperationEntry T). key_of x.poll_state) o None)
      by None = refl
      by (Some x) = refl
  pending_holds (Stream handle) = by (at handle.0 r.handles)
    where
      by : (o : Option HandleEntry) → stream_stands stands_pending o ≡ is_some (option_map_or (λ (x : HandleEntry). key_of x.poll_state) o None)
      by None = refl
      by (Some x) = refl

-- ---- those that stand in the lines

untold_hold : (held : Waiter → Option Key) (es : List (Key × Option Waiter)) (ws : List Waiter) (w : Waiter) → AreUntold held es ws
    → is_among w ws ≡ true → is_some (held w) ≡ true
untold_hold held [] [] w h i = absurd (let no : false ≡ true = i in cc)
untold_hold held (e ∷ es) (v ∷ ws) w h i =
    by (or_true (same_waiter w v) (is_among w ws) i) (λ k. untold_hold held es ws w h.1 k)
  where
    by : (same_waiter w v ≡ true) ⊎ (is_among w ws ≡ true) → (is_among w ws ≡ true → is_some (held w) ≡ true) → is_some (held w) ≡ true
    by (inl t) on = ap (λ (x : Waiter). is_some (held x)) (same_sound w v t) ∙ ap (λ (o : Option Key). is_some o) h.0.0
    by (inr k) on = on k
untold_hold held es ws w h i = absurd h

abbrev everybody : Waiting → List Waiter
everybody l = l.sends ++ (l.receives ++ (l.streams ++ (l.closings ++ l.woken)))

everybody_many : (l : Waiting) → length (everybody l) ≡ pending_count l
everybody_many l =
    let a = length-append l.sends (l.receives ++ (l.streams ++ (l.closings ++ l.woken))) in
    let b = length-append l.receives (l.streams ++ (l.closings ++ l.woken)) in
    let c = length-append l.streams (l.closings ++ l.woken) in
    let d = length-append l.closings l.woken in
    omega (arith, a, b, c, d)

everybody_once : (w : Waiter) (l : Waiting) → times w (everybody l) ≡ times_in w l
everybody_once w l =
    let a = count_append (same_waiter w) l.sends (l.receives ++ (l.streams ++ (l.closings ++ l.woken))) in
    let b = count_append (same_waiter w) l.receives (l.streams ++ (l.closings ++ l.woken)) in
    let c = count_append (same_waiter w) l.streams (l.closings ++ l.woken) in
    let d = count_append (same_waiter w) l.closings l.woken in
    omega (arith, a, b, c, d)

module _ {T : Type 0} (b : NameState T) (s : Configuration T Waiter) (kept : WorldInvariant b s) (world : IsWorld b s) (apart : AreApart b.name_table) where
  abbrev who : Waiting
  who = (state_at b s).waiting

  once_in : (w : Waiter) → times_in w who ≤ 1
  once_in w = let placed = world.awake.placed in placed.once w

  woken_so : (w : Waiter) → is_among w who.woken ≡ true → stands_so stands_pending b.name_table w ≡ true
  woken_so w i =
      let k = kept.woken in
      let h = k.pending w (among_is w who.woken i) in
      pending_holds b.name_table w ∙ waits_pending b.name_table w h.0 h.1

  line_so : (line : WaitList) (w : Waiter) → is_among w (untold line who) ≡ true → stands_so stands_pending b.name_table w ≡ true
  line_so line w i =
      let shown = world.shows in
      let own = shown.lines line in
      pending_holds b.name_table w ∙ untold_hold (held_of b.name_table) _ (untold line who) w own.untold i

  all_pending : (w : Waiter) → is_among w (everybody who) ≡ true → stands_so stands_pending b.name_table w ≡ true
  all_pending w i = sends (among_append w who.sends (who.receives ++ (who.streams ++ (who.closings ++ who.woken))) i)
    where
      closings : (is_among w who.closings ≡ true) ⊎ (is_among w who.woken ≡ true) → stands_so stands_pending b.name_table w ≡ true
      closings (inl k) = line_so Closings w k
      closings (inr k) = woken_so w k

      streams : (is_among w who.streams ≡ true) ⊎ (is_among w (who.closings ++ who.woken) ≡ true) → stands_so stands_pending b.name_table w ≡ true
      streams (inl k) = line_so Streams w k
      streams (inr k) = closings (among_append w who.closings who.woken k)

      receives : (is_among w who.receives ≡ true) ⊎ (is_among w (who.streams ++ (who.closings ++ who.woken)) ≡ true)
          → stands_so stands_pending b.name_table w ≡ true
      receives (inl k) = line_so Receives w k
      receives (inr k) = streams (among_append w who.streams (who.closings ++ who.woken) k)

      sends : (is_among w who.sends ≡ true) ⊎ (is_among w (who.receives ++ (who.streams ++ (who.closings ++ who.woken))) ≡ true)
          → stands_so stands_pending b.name_table w ≡ true
      sends (inl k) = line_so Sends w k
      sends (inr k) = receives (among_append w who.receives (who.streams ++ (who.closings ++ who.woken)) k)

  all_there : (w : Waiter) → stands_so stands_pending b.name_table w ≡ true → 1 ≤ times w (everybody who)
  all_there w e =
      let key = some_so (held_of b.name_table w) (sym (pending_holds b.name_table w) ∙ e) in
      let keys = world.shows.keys in
      let there = keys.holds w key.0 key.1 in
      let same = everybody_once w who in
      omega (arith, there, same)

  all_once : (w : Waiter) → times w (everybody who) ≤ 1
  all_once w = let one = once_in w in let same = everybody_once w who in omega (arith, one, same)

  pub pending_number : how_many stands_pending b.name_table ≡ pending_count who
  pending_number = counted_so stands_pending b.name_table apart (everybody who) all_once all_pending all_there ∙ everybody_many who

-- ---- a world

module _ {T : Type 0} (w : WorldState T) (k : Stands w) where
  at_rest_there : IsQuiet w → at_rest w ≡ state_at (name_state_of w) k.configuration
  at_rest_there quiet = at_rest_is w k.configuration k.stands.shown quiet

  pub woken_at_rest : WokenAtRest (view_of w)
  woken_at_rest quiet = refl

  pub messages_at_rest : MessagesAtRest (view_of w)
  messages_at_rest quiet =
      let sh = k.stands.shown in
      sh.messages ∙ ap (λ (x : State T). length x.channel.messages) (sym (at_rest_there quiet))

  module _ (rests : RestIsAWorld T) (apart : AreApart w.name_table) where
    rest : IsQuiet w → IsWorld (name_state_of w) k.configuration
    rest quiet = rests (name_state_of w) k.configuration k.stands.kept (none_under_way w k.configuration quiet k.stands.shown)

    pub pending_at_rest : PendingAtRest (view_of w)
    pending_at_rest quiet =
        pending_number (name_state_of w) k.configuration k.stands.kept (rest quiet) apart
        ∙ ap (λ (x : State T). pending_count x.waiting) (sym (at_rest_there quiet))
