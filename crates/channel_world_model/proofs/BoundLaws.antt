-- How many messages there are at most, that an unbounded channel is never full, and that one close at most is the first.
use Rattle.std.specs.Prelude.{◌≡◌, ◌⊎◌, ◌≤◌, ◌<◌, ◌+◌, ◌-◌, ◌==◌, ◌∷◌, if◌then◌else◌}
use Rattle.channel_world_model.proofs.Words.{false_from_ne_true, arith, ℕ, List, [], length, Bool, true, false, Option, None, Some, IfSome, Err, refl, sym, ap, subst, ◌∙◌, inl, inr, length-append, filter, option_map_or, nat_tests, Answer, replying, space_of, try_send_answer, force_send_answer, strong_handles, with_strong_handles, without_one, shut, EachDone, says_full, says_closed, ModelChannel, is_full, appended, Answers, Runs, State, start, Call, NoMemory, HandleId, HandleKind, Sender, WorldRefusal, Done, Space, Open, Filled, decided, Reply}
use Rattle.channel_world_model.proofs.Deeds.{Deed, stays, grows, holds, shuts, adds, drops, deed_of}
use Rattle.channel_world_model.proofs.Lacking.{held_is}

room_left : (n c : ℕ) → (n == c) ≡ false → n ≤ c → n + 1 ≤ c
room_left n c t h = grind (arith, nat_tests)

module _ {T : Type 0} where
  -- the same messages, the same capacity, and closed where it was
  record Same (b c : ModelChannel T) : Type 0 where
    messages : b.messages ≡ c.messages
    capacity : b.capacity ≡ c.capacity
    closed : c.closed ≡ true → b.closed ≡ true

  counted_same : (kind : HandleKind) (n : ℕ) (c : ModelChannel T) → Same (with_strong_handles kind n c) c
  counted_same Sender n c = record { messages = refl; capacity = refl; closed = λ e. e }
  counted_same kind n c = record { messages = refl; capacity = refl; closed = λ e. e }

  shut_same : (last : Bool) (b c : ModelChannel T) → Same b c → Same (if last then shut b else b) c
  shut_same true b c s = record { messages = s.messages; capacity = s.capacity; closed = λ e. refl }
  shut_same false b c s = s

  dropped_same : (kind : HandleKind) (c : ModelChannel T) → Same (without_one kind c) c
  dropped_same kind c = shut_same (strong_handles kind c == 1) (with_strong_handles kind (strong_handles kind c - 1) c) c (counted_same kind (strong_handles kind c - 1) c)

  space_room : (c : ModelChannel T) → space_of c ≡ Open → is_full c ≡ false
  space_room c e = elim (decided c.closed) [
    | inl t ↦ cc (rw t at e)
    | inr t ↦ false_from_ne_true (is_full c) (λ u.
        let gone_on : (if is_full c then Filled else Open) ≡ Open = rw t at e in cc (rw u at gone_on))
  ]

  -- ---- the length

  record Fits (most : ℕ) (c : ModelChannel T) : Type 0 where
    capacity : c.capacity ≡ Some most
    short : length c.messages ≤ most

  same_fits : (most : ℕ) (b c : ModelChannel T) → Same b c → Fits most c → Fits most b
  same_fits most b c s f = record { capacity = s.capacity ∙ f.capacity; short = subst (λ (ms : List T). length ms ≤ most) (sym s.messages) f.short }

  module _ (most : ℕ) (some : 0 < most) where
    one_more_fits : (c : ModelChannel T) (m : T) → (space_of c ≡ Open) ⊎ (c.messages ≡ []) → Fits most c → Fits most (appended c m)
    one_more_fits c m (inl e) f =
        let not_full : (length c.messages == most) ≡ false =
        subst (λ (o : Option ℕ). option_map_or (λ (capacity : ℕ). length c.messages == capacity) o false ≡ false) f.capacity (space_room c e) in
        record { capacity = f.capacity; short = omega (arith, length-append c.messages (m ∷ []), room_left (length c.messages) most not_full f.short) }
    one_more_fits c m (inr e) f =
        let none : length c.messages ≡ 0 = ap (λ (ms : List T). length ms) e in
        record { capacity = f.capacity; short = omega (arith, length-append c.messages (m ∷ []), none, some) }

    step_fits : (s : State T) (a : Answer T) → Deed s a → Fits most s.channel → Fits most a.after.channel
    step_fits s a (stays same alike none) f = subst (λ (c : ModelChannel T). Fits most c) (sym same) f
    step_fits s a (grows m room same alike none) f = subst (λ (c : ModelChannel T). Fits most c) (sym same) (one_more_fits s.channel m room f)
    step_fits s a (holds ms n less same alike none) f =
        subst (λ (c : ModelChannel T). Fits most c) (sym same) (record { capacity = f.capacity; short = omega (arith, less, f.short) })
    step_fits s a (shuts opened same alike) f = subst (λ (c : ModelChannel T). Fits most c) (sym same) (record { capacity = f.capacity; short = f.short })
    step_fits s a (adds name kind same handles none) f =
        subst (λ (c : ModelChannel T). Fits most c) (sym same)
        (same_fits most (with_strong_handles kind (strong_handles kind s.channel + 1) s.channel) s.channel (counted_same kind (strong_handles kind s.channel + 1) s.channel) f)
    step_fits s a (drops name h kind there is same handles none) f =
        subst (λ (c : ModelChannel T). Fits most c) (sym same) (same_fits most (without_one kind s.channel) s.channel (dropped_same kind s.channel) f)

    run_fits : (s : State T) (cs : List (Call T)) (ds : List (Done T)) (why : Option WorldRefusal) (rest : List (Call T)) (t : State T)
        → Fits most s.channel → Runs s cs ds why rest t → Fits most t.channel
    run_fits s cs [] why rest t f (left, same, stops) = subst (λ (x : State T). Fits most x.channel) (sym same) f
    run_fits s [] (d ∷ ds) why rest t f r = absurd r
    run_fits s (c ∷ cs) (d ∷ ds) why rest t f (mid, does, runs) =
        let a : Answer T = record { after = mid; reply = d.reply; woken = d.woken.items } in
        run_fits mid cs ds why rest t (step_fits s a (deed_of s c a does.1) f) runs

  pub within : (capacity : Option ℕ) (calls rest : List (Call T)) (done : List (Done T)) (why : Option WorldRefusal) (world : State T)
      → Runs (start capacity) calls done why rest world → IfSome capacity (λ most. 0 < most → length world.channel.messages ≤ most)
  within None calls rest done why world r = tt
  within (Some most) calls rest done why world r =
      λ some. (run_fits most some (start (Some most)) calls done why rest world (record { capacity = refl; short = omega arith }) r).short

  -- ---- without a bound

  unbounded_after : (s : State T) (a : Answer T) → Deed s a → s.channel.capacity ≡ None → a.after.channel.capacity ≡ None
  unbounded_after s a (stays same alike none) e = ap (λ (c : ModelChannel T). c.capacity) same ∙ e
  unbounded_after s a (grows m room same alike none) e = ap (λ (c : ModelChannel T). c.capacity) same ∙ e
  unbounded_after s a (holds ms n less same alike none) e = ap (λ (c : ModelChannel T). c.capacity) same ∙ e
  unbounded_after s a (shuts opened same alike) e = ap (λ (c : ModelChannel T). c.capacity) same ∙ e
  unbounded_after s a (adds name kind same handles none) e = ap (λ (c : ModelChannel T). c.capacity) same ∙ ((counted_same kind (strong_handles kind s.channel + 1) s.channel).capacity ∙ e)
  unbounded_after s a (drops name h kind there is same handles none) e = ap (λ (c : ModelChannel T). c.capacity) same ∙ ((dropped_same kind s.channel).capacity ∙ e)

  never_filled : (c : ModelChannel T) → c.capacity ≡ None → is_full c ≡ false
  never_filled c e = ap (λ (o : Option ℕ). option_map_or (λ (capacity : ℕ). length c.messages == capacity) o false) e

  no_space_filled : {A : Type 0} (c : ModelChannel T) → c.capacity ≡ None → space_of c ≡ Filled → A
  no_space_filled c none e = elim (decided c.closed) [
    | inl t ↦ cc (rw t at e)
    | inr t ↦ let gone_on : (if is_full c then Filled else Open) ≡ Filled = rw t at e in cc (rw (never_filled c none) at gone_on)
  ]

  module _ (s : State T) (none : s.channel.capacity ≡ None) where
    try_send_says : (sender : HandleId) (m : T) (x : Space) → space_of s.channel ≡ x → says_full (Call.TrySend sender m) (try_send_answer s m x).reply ≡ false
    try_send_says sender m Filled e = no_space_filled s.channel none e
    try_send_says sender m x e = refl

    force_send_says : (sender : HandleId) (m : T) (x : Space) → space_of s.channel ≡ x → says_full (Call.ForceSend sender m) (force_send_answer s m x).reply ≡ false
    force_send_says sender m Filled e = no_space_filled s.channel none e
    force_send_says sender m x e = refl

    never_says : (c : Call T) (a : Answer T) → Answers s c a → says_full c a.reply ≡ false
    never_says (Call.TrySend sender m) a (inl e) = subst (λ (x : Answer T). says_full (Call.TrySend sender m) x.reply ≡ false) (sym e) (try_send_says sender m (space_of s.channel) refl)
    never_says (Call.TrySend sender m) a (inr (lack, e)) =
        subst (λ (x : Answer T). says_full (Call.TrySend sender m) x.reply ≡ false) (held_is s lack (space_of s.channel) (replying s (Reply.TrySend (Err (NoMemory m)))) a e) refl
    never_says (Call.ForceSend sender m) a (inl e) = subst (λ (x : Answer T). says_full (Call.ForceSend sender m) x.reply ≡ false) (sym e) (force_send_says sender m (space_of s.channel) refl)
    never_says (Call.ForceSend sender m) a (inr (lack, e)) =
        subst (λ (x : Answer T). says_full (Call.ForceSend sender m) x.reply ≡ false) (held_is s lack (space_of s.channel) (replying s (Reply.ForceSend (Err (NoMemory m)))) a e) refl
    never_says (Call.IsFull handle) a (inl e) = subst (λ (x : Answer T). says_full (Call.IsFull handle) x.reply ≡ false) (sym e) (never_filled s.channel none)
    never_says (Call.IsFull handle) a (inr (lack, e)) = cc e
    never_says c a e = refl

  run_never_says : (s : State T) (cs : List (Call T)) (ds : List (Done T)) (why : Option WorldRefusal) (rest : List (Call T)) (t : State T)
      → s.channel.capacity ≡ None → Runs s cs ds why rest t → EachDone (λ c r. says_full c r ≡ false) cs ds
  run_never_says s cs [] why rest t none r = tt
  run_never_says s [] (d ∷ ds) why rest t none r = absurd r
  run_never_says s (c ∷ cs) (d ∷ ds) why rest t none (mid, does, runs) =
      let a : Answer T = record { after = mid; reply = d.reply; woken = d.woken.items } in
      (never_says s none c a does.1, run_never_says mid cs ds why rest t (unbounded_after s a (deed_of s c a does.1) none) runs)

  pub never_full : (calls rest : List (Call T)) (done : List (Done T)) (why : Option WorldRefusal) (world : State T)
      → Runs (start None) calls done why rest world → EachDone (λ c r. says_full c r ≡ false) calls done
  never_full calls rest done why world r = run_never_says (start None) calls done why rest world refl r

  -- ---- closing

  stays_closed : (s : State T) (a : Answer T) → Deed s a → s.channel.closed ≡ true → a.after.channel.closed ≡ true
  stays_closed s a (stays same alike none) e = ap (λ (c : ModelChannel T). c.closed) same ∙ e
  stays_closed s a (grows m room same alike none) e = ap (λ (c : ModelChannel T). c.closed) same ∙ e
  stays_closed s a (holds ms n less same alike none) e = ap (λ (c : ModelChannel T). c.closed) same ∙ e
  stays_closed s a (shuts opened same alike) e = ap (λ (c : ModelChannel T). c.closed) same
  stays_closed s a (adds name kind same handles none) e = ap (λ (c : ModelChannel T). c.closed) same ∙ (counted_same kind (strong_handles kind s.channel + 1) s.channel).closed e
  stays_closed s a (drops name h kind there is same handles none) e = ap (λ (c : ModelChannel T). c.closed) same ∙ (dropped_same kind s.channel).closed e

  -- who says so found it open, and leaves it closed
  record ByThis (s : State T) (a : Answer T) : Type 0 where
    opened : s.channel.closed ≡ false
    closed : a.after.channel.closed ≡ true

  by_this : (s : State T) (a : Answer T) → Deed s a → says_closed a.reply ≡ true → ByThis s a
  by_this s a (stays same alike none) e = cc (none, e)
  by_this s a (grows m room same alike none) e = cc (none, e)
  by_this s a (holds ms n less same alike none) e = cc (none, e)
  by_this s a (shuts opened same alike) e = record { opened = opened; closed = ap (λ (c : ModelChannel T). c.closed) same }
  by_this s a (adds name kind same handles none) e = cc (none, e)
  by_this s a (drops name h kind there is same handles none) e = cc (none, e)

  abbrev closings : List (Done T) → ℕ
  closings ds = length (filter (λ (d : Done T). says_closed d.reply) ds)

  none_closes : (s : State T) (cs : List (Call T)) (ds : List (Done T)) (why : Option WorldRefusal) (rest : List (Call T)) (t : State T)
      → s.channel.closed ≡ true → Runs s cs ds why rest t → closings ds ≡ 0
  none_closes s cs [] why rest t shut_before r = refl
  none_closes s [] (d ∷ ds) why rest t shut_before r = absurd r
  none_closes s (c ∷ cs) (d ∷ ds) why rest t shut_before (mid, does, runs) =
      let a : Answer T = record { after = mid; reply = d.reply; woken = d.woken.items } in
      let deed = deed_of s c a does.1 in
      let behind = none_closes mid cs ds why rest t (stays_closed s a deed shut_before) runs in
      elim (decided (says_closed d.reply)) [
        | inl u ↦ let by = by_this s a deed u in cc (shut_before, by.opened)
        | inr u ↦ rw u behind
      ]

  one_closes : (s : State T) (cs : List (Call T)) (ds : List (Done T)) (why : Option WorldRefusal) (rest : List (Call T)) (t : State T)
      → Runs s cs ds why rest t → closings ds ≤ 1
  one_closes s cs [] why rest t r = omega arith
  one_closes s [] (d ∷ ds) why rest t r = absurd r
  one_closes s (c ∷ cs) (d ∷ ds) why rest t (mid, does, runs) =
      let a : Answer T = record { after = mid; reply = d.reply; woken = d.woken.items } in
      elim (decided (says_closed d.reply)) [
        | inl u ↦
            let none : closings ds ≡ 0 = none_closes mid cs ds why rest t (by_this s a (deed_of s c a does.1) u).closed runs in
            rw u (omega (arith, none))
        | inr u ↦ rw u (one_closes mid cs ds why rest t runs)
      ]

  pub once : (capacity : Option ℕ) (calls rest : List (Call T)) (done : List (Done T)) (why : Option WorldRefusal) (world : State T)
      → Runs (start capacity) calls done why rest world → length (filter (λ (d : Done T). says_closed d.reply) done) ≤ 1
  once capacity calls rest done why world r = one_closes (start capacity) calls done why rest world r
