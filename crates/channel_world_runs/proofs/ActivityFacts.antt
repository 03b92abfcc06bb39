-- What is noted of the calls under way is what they are and have done, from one step to the next.
use Rattle.std.specs.Prelude.{◌≡◌, ◌+◌, ◌-◌, ◌^◌, ◌≤◌, ◌||◌, ◌∷◌, ◌++◌}
use Rattle.channel_world_runs.proofs.Lemmas.{arith, ℕ, min, Bool, true, false, List, [], map, length, slice_get, slice_set, Option, None, Some, refl, sym, ap, ◌∙◌, subst, remove, length-map, map-append, Channel, ChannelAsk, Mark, Reply, Stage, Waiter, messages_moved, taken_out, MarkedMoment, with_marked, Begins, begun_active_call as call_begun, ActiveCall, Configuration, Steps, IsBalanced, after_step, sees, does, unless_ended, takings, with_taking, ChannelEntry as Entry, Phase, is_close, any_close, role_of, activity_begun, activity_after, activity_of, All, Activity, step_brings}
use Rattle.channel_world_runs.specs.declared.activity.Role.{Role}
use Rattle.channel_world_runs.proofs.OwnerTogether.{all_join, all_left, all_right}

-- ---- the k-th of a list

there : {A : Type 0} (xs : List A) (y : A) (ys : List A) → slice_get (xs ++ (y ∷ ys)) (length xs) ≡ Some y
there [] y ys = refl
there (x ∷ xs) y ys = there xs y ys

set_there : {A : Type 0} (xs : List A) (y : A) (ys : List A) (z : A) → slice_set (xs ++ (y ∷ ys)) (length xs) z ≡ xs ++ (z ∷ ys)
set_there [] y ys z = refl
set_there (x ∷ xs) y ys z = ap (λ zs. x ∷ zs) (set_there xs y ys z)

remove_there : {A : Type 0} (xs : List A) (y : A) (ys : List A) → remove (xs ++ (y ∷ ys)) (length xs) ≡ xs ++ ys
remove_there [] y ys = refl
remove_there (x ∷ xs) y ys = ap (λ zs. x ∷ zs) (remove_there xs y ys)

-- ---- marks

or_false : (b : Bool) → (b || false) ≡ b
or_false true = refl
or_false false = refl

or_true : (b : Bool) → (b || true) ≡ true
or_true true = refl
or_true false = refl

or_assoc : (a b c : Bool) → (a || (b || c)) ≡ ((a || b) || c)
or_assoc true b c = refl
or_assoc false b c = refl

same_activity : (r : Role) (b c : Bool) (m n : ℕ) → b ≡ c → m ≡ n
    → (let x : Activity = record { role = r; has_closed = b; taken = m } in x) ≡ record { role = r; has_closed = c; taken = n }
same_activity r b c m n e f =
    ap (λ (y : Bool). let x : Activity = record { role = r; has_closed = y; taken = m } in x) e
    ∙ ap (λ (y : ℕ). let x : Activity = record { role = r; has_closed = c; taken = y } in x) f

taking_more : (m : Mark) (n k : ℕ) → with_taking m (n + k) ≡ with_taking m n + k
taking_more Mark.Take n k = omega arith
taking_more m n k = refl

taking_out : (m : Mark) → with_taking m 0 ≤ taken_out m
taking_out Mark.Take = omega arith
taking_out m = omega arith

-- as far as a machine number goes
abbrev at_most : ℕ → ℕ
at_most n = min n (2 ^ 64 - 1)

-- what is noted after a step with this mark
noted_so : (r : Role) (b : Bool) (n : ℕ) (m : Mark)
    → activity_after m (record { role = r; has_closed = b; taken = at_most n })
    ≡ record { role = r; has_closed = b || is_close m; taken = at_most (n + with_taking m 0) }
noted_so r b n Mark.Close = same_activity r true (b || true) (at_most n) (at_most (n + 0)) (sym (or_true b)) (omega arith)
noted_so r b n Mark.Take =
    same_activity r b (b || false) (min (at_most n + 1) (2 ^ 64 - 1)) (at_most (n + 1)) (sym (or_false b)) (omega arith)
noted_so r b n m = same_activity r b (b || false) (at_most n) (at_most (n + 0)) (sym (or_false b)) (omega arith)

module _ {T W : Type 0} where
  close_more : (ds : List (MarkedMoment T W)) (d : MarkedMoment T W) → any_close (ds ++ (d ∷ [])) ≡ (any_close ds || is_close d.mark)
  close_more [] d = or_false (is_close d.mark)
  close_more (e ∷ ds) d =
      ap (λ (b : Bool). is_close e.mark || b) (close_more ds d) ∙ or_assoc (is_close e.mark) (any_close ds) (is_close d.mark)

  takings_more : (ds : List (MarkedMoment T W)) (d : MarkedMoment T W) → takings (ds ++ (d ∷ [])) ≡ takings ds + with_taking d.mark 0
  takings_more [] d = omega arith
  takings_more (e ∷ ds) d =
      ap (λ (n : ℕ). with_taking e.mark n) (takings_more ds d) ∙ taking_more e.mark (takings ds) (with_taking d.mark 0)

  -- what a call has done, after a step more
  takings_by : (ds : List (MarkedMoment T W)) (m : Mark) (c : Channel T W) (seen : List (Channel T W))
      → takings (with_marked ds m c seen) ≡ takings ds + with_taking m 0
  takings_by ds Mark.Nothing c seen = omega arith
  takings_by ds m c seen = takings_more ds (record { mark = m; before = c; seen = seen })

  close_by : (ds : List (MarkedMoment T W)) (m : Mark) (c : Channel T W) (seen : List (Channel T W))
      → any_close (with_marked ds m c seen) ≡ (any_close ds || is_close m)
  close_by ds Mark.Nothing c seen = sym (or_false (any_close ds))
  close_by ds m c seen = close_more ds (record { mark = m; before = c; seen = seen })

  does_noted : (u : ActiveCall T W) (at : Stage (Phase T) T W) (m : Mark) (c d : Channel T W)
      → activity_after m (activity_of u) ≡ activity_of (does u at m c d)
  does_noted u at m c d =
      noted_so (role_of u.ask) (any_close u.marks) (takings u.marks) m
      ∙ same_activity (role_of u.ask) _ _ _ _ (sym (close_by u.marks m c u.seen))
      (ap (λ (n : ℕ). at_most n) (sym (takings_by u.marks m c u.seen)))

  -- others only see a step
  seen_same : (c : Channel T W) (us : List (ActiveCall T W)) → map activity_of (map (sees c) us) ≡ map activity_of us
  seen_same c [] = refl
  seen_same c (u ∷ us) = ap (λ (ds : List Activity). activity_of u ∷ ds) (seen_same c us)

module _ {T : Type 0} where
  -- none has taken more than were removed
  abbrev pub TookFew : ℕ → ActiveCall T Waiter → Type 0
  TookFew n u = takings u.marks ≤ n

  few_seen : (c : Channel T Waiter) (n k : ℕ) (us : List (ActiveCall T Waiter)) → n ≤ k → All (TookFew n) us → All (TookFew k) (map (sees c) us)
  few_seen c n k [] more h = tt
  few_seen c n k (u ∷ us) more h = let own = h.0 in (omega (arith, own, more), few_seen c n k us more h.1)

  -- ---- a call begins

  pub begun_noted : (s : Configuration T Waiter) (p : ℕ) (a : ChannelAsk T Waiter) (e : Entry T) (t : Configuration T Waiter) (activities : List Activity)
      → Begins s p a e t → activities ≡ map activity_of s.under_way → activities ++ (activity_begun a ∷ []) ≡ map activity_of t.under_way
  begun_noted s p a e t activities b same =
      ap (λ (ds : List Activity). ds ++ (activity_begun a ∷ [])) same
      ∙ (sym (map-append activity_of s.under_way (call_begun p a b.at s.now ∷ [])) ∙ ap (λ (us : List (ActiveCall T Waiter)). map activity_of us) (sym b.under_way))

  pub begun_few : (s : Configuration T Waiter) (p : ℕ) (a : ChannelAsk T Waiter) (e : Entry T) (t : Configuration T Waiter) → Begins s p a e t
      → All (TookFew s.now.queue.removed) s.under_way → All (TookFew t.now.queue.removed) t.under_way
  begun_few s p a e t b h =
      let all = all_join (TookFew s.now.queue.removed) s.under_way (call_begun p a b.at s.now ∷ []) h (omega arith, tt) in
      subst (λ (us : List (ActiveCall T Waiter)). All (TookFew t.now.queue.removed) us) (sym b.under_way)
      (subst (λ (c : Channel T Waiter). All (TookFew c.queue.removed) (s.under_way ++ (call_begun p a b.at s.now ∷ []))) (sym b.now) all)

  -- ---- a call makes a step

  -- so many are removed by it
  removed_by : (s : Configuration T Waiter) (p : ℕ) (e : Entry T) (names : List Waiter) (t : Configuration T Waiter) → Steps s p e names t
      → IsBalanced s.now.queue → IsBalanced t.now.queue → t.now.queue.removed ≡ s.now.queue.removed + taken_out e.mark
  removed_by s p e names t n a b =
      let moved = messages_moved s p e names t n a b in
      let brings = step_brings s p e names t n in
      let came = brings.accepted in
      omega (arith, moved, came, a, b)

  -- it may have taken one more
  took_one : (u : ActiveCall T Waiter) (at : Stage (Phase T) T Waiter) (m : Mark) (c d : Channel T Waiter) (n k : ℕ) → TookFew n u
      → k ≡ n + taken_out m → TookFew k (does u at m c d)
  took_one u at m c d n k few more =
      let now = takings_by u.marks m c u.seen in
      let one = taking_out m in
      omega (arith, now, one, few, more)

  took_unless : (u : ActiveCall T Waiter) (r : Option (Reply T)) (n : ℕ) → TookFew n u → All (TookFew n) (unless_ended u r)
  took_unless u None n h = (h, tt)
  took_unless u (Some r) n h = tt

  pub stepped_few : (s : Configuration T Waiter) (p : ℕ) (e : Entry T) (names : List Waiter) (t : Configuration T Waiter) → Steps s p e names t
      → IsBalanced s.now.queue → IsBalanced t.now.queue → All (TookFew s.now.queue.removed) s.under_way
      → All (TookFew t.now.queue.removed) t.under_way
  stepped_few s p e names t n a b h =
      let k : ℕ = t.now.queue.removed in
      let more = removed_by s p e names t n a b in
      let grown : s.now.queue.removed ≤ k = omega (arith, more) in
      let all = subst (λ (us : List (ActiveCall T Waiter)). All (TookFew s.now.queue.removed) us) n.there h in
      let right = all_right (TookFew s.now.queue.removed) n.before (n.mine ∷ n.behind) all in
      let own = took_unless (does n.mine n.at_now e.mark s.now t.now) e.reply k
      (took_one n.mine n.at_now e.mark s.now t.now s.now.queue.removed k right.0 more) in
      let before = few_seen t.now s.now.queue.removed k n.before grown (all_left (TookFew s.now.queue.removed) n.before (n.mine ∷ n.behind) all) in
      let behind = few_seen t.now s.now.queue.removed k n.behind grown right.1 in
      subst (λ (us : List (ActiveCall T Waiter)). All (TookFew k) us) (sym n.left)
      (all_join (TookFew k) (map (sees t.now) n.before) _ before
      (all_join (TookFew k) (unless_ended (does n.mine n.at_now e.mark s.now t.now) e.reply) (map (sees t.now) n.behind) own behind))

  now_is : (s : Configuration T Waiter) (p : ℕ) (e : Entry T) (names : List Waiter) (t : Configuration T Waiter) (n : Steps s p e names t)
      → map activity_of t.under_way
      ≡ map activity_of n.before ++ (map activity_of (unless_ended (does n.mine n.at_now e.mark s.now t.now) e.reply) ++ map activity_of n.behind)
  now_is s p e names t n =
      let own = unless_ended (does n.mine n.at_now e.mark s.now t.now) e.reply in
      ap (λ (us : List (ActiveCall T Waiter)). map activity_of us) n.left
      ∙ (map-append activity_of (map (sees t.now) n.before) (own ++ map (sees t.now) n.behind)
      ∙ (ap (λ (ds : List Activity). ds ++ map activity_of (own ++ map (sees t.now) n.behind)) (seen_same t.now n.before)
      ∙ ap (λ (ds : List Activity). map activity_of n.before ++ ds)
      (map-append activity_of own (map (sees t.now) n.behind) ∙ ap (λ (ds : List Activity). map activity_of own ++ ds) (seen_same t.now n.behind))))

  was : (s : Configuration T Waiter) (p : ℕ) (e : Entry T) (names : List Waiter) (t : Configuration T Waiter) (n : Steps s p e names t)
      → map activity_of s.under_way ≡ map activity_of n.before ++ (activity_of n.mine ∷ map activity_of n.behind)
  was s p e names t n =
      ap (λ (us : List (ActiveCall T Waiter)). map activity_of us) n.there ∙ map-append activity_of n.before (n.mine ∷ n.behind)

  noted_parts : (before : List Activity) (d d' : Activity) (behind : List Activity) (r : Option (Reply T)) (u : ActiveCall T Waiter) → d' ≡ activity_of u
      → after_step (before ++ (d ∷ behind)) (length before) d' r ≡ before ++ (map activity_of (unless_ended u r) ++ behind)
  noted_parts before d d' behind None u e = set_there before d behind d' ∙ ap (λ (x : Activity). before ++ (x ∷ behind)) e
  noted_parts before d d' behind (Some r) u e = remove_there before d behind

  -- what is noted of the k-th is of the call that makes the step, and so it is after it
  pub stepped_noted : (s : Configuration T Waiter) (p : ℕ) (e : Entry T) (names : List Waiter) (t : Configuration T Waiter) (n : Steps s p e names t) (k : ℕ)
      → length n.before ≡ k → (ds : List Activity) (d d' : Activity) → ds ≡ map activity_of s.under_way → slice_get ds k ≡ Some d → d' ≡ activity_after e.mark d
      → after_step ds k d' e.reply ≡ map activity_of t.under_way
  stepped_noted s p e names t n k place ds d d' noted at_k after =
      let u : ActiveCall T Waiter = does n.mine n.at_now e.mark s.now t.now in
      let front = map activity_of n.before in
      let behind = map activity_of n.behind in
      let long : length front ≡ k = length-map n.before activity_of ∙ place in
      let are : ds ≡ front ++ (activity_of n.mine ∷ behind) = noted ∙ was s p e names t n in
      let here : slice_get ds k ≡ Some (activity_of n.mine) =
      ap (λ (xs : List Activity). slice_get xs k) are
      ∙ (ap (λ (i : ℕ). slice_get (front ++ (activity_of n.mine ∷ behind)) i) (sym long) ∙ there front (activity_of n.mine) behind) in
      let same : Some d ≡ Some (activity_of n.mine) = sym at_k ∙ here in
      let mine : d ≡ activity_of n.mine = cc same in
      let next : d' ≡ activity_of u = after ∙ (ap (activity_after e.mark) mine ∙ does_noted n.mine n.at_now e.mark s.now t.now) in
      ap (λ (xs : List Activity). after_step xs k d' e.reply) are
      ∙ (ap (λ (i : ℕ). after_step (front ++ (activity_of n.mine ∷ behind)) i d' e.reply) (sym long)
      ∙ (noted_parts front (activity_of n.mine) d' behind e.reply u next ∙ sym (now_is s p e names t n)))
