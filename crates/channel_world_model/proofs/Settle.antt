-- Settling ends: each poll of the oldest woken one brings it nearer, and with w pending it makes no more than w(w+1)/2 polls.
use Rattle.std.specs.Prelude.{◌≡◌, ◌⊎◌, ◌≤◌, ◌+◌, ◌*◌, ◌∷◌, ◌++◌, if◌then◌else◌, ◌&&◌}
use Rattle.channel_world_model.proofs.Words.{false_from_ne_true, arith, ℕ, zero, suc, List, [], length, take, drop, Bool, true, false, not, Some, refl, sym, ap, subst, ◌∙◌, inl, inr, append-nil, append_assoc, filter, list_any, filter-append, slice_get, Answer, AwakeIn, Enough, Kind, Placed, times, count_of, free_places, line_at, Waiting, same_waiter, is_among, untold, told_by, after_news, without_waiter, gone, passed_on, left_after, told_after, at_end, standing, is_stream, Answers, Call, poll_of, Settles, SettlesTo, NobodyGoesOn, pending_count, pairs, polls_left, State, Reply, WaitList, Sends, Receives, Streams, Closings, News, Nothing, Message, Room, Closing, NextIn, Waiter, Op, Stream, decided}
use Rattle.std.proofs.Math.Nat.{suc-mul, mul-suc}
use Rattle.channel_world_model.proofs.WaiterLemmas.{same_refl, none_left, without_absent}
use Rattle.channel_world_model.proofs.Counting.{among_counts, count_fewer, count_fewer_one}
use Rattle.channel_world_model.proofs.Shapes.{Shape, shape_of}
use Rattle.channel_world_model.proofs.Shapes as shape
use Rattle.channel_world_model.proofs.Awake.{told_stood, woken_end}
use Rattle.channel_world_model.proofs.LawSteps.{no_line, poll_awake}
pub use Rattle.channel_world_model.proofs.Counting.{one_if, count_all, count_news, count_gone, count_gone_one, count_end}

-- ---- how many

every : Waiter → Bool
every w = true

all_of : (ws : List Waiter) → length (filter every ws) ≡ length ws
unfolding every
all_of [] = refl
all_of (w ∷ ws) = ap (λ (n : ℕ). suc n) (all_of ws)

size_is : (l : Waiting) → count_all every l ≡ pending_count l
size_is l = omega (arith, all_of l.sends, all_of l.receives, all_of l.streams, all_of l.closings, all_of l.woken)

-- news make nobody pending, and nobody ready
size_news : (news : News) (l : Waiting) → pending_count (after_news news l) ≡ pending_count l
size_news news l = omega (arith, count_news every news l, size_is l, size_is (after_news news l))

fewer : (w : Waiter) (ws : List Waiter) → length (without_waiter w ws) ≤ length ws
fewer w ws = omega (arith, count_fewer every w ws, all_of ws, all_of (without_waiter w ws))

-- one that is there leaves fewer behind
one_fewer : (w : Waiter) (ws : List Waiter) → is_among w ws ≡ true → suc (length (without_waiter w ws)) ≤ length ws
unfolding every
one_fewer w ws e = omega (arith, count_fewer_one every w ws e, all_of ws, all_of (without_waiter w ws))

size_gone : (w : Waiter) (l : Waiting) → pending_count (gone w l) ≤ pending_count l
size_gone w l = omega (arith, count_gone every w l, size_is l, size_is (gone w l))

woken_gone : (w : Waiter) (l : Waiting) → is_among w l.woken ≡ true → suc (pending_count (gone w l)) ≤ pending_count l
unfolding every
woken_gone w l e = omega (arith, count_gone_one every w l e, size_is l, size_is (gone w l))

size_end : (line : WaitList) (w : Waiter) (l : Waiting) → pending_count (at_end line w l) ≡ suc (pending_count (gone w l))
unfolding every
size_end line w l = omega (arith, count_end every line w l, size_is (at_end line w l), size_is (gone w l))

-- ---- one poll

-- one fewer is pending; or one fewer is woken, and no more are pending
pub Nearer : Waiting → Waiting → Type 0
Nearer l m = (suc (pending_count m) ≤ pending_count l) ⊎ ((pending_count m ≤ pending_count l) × (suc (length m.woken) ≤ length l.woken))

pub front_stays : (w : Waiter) (xs ys : List Waiter) → is_among w xs ≡ true → is_among w (xs ++ ys) ≡ true
front_stays w [] ys e = cc e
front_stays w (x ∷ xs) ys e = elim (decided (same_waiter w x)) [
  | inl t ↦ rw t refl
  | inr t ↦ rw t (front_stays w xs ys (rw t at e))
]

-- one that leaves
left_nearer : (news : News) (line : WaitList) (w : Waiter) (l : Waiting) → is_among w l.woken ≡ true → Nearer l (left_after news line w l)
unfolding Nearer
left_nearer news line w l e =
    let told = after_news news l in
    let there : is_among w told.woken ≡ true = front_stays w l.woken (told_by news l) e in
    let a = size_news (passed_on line w told) (gone w told) in
    let b = woken_gone w told there in
    let c = size_news news l in
    inl (omega (arith, a, b, c))

-- one that is gone, after which news may be told
gone_nearer : (news : News) (w : Waiter) (l : Waiting) → is_among w l.woken ≡ true → Nearer l (after_news news (gone w l))
unfolding Nearer
gone_nearer news w l e =
    let a = size_news news (gone w l) in
    let b = woken_gone w l e in
    inl (omega (arith, a, b))

just_gone : (w : Waiter) (l : Waiting) → is_among w l.woken ≡ true → Nearer l (gone w l)
unfolding Nearer
just_gone w l e = inl (woken_gone w l e)

-- one that stands again
end_nearer : (line : WaitList) (w : Waiter) (l : Waiting) → is_among w l.woken ≡ true → Nearer l (at_end line w l)
unfolding Nearer
end_nearer line w l e =
    let a = size_end line w l in
    let b = woken_gone w l e in
    let c = one_fewer w l.woken e in
    inr (omega (arith, a, b), subst (λ (ws : List Waiter). suc (length ws) ≤ length l.woken) (sym (woken_end line w l)) c)

standing_nearer : (line : WaitList) (w : Waiter) (l : Waiting) → is_among w l.woken ≡ true → is_among w (untold line l) ≡ false
    → Nearer l (standing line w l)
standing_nearer line w l e off = rw off (end_nearer line w l e)

-- a stream that is gone and stands again
again_nearer : (w : Waiter) (l : Waiting) → is_among w l.woken ≡ true → Nearer l (standing Streams w (gone w l))
unfolding Nearer
again_nearer w l e =
    let off : is_among w (untold Streams (gone w l)) ≡ false = none_left w l.streams in
    let a = size_end Streams w (gone w l) in
    let b = woken_gone w l e in
    let c = one_fewer w l.woken e in
    let d = size_gone w (gone w l) in
    let f = fewer w (without_waiter w l.woken) in
    rw off (inr (omega (arith, a, b, d), omega (arith, c, f)))

-- one that is woken is not untold
pub not_untold : (k : Kind) (line : WaitList) (w : Waiter) (l : Waiting) → Placed k l → is_among w l.woken ≡ true → is_among w (untold line l) ≡ false
not_untold k line w l p e = false_from_ne_true (is_among w (untold line l)) (λ t. twice line t)
  where
    once : times w l.sends + times w l.receives + times w l.streams + times w l.closings + times w l.woken ≤ 1
    once = p.once w

    twice : (own : WaitList) → is_among w (untold own l) ≡ true → ⊥
    twice Sends t = omega (arith, once, among_counts w l.sends t, among_counts w l.woken e)
    twice own t = omega (arith, once, among_counts w (untold own l) t, among_counts w l.woken e)

-- ---- the cases of a poll of one that is woken

-- news that a poll may tell
abbrev pub IsBrief : News → Type 0
IsBrief Nothing = Unit {0}
IsBrief Message = Unit {0}
IsBrief Room = Unit {0}
IsBrief Closing = ⊥
IsBrief (NextIn line) = ⊥

-- what a poll may leave of those that wait, and whom it may wake
pub record Cases (w : Waiter) (l : Waiting) (P : Waiting → List Waiter → Type 0) : Type 0 where
  -- it leaves its line, after these news, and passes on what it was told
  pub left : (news : News) → IsBrief news → (line : WaitList) → P (left_after news line w l) (told_after news line w l)
  -- it stands in its line again
  pub stands : (line : WaitList) → P (standing line w l) []
  -- a stream leaves, with a message or without
  pub takes : P (after_news Room (gone w l)) (told_by Room (gone w l))
  pub leaves : P (gone w l) []
  -- and stands again
  pub again : P (standing Streams w (gone w l)) []

module _ {T : Type 0} where
  module _ (s : State T) (P : Waiting → List Waiter → Type 0) where
    abbrev So : Answer T → Type 0
    So a = P a.after.waiting a.woken

    -- of a poll of one that is woken
    abbrev PolledSo : Call T → Answer T → Type 0
    PolledSo (Call.Poll op) a = is_among (Op op) s.waiting.woken ≡ true → Cases (Op op) s.waiting P → So a
    PolledSo (Call.PollNext receiver) a = is_among (Stream receiver) s.waiting.woken ≡ true → Cases (Stream receiver) s.waiting P → So a
    PolledSo c a = Unit {0}

    module _ (awake : AwakeIn s) where
      -- who is woken belongs to a line, and does not stand in it
      polled_so : {c : Call T} {a : Answer T} → Shape s c a → PolledSo c a
      polled_so (shape.says (Call.Poll op) r rests h) = λ e c. no_line (line_at s.names (Op op)) (awake.placed.wakes (Op op) e) rests
      polled_so (shape.says (Call.PollNext receiver) r rests h) =
          λ e c. let off = not_untold (line_at s.names) Streams (Stream receiver) s.waiting awake.placed e in cc (rests, off)
      polled_so (shape.sends op handle m there fits) = λ e c. c.left Message tt Sends
      polled_so (shape.fails op handle m there) = λ e c. c.left Nothing tt Sends
      polled_so (shape.receives op m rest own there) = λ e c. c.left Room tt Receives
      polled_so (shape.streams receiver m rest there) = λ e c. c.takes
      polled_so (shape.stands op line r own o i h) = λ e c. c.stands line
      polled_so (shape.restands receiver none o) = λ e c. c.again
      polled_so (shape.leaves op line r own h) = λ e c. c.left Nothing tt line
      polled_so (shape.goes (Op op) line r own i h) = λ e c. c.leaves
      polled_so (shape.goes (Stream receiver) line r own i h) = λ e c. c.leaves
      polled_so (shape.makes (Call.Poll op) new kind mint h) = absurd mint
      polled_so (shape.makes (Call.PollNext receiver) new kind mint h) = absurd mint
      polled_so (shape.spends (Call.Poll op) new r mint h) = absurd mint
      polled_so (shape.spends (Call.PollNext receiver) new r mint h) = absurd mint
      polled_so x = tt

      -- however it is answered
      pub poll_cases : (w : Waiter) (a : Answer T) → is_among w s.waiting.woken ≡ true → Answers s (poll_of w) a → Cases w s.waiting P → P a.after.waiting a.woken
      poll_cases (Op op) a e answers c = polled_so (shape_of s (Call.Poll op) a answers) e c
      poll_cases (Stream receiver) a e answers c = polled_so (shape_of s (Call.PollNext receiver) a answers) e c

pub first_there : (w : Waiter) (ws : List Waiter) → slice_get ws 0 ≡ Some w → is_among w ws ≡ true
first_there w [] e = cc e
first_there w (x ∷ xs) e = let same : x ≡ w = cc e in subst (λ (v : Waiter). is_among w (v ∷ xs) ≡ true) (sym same) (rw (same_refl w) refl)

first_some : (w : Waiter) (ws : List Waiter) → slice_get ws 0 ≡ Some w → 1 ≤ length ws
first_some w [] e = cc e
first_some w (x ∷ xs) e = omega arith

-- ---- the end is nearer

near_cases : (k : Kind) (w : Waiter) (l : Waiting) → Placed k l → is_among w l.woken ≡ true → Cases w l (λ m names. Nearer l m)
near_cases k w l placed e = record {
  left = λ news brief line. left_nearer news line w l e;
  stands = λ line. standing_nearer line w l e (not_untold k line w l placed e);
  takes = gone_nearer Room w l e;
  leaves = just_gone w l e;
  again = again_nearer w l e;
}

pub nearer : {T : Type 0} → (s : State T) → AwakeIn s → (w : Waiter) (a : Answer T) → is_among w s.waiting.woken ≡ true → Answers s (poll_of w) a
    → Nearer s.waiting a.after.waiting
nearer s awake w a e answers =
    poll_cases s (λ m names. Nearer s.waiting m) awake w a e answers (near_cases (line_at s.names) w s.waiting awake.placed e)

-- ---- the woken are a queue: the one that is polled leaves its front, and those that it wakes come to its end

pub Follows : Waiter → Waiting → Waiting → List Waiter → Type 0
Follows w l m names = m.woken ≡ without_waiter w l.woken ++ names

not_told : (k : Kind) (news : News) (w : Waiter) (l : Waiting) → Placed k l → is_among w l.woken ≡ true → is_among w (told_by news l) ≡ false
not_told k news w l p e = by (decided (is_among w (told_by news l)))
  where
    never : {A : Type 0} (b : Bool) → b ≡ true → b ≡ false → A
    never b f g = let no : true ≡ false = sym f ∙ g in cc

    by : (is_among w (told_by news l) ≡ true) ⊎ (is_among w (told_by news l) ≡ false) → is_among w (told_by news l) ≡ false
    by (inr t) = t
    by (inl t) = let stood = told_stood news w l t in never (is_among w (untold stood.0 l)) stood.1 (not_untold k stood.0 w l p e)

module _ (k : Kind) (w : Waiter) (l : Waiting) (placed : Placed k l) (e : is_among w l.woken ≡ true) where
  left_follows : (news : News) (line : WaitList) → Follows w l (left_after news line w l) (told_after news line w l)
  unfolding Follows
  left_follows news line =
      let told = after_news news l in
      let new = told_by news l in
      let more = told_by (passed_on line w told) (gone w told) in
      let kept : without_waiter w new ≡ new = without_absent w new (not_told k news w l placed e) in
      ap (λ (ws : List Waiter). ws ++ more) (filter-append (λ (v : Waiter). not (same_waiter w v)) l.woken new)
      ∙ (ap (λ (ws : List Waiter). (without_waiter w l.woken ++ ws) ++ more) kept ∙ append_assoc (without_waiter w l.woken) new more)

  stands_follows : (line : WaitList) → Follows w l (standing line w l) []
  unfolding Follows
  stands_follows line = rw (not_untold k line w l placed e) (woken_end line w l ∙ sym (append-nil (without_waiter w l.woken)))

  leaves_follows : Follows w l (gone w l) []
  unfolding Follows
  leaves_follows = sym (append-nil (without_waiter w l.woken))

  takes_follows : Follows w l (after_news Room (gone w l)) (told_by Room (gone w l))
  unfolding Follows
  takes_follows = refl

  again_follows : Follows w l (standing Streams w (gone w l)) []
  unfolding Follows
  again_follows =
      rw (none_left w l.streams)
      (woken_end Streams w (gone w l) ∙ (without_absent w (without_waiter w l.woken) (none_left w l.woken) ∙ sym (append-nil (without_waiter w l.woken))))

  follow_cases : Cases w l (λ m names. Follows w l m names)
  follow_cases = record { left = λ news brief line. left_follows news line; stands = stands_follows; takes = takes_follows; leaves = leaves_follows; again = again_follows }

first_absent : (w : Waiter) (ws : List Waiter) → times w (w ∷ ws) ≤ 1 → is_among w ws ≡ false
first_absent w ws h = by (decided (is_among w ws))
  where
    here : times w (w ∷ ws) ≡ suc (times w ws)
    here = rw (same_refl w) refl

    by : (is_among w ws ≡ true) ⊎ (is_among w ws ≡ false) → is_among w ws ≡ false
    by (inr t) = t
    by (inl t) = absurd (let one = among_counts w ws t in omega (arith, h, here, one))

without_first : (w : Waiter) (ws : List Waiter) → slice_get ws 0 ≡ Some w → times w ws ≤ 1 → without_waiter w ws ≡ drop 1 ws
without_first w [] e h = refl
without_first w (x ∷ xs) e h =
    let same : w ≡ x = cc e in
    let absent : is_among w xs ≡ false = first_absent w xs (subst (λ (v : Waiter). times w (v ∷ xs) ≤ 1) (sym same) h) in
    subst (λ (v : Waiter). without_waiter w (v ∷ xs) ≡ xs) same (rw (same_refl w) (without_absent w xs absent))

-- so settling may keep the woken in a queue of its own
pub woken_next : {T : Type 0} → (s : State T) → AwakeIn s → (w : Waiter) (a : Answer T) → slice_get s.waiting.woken 0 ≡ Some w → Answers s (poll_of w) a
    → a.after.waiting.woken ≡ drop 1 s.waiting.woken ++ a.woken
unfolding Follows
woken_next s awake w a front answers =
    let e = first_there w s.waiting.woken front in
    let all : times w s.waiting.sends + times w s.waiting.receives + times w s.waiting.streams + times w s.waiting.closings + times w s.waiting.woken ≤ 1 = awake.placed.once w in
    let f : a.after.waiting.woken ≡ without_waiter w s.waiting.woken ++ a.woken =
    poll_cases s (λ m names. Follows w s.waiting m names) awake w a e answers (follow_cases (line_at s.names) w s.waiting awake.placed e) in
    f ∙ ap (λ (ws : List Waiter). ws ++ a.woken) (without_first w s.waiting.woken front (omega (arith, all)))

-- ---- how many are woken by one poll

pub first_one : (ws : List Waiter) → length (take 1 ws) ≤ 1
first_one [] = omega arith
first_one (w ∷ ws) = omega arith

pub few_first : (b : Bool) (line : WaitList) (l : Waiting) → length (told_by (if b then NextIn line else Nothing) l) ≤ 1
few_first true line l = first_one (untold line l)
few_first false line l = omega arith

pub few_passed : (line : WaitList) (w : Waiter) (l m : Waiting) → length (told_by (passed_on line w l) m) ≤ 1
few_passed Sends w l m = few_first (is_among w l.woken) Sends m
few_passed Receives w l m = few_first (is_among w l.woken) Receives m
few_passed Streams w l m = few_first (is_among w l.woken && not (list_any is_stream (without_waiter w l.woken))) Streams m
few_passed Closings w l m = omega arith

-- ---- how many polls are left

pairs_up : (m n : ℕ) → m ≤ n → pairs m ≤ pairs n
pairs_up zero n h = omega arith
pairs_up (suc m) zero h = absurd (omega (arith, h))
pairs_up (suc m) (suc n) h = let i = pairs_up m n (omega (arith, h)) in omega (arith, h, i)

-- w(w+1)/2
twice_pairs : (w : ℕ) → 2 * (pairs w + w) ≡ w * (w + 1)
twice_pairs zero = refl
twice_pairs (suc n) =
    let i = twice_pairs n in
    let a = suc-mul n (suc n + 1) in
    let b = mul-suc n (n + 1) in
    let same : suc n + 1 ≡ suc (n + 1) = omega arith in
    let c : n * (suc n + 1) ≡ n * suc (n + 1) = ap (λ x. n * x) same in
    omega (arith, i, a, b, c)

woken_few : (l : Waiting) → length l.woken ≤ pending_count l
woken_few l = omega arith

pub fewer_left : (l m : Waiting) → 1 ≤ length l.woken → Nearer l m → suc (polls_left m) ≤ polls_left l
unfolding Nearer
fewer_left l m some (inr (h, k)) = let p = pairs_up (pending_count m) (pending_count l) h in omega (arith, p, k)
fewer_left l m some (inl h) =
    let p = pairs_up (suc (pending_count m)) (pending_count l) h in
    let q = woken_few m in
    omega (arith, p, q, some)

few_woken : (k : Kind) (line : WaitList) (n : ℕ) (l : Waiting) → l.woken ≡ [] → Enough k line n l → (untold line l ≡ []) ⊎ (n ≡ 0)
few_woken k line n l none (inl e) = inl e
few_woken k line n l none (inr h) =
    let nobody = ap (λ (ws : List Waiter). count_of k line ws) none in inr (omega (arith, h, nobody))

-- ---- settling

module _ {T : Type 0} where
  pub record Polled (s t : State T) (n : ℕ) : Type 0 where
    pub awake : AwakeIn t
    pub left : n + polls_left t.waiting ≤ polls_left s.waiting

  pub polled : (s t : State T) (ps : List (Waiter × Reply T)) → AwakeIn s → SettlesTo s ps t → Polled s t (length ps)
  polled s t [] awake same = record {
    awake = subst (λ (x : State T). AwakeIn x) (sym same) awake;
    left = subst (λ (x : State T). 0 + polls_left x.waiting ≤ polls_left s.waiting) (sym same) (omega arith);
  }
  polled s t (p ∷ ps) awake (front, (mid, names, answers, more)) =
      let a : Answer T = record { after = mid; reply = p.1; woken = names } in
      let near = nearer s awake p.0 a (first_there p.0 s.waiting.woken front) answers in
      let fewer = fewer_left s.waiting mid.waiting (first_some p.0 s.waiting.woken front) near in
      let on = polled mid t ps (poll_awake s p.0 a awake answers) more in
      let left = on.left in
      record { awake = on.awake; left = omega (arith, fewer, left) }

  pub settling_ends : (s t : State T) (ps : List (Waiter × Reply T)) → AwakeIn s → SettlesTo s ps t
      → 2 * length ps ≤ pending_count s.waiting * (pending_count s.waiting + 1)
  settling_ends s t ps awake settles =
      let on = polled s t ps awake settles in
      let left = on.left in
      let few = woken_few s.waiting in
      let twice = twice_pairs (pending_count s.waiting) in
      omega (arith, left, few, twice)

  pub settles_to : (s t : State T) (ps : List (Waiter × Reply T)) → Settles s ps t → SettlesTo s ps t × (t.waiting.woken ≡ [])
  settles_to s t [] (none, same) = (same, ap (λ (x : State T). x.waiting.woken) same ∙ none)
  settles_to s t (p ∷ ps) (front, (mid, names, answers, more)) = let on = settles_to mid t ps more in ((front, (mid, names, answers, on.0)), on.1)

  -- one more poll may follow where anybody is woken
  pub settle_more : (s t u : State T) (ps : List (Waiter × Reply T)) (w : Waiter) (r : Reply T) (names : List Waiter)
      → SettlesTo s ps t → slice_get t.waiting.woken 0 ≡ Some w → Answers t (poll_of w) (record { after = u; reply = r; woken = names })
      → SettlesTo s (ps ++ (w, r) ∷ []) u
  settle_more s t u [] w r names same front answers =
      let here : slice_get s.waiting.woken 0 ≡ Some w = subst (λ (x : State T). slice_get x.waiting.woken 0 ≡ Some w) same front in
      let says : Answers s (poll_of w) (record { after = u; reply = r; woken = names }) =
      subst (λ (x : State T). Answers x (poll_of w) (record { after = u; reply = r; woken = names })) same answers in
      (here, (u, names, says, refl))
  settle_more s t u (p ∷ ps) w r names (f, (mid, ns, a, more)) front answers =
      (f, (mid, ns, a, settle_more mid t u ps w r names more front answers))

  pub settle_ends : (s t : State T) (ps : List (Waiter × Reply T)) → SettlesTo s ps t → t.waiting.woken ≡ [] → Settles s ps t
  settle_ends s t [] same none = (ap (λ (x : State T). x.waiting.woken) (sym same) ∙ none, same)
  settle_ends s t (p ∷ ps) (f, (mid, ns, a, more)) none = (f, (mid, ns, a, settle_ends mid t ps more none))

  -- ---- at rest

  pub at_rest : (s t : State T) (ps : List (Waiter × Reply T)) → AwakeIn s → Settles s ps t → (t.waiting.woken ≡ []) × NobodyGoesOn t
  at_rest s t ps awake settles =
      let to = settles_to s t ps settles in
      let a = (polled s t ps awake to.0).awake in
      let k = line_at t.names in
      let n = length t.channel.messages in (
        to.1,
        record {
          receives = few_woken k Receives n t.waiting to.1 a.receives;
          sends = λ o. few_woken k Sends (free_places t.channel.capacity n) t.waiting to.1 (a.sends o);
          unbounded = a.unbounded;
          streams = a.streams;
          opened = a.opened;
        },
      )
