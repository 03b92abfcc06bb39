-- How many are told: no more than those whose names are pending and woken, and the calls that have a listener in hand.
use Rattle.std.specs.Prelude.{◌≡◌, ◌+◌, ◌≤◌, if◌then◌else◌, ◌∷◌, ◌++◌}
use Rattle.channel_world_runs.proofs.Lemmas.{zero, arith, ℕ, suc, Bool, true, false, cond, List, [], length, length-append, Option, None, Some, inl, inr, refl, sym, ap, ◌∙◌, subst, sum_by-cons, count_by, keys_of, Phase, trying, displaced, appended, taken, QueueAsk, Key, Channel, Mark, Append, Replace, Close, Listeners, listeners, ChannelAsk, ListenerRef, WaitList, Sends, Receives, Streams, Closings, Trying, Working, TellReceive, TellSend, TellSends, line_sound, line_refl, is_line, line_at, same_line, Waiter, TryAt, HasTaken, StageAt, ToldAt, MarkedMoment, TookAll, ActiveCall, Configuration, AllKnown, Telling, one_of, more_of, all_of, owed_for, owed_takings, with_taking, takings, owed_besides, is_trying, is_trying_anew, total, has_appended, is_to_tell_receive, counts_for_receives, has_taken, has_displaced, is_to_tell_send, is_on_its_way, counts_for_sends, names_of, woken_on, IsMarked, WokenSound, IsAmong, NoneTwice, AnyOf, NameStatus, waits, status, holding, line_asked, Together, HoldsIn, Holder, named, calling, Owned, NameState, Agent, NameTable, unless_told, all_freed, Purpose, at_it, to_send, among_left, among_right, among_of, none_parts, line_is}
use Rattle.concurrent_queue.specs.Queue.{Stage}
use Rattle.channel_calls.specs.declared.stage.Stage as stage
use Rattle.channel_world_runs.proofs.OwedConfigurations.{is_sending, is_receiving}
use Rattle.channel_world_runs.proofs.OwnerTogether.{HasIt}
use Rattle.channel_world_runs.proofs.OwnerWokenLists.{key_of_entry}

-- ---- keys without repeats that are among others are no more than these

pub record Without (k : Key) (ls : List Key) : Type 0 where
  pub rest : List Key
  pub fewer : length ls ≡ suc (length rest)
  pub others : (j : Key) → (j ≡ k → ⊥) → IsAmong j ls → IsAmong j rest

without : (k : Key) (ls : List Key) → IsAmong k ls → Without k ls
without k [] h = absurd h
without k (l ∷ ls) (inl e) =
    record { rest = ls; fewer = refl; others = λ j other i. by j other i }
  where
    by : (j : Key) → (j ≡ k → ⊥) → IsAmong j (l ∷ ls) → IsAmong j ls
    by j other (inl f) = absurd (other (sym f ∙ e))
    by j other (inr i) = i
without k (l ∷ ls) (inr h) =
    let w = without k ls h in
    record { rest = l ∷ w.rest; fewer = ap (λ n. suc n) w.fewer; others = λ j other i. by w j other i }
  where
    by : (w : Without k ls) (j : Key) → (j ≡ k → ⊥) → IsAmong j (l ∷ ls) → IsAmong j (l ∷ w.rest)
    by w j other (inl f) = inl f
    by w j other (inr i) = inr (w.others j other i)

pub no_more : (ks ls : List Key) → NoneTwice ks → ((k : Key) → IsAmong k ks → IsAmong k ls) → length ks ≤ length ls
no_more [] ls once f = omega arith
no_more (k ∷ ks) ls once f =
    let w = without k ls (f k (inl refl)) in
    let fewer = w.fewer in
    let rest = no_more ks w.rest once.1 (λ j i. w.others j (λ e. once.0 (subst (λ (x : Key). IsAmong x ks) e i)) (f j (inr i))) in
    omega (arith, fewer, rest)

-- ---- how many pass a test

abbrev pub one_if : Bool → ℕ
one_if b = cond b 1 0

-- of a list with a first element: that one, if it passes, and those behind it
pub count_first : {A : Type 0} (test : A → Bool) (x : A) (xs : List A) → count_by test (x ∷ xs) ≡ one_if (test x) + count_by test xs
count_first test x xs = sum_by-cons (λ y. one_if (test y)) x xs

-- ---- the keys of those that are pending, and of calls

-- its listener, if it is one of this line
abbrev key_on : WaitList → NameStatus → List Key
key_on line (waits h) = if same_line line h.line then h.key ∷ [] else []
key_on line p = []

abbrev hand_key : WaitList → Option ListenerRef → List Key
hand_key line None = []
hand_key line (Some h) = if same_line line h.line then h.key ∷ [] else []

abbrev pub in_hand : WaitList → Option ListenerRef → ℕ
in_hand line None = 0
in_hand line (Some h) = one_if (same_line line h.line)

one_key : (b : Bool) (k : Key) → length (if b then k ∷ [] else []) ≡ one_if b
one_key true k = refl
one_key false k = refl

hand_key_length : (line : WaitList) (o : Option ListenerRef) → length (hand_key line o) ≡ in_hand line o
hand_key_length line None = refl
hand_key_length line (Some h) = one_key (same_line line h.line) h.key

there_if : (b : Bool) (k : Key) → b ≡ true → IsAmong k (if b then k ∷ [] else [])
there_if true k e = inl refl
there_if false k e = absurd (let no : false ≡ true = e in cc)

one_most : (b : Bool) → one_if b ≤ 1
one_most true = omega arith
one_most false = omega arith

hand_most : (line : WaitList) (o : Option ListenerRef) → in_hand line o ≤ 1
hand_most line None = omega arith
hand_most line (Some h) = one_most (same_line line h.line)

-- a call of another list has none of this one in hand
abbrev Lined : Option WaitList → Option ListenerRef → Type 0
Lined l o = (h : ListenerRef) → o ≡ Some h → l ≡ Some h.line

-- of this list no more than one, and none if the call is of another
hand_by : (line : WaitList) (l : Option WaitList) (o : Option ListenerRef) → Lined l o → in_hand line o ≤ one_if (is_line line l)
hand_by line l None f = omega arith
hand_by line l (Some h) f =
    let same : one_if (is_line line l) ≡ one_if (same_line line h.line) = ap (λ (x : Option WaitList). one_if (is_line line x)) (f h refl) in
    omega (arith, same)

-- ---- what was taken and not announced

mark_never : (n : ℕ) (m : Mark) → IsAmong (more_of n Sends) (owed_for m) → ⊥
mark_never n Append (inl e) = absurd (let no : one_of Receives ≡ more_of n Sends = e in cc)
mark_never n Append (inr (inl e)) = absurd (let no : all_of Streams ≡ more_of n Sends = e in cc)
mark_never n Append (inr (inr h)) = h
mark_never n Replace (inl e) = absurd (let no : one_of Receives ≡ more_of n Sends = e in cc)
mark_never n Replace (inr (inl e)) = absurd (let no : all_of Streams ≡ more_of n Sends = e in cc)
mark_never n Replace (inr (inr h)) = h
mark_never n Close (inl e) = absurd (let no : all_of Sends ≡ more_of n Sends = e in cc)
mark_never n Close (inr (inl e)) = absurd (let no : all_of Receives ≡ more_of n Sends = e in cc)
mark_never n Close (inr (inr (inl e))) = absurd (let no : all_of Streams ≡ more_of n Sends = e in cc)
mark_never n Close (inr (inr (inr (inl e)))) = absurd (let no : all_of Closings ≡ more_of n Sends = e in cc)
mark_never n Close (inr (inr (inr (inr h)))) = h
mark_never n m h = h

untold : (n k : ℕ) (told : List Telling) → told ≡ [] → n ≤ k → n ≤ unless_told told k
untold n k told e h = subst (λ (ts : List Telling). n ≤ unless_told ts k) (sym e) h

module _ {T : Type 0} where
  -- ---- calls under way

  abbrev hand_keys : WaitList → List (ActiveCall T Waiter) → List Key
  hand_keys line [] = []
  hand_keys line (u ∷ us) = hand_key line (holding u.at) ++ hand_keys line us

  -- the listeners of this list that calls have in hand
  abbrev pub hands : WaitList → List (ActiveCall T Waiter) → ℕ
  hands line [] = 0
  hands line (u ∷ us) = in_hand line (holding u.at) + hands line us

  hands_length : (line : WaitList) (us : List (ActiveCall T Waiter)) → length (hand_keys line us) ≡ hands line us
  hands_length line [] = refl
  hands_length line (u ∷ us) =
      let both = length-append (hand_key line (holding u.at)) (hand_keys line us) in
      let one = hand_key_length line (holding u.at) in
      let rest = hands_length line us in
      omega (arith, both, one, rest)

  in_hands : (line : WaitList) (k : Key) (q : ℕ) (us : List (ActiveCall T Waiter)) → AnyOf (HasIt q (record { line = line; key = k })) us → IsAmong k (hand_keys line us)
  in_hands line k q [] i = i
  in_hands line k q (u ∷ us) (inl i) = among_left k (hand_key line (holding u.at)) (hand_keys line us) (subst (λ (o : Option ListenerRef). IsAmong k (hand_key line o)) (sym i.1) (there_if (same_line line line) k (line_refl line)))
  in_hands line k q (u ∷ us) (inr i) = among_right k (hand_key line (holding u.at)) (hand_keys line us) (in_hands line k q us i)

  -- ---- names that are woken

  -- the listeners of those of these names who are pending on this line
  abbrev keys_on : WaitList → NameTable T → List Waiter → List Key
  keys_on line r [] = []
  keys_on line r (w ∷ ws) = key_on line (status r w) ++ keys_on line r ws

  -- where all of them are pending, they are as many as those of them who belong to the line
  keys_many : (line : WaitList) (r : NameTable T) (ws : List Waiter) → ((w : Waiter) → IsAmong w ws → (h : ListenerRef) × (status r w ≡ waits h))
      → length (keys_on line r ws) ≡ woken_on line r ws
  keys_many line r [] all = refl
  keys_many line r (w ∷ ws) all =
      let h = all w (inl refl) in
      let both = length-append (key_on line (status r w)) (keys_on line r ws) in
      let here : length (key_on line (status r w)) ≡ one_if (same_line line h.0.line) =
      ap (λ (p : NameStatus). length (key_on line p)) h.1 ∙ one_key (same_line line h.0.line) h.0.key in
      let its : one_if (is_line line (line_at (names_of r) w)) ≡ one_if (same_line line h.0.line) =
      ap (λ (o : Option WaitList). one_if (is_line line o)) (line_is r w h.0 h.1) in
      let rest = keys_many line r ws (λ v i. all v (inr i)) in
      let first = count_first (λ v. is_line line (line_at (names_of r) v)) w ws in
      omega (arith, both, here, its, rest, first)

  -- the listener of one that is pending is among those of its line
  in_keys : (line : WaitList) (k : Key) (r : NameTable T) (w : Waiter) (ws : List Waiter) → IsAmong w ws
      → status r w ≡ waits (record { line = line; key = k }) → IsAmong k (keys_on line r ws)
  in_keys line k r w [] i e = absurd i
  in_keys line k r w (v ∷ ws) (inl same) e =
      among_left k (key_on line (status r v)) (keys_on line r ws)
      (subst (λ (x : NameStatus). IsAmong k (key_on line x)) (sym (ap (status r) same ∙ e))
      (there_if (same_line line line) k (line_refl line)))
  in_keys line k r w (v ∷ ws) (inr i) e =
      among_right k (key_on line (status r v)) (keys_on line r ws) (in_keys line k r w ws i e)

  -- the told listeners of a list are no more than its woken pending names and the calls that have one of it in hand
  pub told_few : (b : NameState T) (s : Configuration T Waiter) (line : WaitList) → Owned b s → WokenSound b s
      → length (listeners line s.now.wait_lists).told ≤ woken_on line b.name_table b.order.woken + hands line s.under_way
  told_few b s line o w =
      let parts = none_parts (keys_of l.told) (keys_of l.waiting) (o.once line) in
      let most = no_more (keys_of l.told) (keys_on line b.name_table b.order.woken ++ hand_keys line s.under_way) parts.left held_so in
      let both = length-append (keys_on line b.name_table b.order.woken) (hand_keys line s.under_way) in
      let woken = keys_many line b.name_table b.order.woken w.pending in
      let hand = hands_length line s.under_way in
      let same = map_length l.told in
      omega (arith, most, both, woken, hand, same)
    where
      l : Listeners Waiter
      l = listeners line s.now.wait_lists

      map_length : {X : Type 0} (es : List (Key × X)) → length (keys_of es) ≡ length es
      map_length [] = refl
      map_length (e ∷ es) = ap (λ n. suc n) (map_length es)

      held_so : (k : Key) → IsAmong k (keys_of l.told) → IsAmong k (keys_on line b.name_table b.order.woken ++ hand_keys line s.under_way)
      held_so k i = by (o.held h (among_left k (keys_of l.told) (keys_of l.waiting) i))
        where
          h : ListenerRef
          h = record { line = line; key = k }

          marked : (v : Waiter) → IsMarked v b.order.woken h s.now → IsAmong v b.order.woken
          marked v (inl m) = m.0
          marked v (inr m) =
              let parts = none_parts (keys_of l.told) (keys_of l.waiting) (o.once line) in
              absurd (parts.apart k i (key_of_entry (k, Some v) l.waiting m.1))

          by : (x : Holder) × HoldsIn (status b.name_table) s.under_way x h
              → IsAmong k (keys_on line b.name_table b.order.woken ++ hand_keys line s.under_way)
          by (named v, e) =
              among_left k (keys_on line b.name_table b.order.woken) (hand_keys line s.under_way)
              (in_keys line k b.name_table v b.order.woken (marked v (w.stands v h e)) e)
          by (calling q, e) =
              among_right k (keys_on line b.name_table b.order.woken) (hand_keys line s.under_way) (in_hands line k q s.under_way e)

  -- ---- what a call counts for

  trying_most : (x : Stage T) → is_trying x ≤ 1
  trying_most (trying b) = omega arith
  trying_most x = omega arith

  anew : (line : WaitList) (at : stage.Stage (Phase T) T Waiter) → is_trying_anew at + in_hand line (holding at) ≤ 1
  anew line (Trying f (Purpose.Poll l None task)) = omega (arith, trying_most f.stage)
  anew line at = let h = hand_most line (holding at) in omega (arith, h)

  appended_most : (x : Stage T) → has_appended x ≤ 1
  appended_most (appended o) = omega arith
  appended_most x = omega arith

  displaced_most : (x : Stage T) → has_displaced x ≤ 1
  displaced_most (displaced o) = omega arith
  displaced_most x = omega arith

  tells_receive : (at : stage.Stage (Phase T) T Waiter) → is_to_tell_receive at ≤ 1
  tells_receive (Trying f a) = appended_most f.stage
  tells_receive (Working (TellReceive x)) = omega arith
  tells_receive at = omega arith

  on_way : (at : stage.Stage (Phase T) T Waiter) → is_on_its_way at ≤ 1
  on_way (Trying f a) = displaced_most f.stage
  on_way at = omega arith

  abbrev May : ChannelAsk T Waiter → ℕ
  May a = one_if (is_sending a) + one_if (is_receiving a)

  -- beside the told receives a call counts for no more than one, and for none if it neither sends nor receives
  receive_weight : (a : ChannelAsk T Waiter) (at : stage.Stage (Phase T) T Waiter) → Lined (line_asked a) (holding at) → counts_for_receives a at + in_hand Receives (holding at) ≤ May a
  receive_weight (ChannelAsk.TrySend m) at f = let h = hand_by Receives None (holding at) f in let k = tells_receive at in omega (arith, h, k)
  receive_weight (ChannelAsk.ForceSend m) at f = let h = hand_by Receives None (holding at) f in let k = tells_receive at in omega (arith, h, k)
  receive_weight (ChannelAsk.PollSend m key task) at f = let h = hand_by Receives (Some Sends) (holding at) f in let k = tells_receive at in omega (arith, h, k)
  receive_weight (ChannelAsk.PollRecv key task) at f = let k = anew Receives at in omega (arith, k)
  receive_weight (ChannelAsk.RefusePoll Sends m key) at f = let h = hand_by Receives (Some Sends) (holding at) f in omega (arith, h)
  receive_weight (ChannelAsk.GiveUp Sends m key) at f = let h = hand_by Receives (Some Sends) (holding at) f in omega (arith, h)
  receive_weight a at f = let h = hand_by Receives (line_asked a) (holding at) f in omega (arith, h)

  -- ---- what was taken and not announced

  besides_never : (n : ℕ) (ds : List (MarkedMoment T Waiter)) → IsAmong (more_of n Sends) (owed_besides ds) → ⊥
  besides_never n [] h = h
  besides_never n (d ∷ ds) h = elim (among_of (more_of n Sends) (owed_for d.mark) (owed_besides ds) h) [
    | inl i ↦ mark_never n d.mark i
    | inr i ↦ besides_never n ds i
  ]

  never_last : (n : ℕ) (told : List Telling) (ds : List (MarkedMoment T Waiter)) → told ++ more_of n Sends ∷ [] ≡ owed_besides ds → ⊥
  never_last n told ds e =
      besides_never n ds (subst (λ (ts : List Telling). IsAmong (more_of n Sends) ts) e (among_right (more_of n Sends) told (more_of n Sends ∷ []) (inl refl)))

  -- a call that is to tell so many sends has told nobody, and has taken as many messages
  to_announce : (n k : ℕ) (told : List Telling) (ds : List (MarkedMoment T Waiter)) → told ++ more_of n Sends ∷ [] ≡ owed_takings k ++ owed_besides ds → n ≤ unless_told told k
  to_announce n zero told ds e = absurd (never_last n told ds e)
  to_announce n (suc k) [] ds e = let same : n ≡ suc k = cc e in omega (arith, same)
  to_announce n (suc k) (t ∷ ts) ds e = absurd (let rest : ts ++ more_of n Sends ∷ [] ≡ owed_besides ds = cc e in never_last n ts ds rest)

  takings_both : (before mine : List (MarkedMoment T Waiter)) (taken : List T) → TookAll before taken → takings (before ++ mine) ≡ length taken + takings mine
  takings_both [] mine [] h = omega arith
  takings_both (d ∷ before) mine (v ∷ vs) h =
      let one : takings ((d ∷ before) ++ mine) ≡ suc (takings (before ++ mine)) = ap (λ (m : Mark). with_taking m (takings (before ++ mine))) h.0 in
      let rest = takings_both before mine vs h.2 in
      omega (arith, one, rest)
  takings_both before mine vs h = absurd h

  try_takes : (now : Channel T Waiter) (a : QueueAsk T) (x : Stage T) (ds : List (MarkedMoment T Waiter)) (seen : List (Channel T Waiter)) → TryAt now a x ds seen → has_taken x ≤ takings ds
  try_takes now QueueAsk.Pop (taken v) [] seen h = absurd h
  try_takes now QueueAsk.Pop (taken v) (d ∷ []) seen h = let one : with_taking d.mark 0 ≡ 1 = ap (λ (m : Mark). with_taking m 0) h.0 in omega (arith, one)
  try_takes now QueueAsk.Pop (taken v) (d ∷ e ∷ ds) seen h = absurd h
  try_takes now a (taken v) ds seen h = absurd h
  try_takes now a x ds seen h = omega arith

  tries_take : (now : Channel T Waiter) (vs : List T) (a : QueueAsk T) (x : Stage T) (ds mine : List (MarkedMoment T Waiter)) (seen : List (Channel T Waiter)) → HasTaken vs ds mine seen
      → TryAt now a x mine seen → length vs + has_taken x ≤ takings ds
  tries_take now vs a x ds mine seen t h =
      let all : takings ds ≡ takings (t.before ++ mine) = ap (λ (xs : List (MarkedMoment T Waiter)). takings xs) t.all in
      let both = takings_both t.before mine vs t.took in
      let one = try_takes now a x mine seen h in
      omega (arith, all, both, one)

  -- no more are to be told than were taken and not announced
  announces : (now : Channel T Waiter) (a : ChannelAsk T Waiter) (at : stage.Stage (Phase T) T Waiter) (told : List Telling) (ds : List (MarkedMoment T Waiter)) (seen : List (Channel T Waiter))
      → StageAt now a at ds seen → ToldAt told at ds → is_to_tell_send at ≤ unless_told told (takings ds)
  announces now a (Trying f (Purpose.RecvMany g)) told ds seen h k = untold _ (takings ds) told k (let t = h.1 in tries_take now g.taken f.ask f.stage ds t.0 seen t.1 t.2)
  announces now a (Trying f y) told ds seen h k = untold _ (takings ds) told k (try_takes now f.ask f.stage ds seen h.1)
  announces now a (Working (TellSend x)) told ds seen h k = to_announce 1 (takings ds) told ds k
  announces now a (Working (TellSends n x)) told ds seen h k = to_announce n (takings ds) told ds k
  announces now a at told ds seen h k = omega arith

  module _ (now : Channel T Waiter) (at : stage.Stage (Phase T) T Waiter) (told : List Telling) (ds : List (MarkedMoment T Waiter)) (seen : List (Channel T Waiter)) where
    -- beside the told sends a sending call counts for no more than one, and any other for what it has not announced
    send_weight : (a : ChannelAsk T Waiter) → StageAt now a at ds seen → ToldAt told at ds → Lined (line_asked a) (holding at)
        → counts_for_sends a at + in_hand Sends (holding at) ≤ one_if (is_sending a) + unless_told told (takings ds)
    send_weight ChannelAsk.TryRecv s t f = let h = hand_by Sends None (holding at) f in let k = announces now ChannelAsk.TryRecv at told ds seen s t in omega (arith, h, k)
    send_weight (ChannelAsk.RecvMany n) s t f = let h = hand_by Sends None (holding at) f in let k = announces now (ChannelAsk.RecvMany n) at told ds seen s t in omega (arith, h, k)
    send_weight (ChannelAsk.ForceSend m) s t f = let h = hand_by Sends None (holding at) f in let k = on_way at in omega (arith, h, k)
    send_weight (ChannelAsk.PollRecv key task) s t f = let h = hand_by Sends (Some Receives) (holding at) f in let k = announces now (ChannelAsk.PollRecv key task) at told ds seen s t in omega (arith, h, k)
    send_weight (ChannelAsk.PollNext key task) s t f = let h = hand_by Sends (Some Streams) (holding at) f in let k = announces now (ChannelAsk.PollNext key task) at told ds seen s t in omega (arith, h, k)
    send_weight (ChannelAsk.PollSend m key task) s t f = let k = anew Sends at in omega (arith, k)
    send_weight (ChannelAsk.RefusePoll Sends m key) s t f = let h = hand_by Sends (Some Sends) (holding at) f in omega (arith, h)
    send_weight (ChannelAsk.GiveUp Sends m key) s t f = let h = hand_by Sends (Some Sends) (holding at) f in omega (arith, h)
    send_weight a s t f = let h = hand_by Sends (line_asked a) (holding at) f in omega (arith, h)

  -- all calls under way
  abbrev Weighs : WaitList → (ChannelAsk T Waiter → stage.Stage (Phase T) T Waiter → ℕ) → Type 0
  Weighs line weigh = (a : ChannelAsk T Waiter) (at : stage.Stage (Phase T) T Waiter) → Lined (line_asked a) (holding at) → weigh a at + in_hand line (holding at) ≤ May a

  all_weigh : (line : WaitList) (weigh : ChannelAsk T Waiter → stage.Stage (Phase T) T Waiter → ℕ) → Weighs line weigh → (p : Waiter → NameStatus) (agents : List (Agent T)) (us : List (ActiveCall T Waiter)) → Together p agents us
      → total weigh us + hands line us
      ≤ count_by (λ (u : ActiveCall T Waiter). is_sending u.ask) us + count_by (λ (u : ActiveCall T Waiter). is_receiving u.ask) us
  all_weigh line weigh f p [] [] t = omega arith
  all_weigh line weigh f p (a ∷ more) (u ∷ us) t =
      let own = let k = t.0 in k.lines in
      let one = f u.ask u.at own in
      let rest = all_weigh line weigh f p more us t.1 in
      let sending = count_first (λ (v : ActiveCall T Waiter). is_sending v.ask) u us in
      let receiving = count_first (λ (v : ActiveCall T Waiter). is_receiving v.ask) u us in
      omega (arith, one, rest, sending, receiving)
  all_weigh line weigh f p more us t = absurd t

  pub receives_weigh : (b : NameState T) (s : Configuration T Waiter) → Owned b s → total counts_for_receives s.under_way + hands Receives s.under_way ≤ at_it s
  receives_weigh b s o = all_weigh Receives counts_for_receives receive_weight (status b.name_table) b.agents s.under_way o.together

  all_send : (now : Channel T Waiter) (p : Waiter → NameStatus) (agents : List (Agent T)) (us : List (ActiveCall T Waiter)) → Together p agents us → AllKnown now us
      → total counts_for_sends us + hands Sends us ≤ count_by (λ (u : ActiveCall T Waiter). is_sending u.ask) us + all_freed us
  all_send now p [] [] t k = omega arith
  all_send now p (a ∷ more) (u ∷ us) t k =
      let own = let l = t.0 in l.lines in
      let known = k.0 in
      let one = send_weight now u.at u.told u.marks u.seen u.ask known.stands known.tells own in
      let rest = all_send now p more us t.1 k.1 in
      let sending = count_first (λ (v : ActiveCall T Waiter). is_sending v.ask) u us in
      omega (arith, one, rest, sending)
  all_send now p more us t k = absurd t

  pub sends_weigh : (b : NameState T) (s : Configuration T Waiter) → Owned b s → AllKnown s.now s.under_way → total counts_for_sends s.under_way + hands Sends s.under_way ≤ to_send s
  sends_weigh b s o k = all_send s.now (status b.name_table) b.agents s.under_way o.together k
